-- `sad::place_of` meets its contract. The loop's invariant: the first place of all is the first of the places from `place` on. Assumes nothing.
use Rattle.std.specs.Prelude.{◌≡◌, ◌-◌}
use Rattle.sad.specs.Pairs.{place_count, named_at, place_of, first_from}
use Rattle.sad.proofs.place_of.Given as goal

abbrev pub invariant-loop-place : goal.invariant-loop-place
invariant-loop-place l = place_of l.table l.protocol l.spi_in ≡ first_from (named_at l.table l.protocol l.spi_in) l.place (place_count - l.place)
