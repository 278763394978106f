-- `sad::free_place` meets its contract. The loop's invariant: the first free place of all is the first of the places from `place` on. Assumes nothing.
use Rattle.std.specs.Prelude.{◌≡◌, ◌-◌}
use Rattle.sad.specs.Pairs.{place_count, free_at, free_place, first_from}
use Rattle.sad.proofs.free_place.Given as goal

abbrev pub invariant-loop-place : goal.invariant-loop-place
invariant-loop-place l = free_place l.table ≡ first_from (free_at l.table) l.place (place_count - l.place)
