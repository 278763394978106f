-- `layout::room::stamp` meets its contract. The loop's invariant: the rows from a to `row` are stamped. Assumes nothing.
use Prim.Native.Nat.{◌-◌, ◌+◌}
use mathlib.Core.Path.{◌≡◌}
use lib.ListN.{length}
use Rattle.selectors.specs.Value.{number}
use Rattle.selectors.specs.Words.{field_count}
use Rattle.layout.specs.Steps.{Stamped}
use Rattle.layout.proofs.room.stamp.Given as goal

abbrev pub invariant-loop-row : goal.invariant-loop-row
invariant-loop-row l =
    (length l.room ≡ length l.initial.room)
    × Stamped l.field (field_count - (l.field + 1)) l.a l.row (number l.low) (number l.high) l.initial.room l.room
