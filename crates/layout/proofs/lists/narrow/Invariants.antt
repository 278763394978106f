-- `layout::lists::narrow` meets its contract. The loop's invariant: the list has those of the rows so far whose ranges hold the value. Assumes nothing.
use mathlib.Core.Path.{◌≡◌}
use Rattle.std.specs.Prelude.{filter, take}
use Rattle.selectors.specs.Range.{contains}
use Rattle.selectors.specs.Value.{number}
use Rattle.agree.specs.Sides.{range_of}
use Rattle.layout.proofs.lists.narrow.Given as goal

abbrev pub invariant-loop-row : goal.invariant-loop-row
invariant-loop-row l =
    l.list.items ≡ filter (λ r. contains (range_of l.rows r l.field) (number l.value)) (take l.row-index l.old)
