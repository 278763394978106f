-- `agree::cuts::acting` meets its contract. The loop's invariant: the list has those of the rows so far that do not discard. Assumes nothing.
use Rattle.std.proofs.Common.{◌≡◌, ◌≤◌, length, filter, take}
use Rattle.agree.specs.Sides.{does_act}
use Rattle.agree.proofs.cuts.acting.Given as goal

abbrev pub invariant-loop-row : goal.invariant-loop-row
invariant-loop-row l =
    (length l.actors.items ≤ l.row-index) × (l.actors.items ≡ filter (λ r. does_act l.rows r) (take l.row-index l.list))
