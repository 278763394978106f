-- `agree::cuts::may_meet` meets its contract. The loop's invariant: the row is apart from the listed rows so far. Assumes nothing.
use Rattle.std.proofs.Common.{ℕ, ◌<◌, get_or}
use Rattle.cover.specs.Boxes.{RowsApart}
use Rattle.agree.proofs.cuts.may_meet.Given as goal

abbrev pub invariant-loop-actor : goal.invariant-loop-actor
invariant-loop-actor l = (k : ℕ) → k < l.actor-index → RowsApart l.rows l.row (get_or l.actors k 0) l.field
