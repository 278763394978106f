-- `agree::sides::Entries::conflicts_hidden` meets its contract. The loop's invariant: no more parts are left than there were, and there is peace from `from` to k. The measure is the count of the entries not looked at. Assumes nothing.
use Rattle.std.proofs.Common.{suc, ◌≤◌, ◌-◌, length}
use Rattle.agree.specs.Sides.{is_second, sides_in, Peace}
use Rattle.agree.proofs.sides.Entries.conflicts_hidden.Given as goal

abbrev pub invariant-loop-asked : goal.invariant-loop-asked
invariant-loop-asked l =
    (l.left ≤ l.initial.left) × ((l.k ≤ length l.self.codes.now) × Peace (sides_in l.self) (is_second l.asked.side) l.asked.row l.from l.k l.bounds.words)

abbrev pub decreases-loop-asked : goal.decreases-loop-asked
decreases-loop-asked l = suc (length l.self.codes.now) - l.k
