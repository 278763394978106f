-- `agree::sides::Entries::before` meets its contract. The loop's invariant: the listed codes are those of entries before j. Assumes nothing.
use Rattle.std.proofs.Common.{◌≤◌, length}
use Rattle.agree.specs.Sides.{is_second, Before}
use Rattle.agree.proofs.sides.Entries.before.Given as goal

abbrev pub invariant-loop-j : goal.invariant-loop-j
invariant-loop-j l = (length l.list.items ≤ l.j) × Before l.self.codes.now (is_second l.asked.side) l.asked.row l.j l.list.items
