-- `agree::sides::Entries::conflict` meets its contract. The loop's invariant: there is peace from `from` to k. Assumes nothing.
use Rattle.agree.specs.Sides.{is_second, sides_in, Peace}
use Rattle.agree.proofs.sides.Entries.conflict.Given as goal

abbrev pub invariant-loop-k : goal.invariant-loop-k
invariant-loop-k l = Peace (sides_in l.self) (is_second l.asked.side) l.asked.row l.from l.k l.bounds.words
