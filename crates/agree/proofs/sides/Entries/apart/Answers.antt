-- `agree::sides::Entries::apart` meets its contract. By whether it is the end row. Assumes nothing.
use Rattle.agree.specs.SidesLaws.{apart_entry}
use Rattle.agree.proofs.sides.Entries.apart.Goals as goal

pub returns : goal.returns
returns c = let a = c.in-Some.ensures in λ e. apart_entry _ _ _ a.0 (rw a.1 at (c.apart_from.ensures e))

pub returns-in_default : goal.returns-in_default
returns-in_default c = λ e. absurd cc
