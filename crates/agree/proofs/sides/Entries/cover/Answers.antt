-- `agree::sides::Entries::cover` meets its contract. By whether it is the end row. Assumes nothing.
use Rattle.agree.specs.SidesLaws.{covers_entry, covers_end}
use Rattle.agree.proofs.sides.Entries.cover.Goals as goal

pub returns : goal.returns
returns c = let a = c.in-Some.ensures in λ e. covers_entry _ _ _ a.0 (rw a.1 at (c.covers.ensures e))

pub returns-in_default : goal.returns-in_default
returns-in_default c = λ e. covers_end _ _ _ c.in_default.ensures
