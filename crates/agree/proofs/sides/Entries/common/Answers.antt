-- `agree::sides::Entries::common` meets its contract. By whether it is the end row. Assumes nothing.
use Rattle.agree.specs.SidesLaws.{common_entry, common_all}
use Rattle.agree.proofs.sides.Entries.common.Goals as goal

pub returns : goal.returns
returns c = let a = c.in-Some.ensures in common_entry _ _ _ _ a.0 (rw a.1 at c.common.ensures)

pub returns-in_default : goal.returns-in_default
returns-in_default c = common_all _ _ _
