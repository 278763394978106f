-- `agree::sides::Entries::action` meets its contract. By whether it is the end row. Assumes nothing.
use Rattle.std.proofs.Common.{sym, ◌∙◌}
use Rattle.agree.specs.SidesLaws.{action_entry, action_end}
use Rattle.agree.proofs.sides.Entries.action.Goals as goal

pub returns : goal.returns
returns c = let a = c.in-Some.ensures in (rw (c.table_of.ensures, c.row_of.ensures, a.1) at c.action_in.ensures) ∙ sym (action_entry _ _ a.0)

pub returns-in_default : goal.returns-in_default
returns-in_default c = sym (action_end _ _ c.in_default.ensures)
