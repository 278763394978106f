-- `agree::sides::Entries::on` meets its contract. By whether it is the end row. Assumes nothing.
use Rattle.std.proofs.Common.{sym, ◌∙◌}
use Rattle.agree.specs.SidesLaws.{on-entry, on_end}
use Rattle.agree.proofs.sides.Entries.on.Goals as goal

pub returns : goal.returns
returns c = let a = c.in-Some.ensures in (rw a.1 at c.on.ensures) ∙ sym (on-entry _ _ _ a.0)

pub returns-in_default : goal.returns-in_default
returns-in_default c = sym (on_end _ _ _ c.in_default.ensures)
