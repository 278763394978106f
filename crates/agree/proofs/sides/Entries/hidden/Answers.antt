-- `agree::sides::Entries::hidden` meets its contract. The listed entries cover the box. Assumes nothing.
use Rattle.agree.specs.SidesLaws.{listed_hide}
use Rattle.agree.proofs.sides.Entries.hidden.Goals as goal

pub returns-clause-hidden : goal.returns-clause-hidden
returns-clause-hidden c = λ e. listed_hide _ _ _ _ _ _ c.requires c.before-2.ensures (rw c.deref.ensures.0 at (c.covered.ensures.covered e))
