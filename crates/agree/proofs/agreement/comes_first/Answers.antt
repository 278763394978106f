-- `agree::agreement::comes_first` meets its contract. By the side of the entry. Assumes nothing.
use Rattle.std.proofs.Common.{sym, ◌∙◌}
use Rattle.agree.specs.SidesLaws.{earlier_other, earlier_own}
use Rattle.agree.proofs.agreement.comes_first.Goals as goal

pub returns-then-on : goal.returns-then-on
returns-then-on c = λ _. earlier_other _ _ _ _ (rw c.other.ensures at (sym c.on.ensures ∙ c.if-on.true))

pub returns-then-j-asked : goal.returns-then-j-asked
returns-then-j-asked c = λ e. earlier_own _ _ _ _ c.if-j-asked.true (sym c.on-then-j-asked.ensures ∙ e)
