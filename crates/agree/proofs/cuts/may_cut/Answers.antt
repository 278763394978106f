-- `agree::cuts::may_cut` meets its contract. Where it says no, the row discards and is apart from the listed rows. Assumes nothing.
use mathlib.Core.Path.{sym, ◌∙◌}
use mathlib.Core.Bool.{false≢true}
use borrow.Author.Tests.{eqb-true, not-false}
use Rattle.agree.proofs.cuts.may_cut.Goals as goal

pub returns-then-acts : goal.returns-then-acts
returns-then-acts c = λ e. absurd (false≢true (sym e ∙ c.if-acts.true))

pub returns-else-acts : goal.returns-else-acts
returns-else-acts c =
    λ e. (eqb-true _ _ (not-false _ (sym c.acts.ensures ∙ c.if-acts.false)), c.may_meet.ensures e)
