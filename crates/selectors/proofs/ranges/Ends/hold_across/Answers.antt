-- `selectors::ranges::Ends::hold_across` meets its contract: below the low end, or at most the high end. Assumes nothing.
use mathlib.Core.Path.{sym, ◌∙◌}
use borrow.Author.Tests.{ltb-true, ltb-false}
use Rattle.selectors.proofs.RangeLaws.{contains_below, contains_from}
use Rattle.selectors.proofs.OrderLaws.{value-lt, value-le}
use Rattle.selectors.proofs.ranges.Ends.hold_across.Goals as goal

pub returns-then-lt : goal.returns-then-lt
returns-then-lt c = sym (contains_below _ _ (ltb-true _ _ (sym (value-lt _ _) ∙ sym c.lt.ensures ∙ c.if-lt.true)))

pub returns : goal.returns
returns c =
    c.le.ensures ∙ value-le _ _ ∙ contains_from _ _ (ltb-false _ _ (sym (value-lt _ _) ∙ sym c.lt.ensures ∙ c.if-lt.false))
