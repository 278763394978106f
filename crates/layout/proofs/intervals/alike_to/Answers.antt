-- `layout::intervals::alike_to` meets its contract: below the range, above it, or in it. Assumes nothing.
use mathlib.Core.Path.{sym, ◌∙◌}
use borrow.Author.Tests.{ltb-true, ltb-false}
use Rattle.selectors.specs.Value.{number}
use Rattle.selectors.specs.Ranges.{ends_range}
use Rattle.selectors.proofs.OrderLaws.{value-lt}
use Rattle.layout.specs.StepsLaws.{less-number, ends_below, ends_above, ends_inside}
use Rattle.layout.proofs.intervals.alike_to.Goals as goal

pub returns-then-lt : goal.returns-then-lt
returns-then-lt c = let a = c.args in
    ends_below (ends_range a.range) _ _ _ a.span.ordered _
    (ltb-true _ _ (sym (value-lt _ _) ∙ sym c.lt.ensures ∙ c.if-lt.true))
    c.previous-before.ensures
    (less-number _ _ _ c.min.ensures)

pub returns-then-lt-2 : goal.returns-then-lt-2
returns-then-lt-2 c = let a = c.args in
    ends_above (ends_range a.range) _ _ (number a.span.last) a.span.ordered
    (ltb-true _ _ (sym (value-lt _ _) ∙ sym c.lt-2.ensures ∙ c.if-lt-2.true))

pub returns : goal.returns
returns c = let a = c.args in
    ends_inside (ends_range a.range) _ _ _ a.span.ordered
    (ltb-false _ _ (sym (value-lt _ _) ∙ sym c.lt.ensures ∙ c.if-lt.false))
    (ltb-false _ _ (sym (value-lt _ _) ∙ sym c.lt-2.ensures ∙ c.if-lt-2.false))
    (less-number _ _ _ c.min-2.ensures)
