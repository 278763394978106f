-- `layout::intervals::row_end` meets its contract: a range that ends nothing earlier and a row that is not active are passed over, and another row's range
-- ends the interval. Assumes nothing.
use mathlib.Core.Path.{sym, ◌∙◌}
use mathlib.Core.Bool.{false≢true}
use borrow.Author.Tests.{leb-true}
use Rattle.selectors.proofs.OrderLaws.{value-le}
use Rattle.layout.specs.StepsLaws.{ends_whole, ends_passed, ends-under}
use Rattle.layout.proofs.intervals.row_end.Goals as goal

pub returns-then-le : goal.returns-then-le
returns-then-le c = ends_whole _ _ _ _ c.range_end-end.ensures (leb-true _ _ (sym (value-le _ _) ∙ sym c.le.ensures ∙ c.if-le.true))

pub returns-then-not-active : goal.returns-then-not-active
returns-then-not-active c = ends_passed _ _ 0 c.args.span.ordered (λ t. false≢true (sym c.if-not-active.true ∙ c.active.ensures ∙ t))

pub returns : goal.returns
returns c = ends-under _ _ _ c.range_end-end.ensures
