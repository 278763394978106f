-- `cover::rows::range_covers` meets its contract. By the order of the ends. Assumes nothing.
use Rattle.std.proofs.Common.{sym, ◌∙◌}
use borrow.Author.Tests.{leb-true}
use Rattle.selectors.proofs.OrderLaws.{value-le}
use Rattle.cover.specs.BoxLaws.{range_covers}
use Rattle.cover.proofs.rows.range_covers.Goals as goal

pub returns-then-le : goal.returns-then-le
returns-then-le c = λ e. range_covers _ _ (leb-true _ _ (sym (value-le _ _) ∙ sym c.le.ensures ∙ c.if-le.true)) (leb-true _ _ (sym (value-le _ _) ∙ sym c.le-then-le.ensures ∙ e))
