-- `cover::stands::stand_one` meets its contract. By the order of the ends. Assumes nothing.
use Rattle.std.proofs.Common.{sym, ◌∙◌}
use borrow.Author.Tests.{leb-true, ltb-false}
use Rattle.selectors.proofs.OrderLaws.{value-lt, value-le}
use Rattle.cover.specs.BoxLaws.{range_covers, field_covered}
use Rattle.cover.proofs.stands.stand_one.Goals as goal

pub returns-then-le : goal.returns-then-le
returns-then-le c = field_covered _ _ _ c.requires.1 (range_covers _ _
    (ltb-false _ _ (sym (value-lt _ _) ∙ sym c.lt-above.ensures ∙ c.if-not-above.true))
    (leb-true _ _ (sym (value-le _ _) ∙ sym c.le.ensures ∙ c.if-le.true)))
