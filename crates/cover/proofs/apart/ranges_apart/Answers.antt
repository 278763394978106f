-- `cover::apart::ranges_apart` meets its contract. By the order of the ends. Assumes nothing.
use Rattle.std.proofs.Common.{sym, ◌∙◌, ltb-true}
use Rattle.selectors.proofs.OrderLaws.{value-lt}
use Rattle.cover.specs.BoxLaws.{range_below, range_above}
use Rattle.cover.proofs.apart.ranges_apart.Goals as goal

pub returns-then-lt : goal.returns-then-lt
returns-then-lt c = λ e. range_below _ _ (ltb-true _ _ (sym (value-lt _ _) ∙ sym c.lt.ensures ∙ c.if-lt.true))

pub returns-else-lt : goal.returns-else-lt
returns-else-lt c = λ e. range_above _ _ (ltb-true _ _ (sym (value-lt _ _) ∙ sym c.lt-else-lt.ensures ∙ e))
