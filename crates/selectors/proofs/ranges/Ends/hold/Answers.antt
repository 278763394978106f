-- `selectors::ranges::Ends::hold` meets its contract: by the lower words where the ends have one upper word, and by the numbers where not. Assumes nothing.
use mathlib.Core.Path.{sym, ◌∙◌}
use borrow.Author.Tests.{ltb-true, ltb-false}
use Rattle.selectors.proofs.RangeLaws.{contains_below, contains_from}
use Rattle.selectors.proofs.BetweenLaws.{same_upper, other_upper}
use Rattle.selectors.proofs.OrderLaws.{value-lt, value-le}
use borrow.Author.Rules.{rules}
use Rattle.selectors.proofs.ranges.Ends.hold.Goals as goal

pub returns-then-value-low : goal.returns-then-value-low
returns-then-value-low c =
    let a = c.args in
    c.within.ensures ∙ same_upper a.self.low a.self.high a.value c.if-low-high.true c.if-value-low.true

pub returns-then-low-high : goal.returns-then-low-high
returns-then-low-high c =
    let a = c.args in
    sym (other_upper a.self.low a.self.high a.value c.if-low-high.true (search rules) (search rules) c.if-value-low.false)
