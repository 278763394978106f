-- `selectors::ranges::within` meets its contract: below the low end, or at most the high end. Assumes nothing.
use mathlib.Core.Path.{sym}
use borrow.Author.Tests.{le-leb}
use Rattle.selectors.specs.Range.{range, contains}
use Rattle.selectors.proofs.RangeLaws.{contains_below}
use Rattle.selectors.proofs.ranges.within.Goals as goal

pub returns-then-value-low : goal.returns-then-value-low
returns-then-value-low c = sym (contains_below (range _ _) _ c.if-value-low.true)

pub returns : goal.returns
unfolding contains
returns c = rw (le-leb _ _ c.if-value-low.false)
