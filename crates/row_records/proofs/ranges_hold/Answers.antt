-- `row_records::ranges_hold` meets its contract: field by field, as the definition goes. Assumes nothing.
use mathlib.Core.Path.{sym, ◌∙◌}
use mathlib.Core.Bool.{and-true}
use borrow.Author.Tests.{not-true, not-false}
use Rattle.selectors.specs.Range.{holds}
use Rattle.row_records.proofs.ranges_hold.Goals as goal

pub returns-then-not-holds : goal.returns-then-not-holds
unfolding holds
returns-then-not-holds c = rw (sym c.holds.ensures ∙ not-true _ c.if-not-holds.true-raw)

pub returns-then-not-holds-2 : goal.returns-then-not-holds-2
unfolding holds
returns-then-not-holds-2 c =
    rw (
      sym c.holds.ensures ∙ not-false _ c.if-not-holds.false-raw,
      sym c.holds-2.ensures ∙ not-true _ c.if-not-holds-2.true-raw,
    )

pub returns-then-not-holds-3 : goal.returns-then-not-holds-3
unfolding holds
returns-then-not-holds-3 c =
    rw (
      sym c.holds.ensures ∙ not-false _ c.if-not-holds.false-raw,
      sym c.holds-2.ensures ∙ not-false _ c.if-not-holds-2.false-raw,
      sym c.holds-3.ensures ∙ not-true _ c.if-not-holds-3.true-raw,
    )

pub returns-then-not-holds-4 : goal.returns-then-not-holds-4
unfolding holds
returns-then-not-holds-4 c =
    rw (
      sym c.holds.ensures ∙ not-false _ c.if-not-holds.false-raw,
      sym c.holds-2.ensures ∙ not-false _ c.if-not-holds-2.false-raw,
      sym c.holds-3.ensures ∙ not-false _ c.if-not-holds-3.false-raw,
      sym c.holds-4.ensures ∙ not-true _ c.if-not-holds-4.true-raw,
    )

pub returns : goal.returns
unfolding holds
returns c =
    rw (
      sym c.holds.ensures ∙ not-false _ c.if-not-holds.false-raw,
      sym c.holds-2.ensures ∙ not-false _ c.if-not-holds-2.false-raw,
      sym c.holds-3.ensures ∙ not-false _ c.if-not-holds-3.false-raw,
      sym c.holds-4.ensures ∙ not-false _ c.if-not-holds-4.false-raw,
      and-true,
    ) c.holds-5.ensures
