-- `row_records::row_matches` meets its contract: the direction first, and then the ranges. Assumes nothing.
use mathlib.Core.Path.{sym, ◌∙◌}
use borrow.Author.Tests.{not-true, not-false}
use Rattle.policy.specs.Policy.{matches}
use Rattle.row_records.proofs.row_matches.Goals as goal

pub returns-then-not-applies_to : goal.returns-then-not-applies_to
unfolding matches
returns-then-not-applies_to c = rw (← c.from.ensures, sym c.applies_to.ensures ∙ not-true _ c.if-not-applies_to.true-raw)

pub returns : goal.returns
unfolding matches
returns c =
    rw (← c.from.ensures, sym c.applies_to.ensures ∙ not-false _ c.if-not-applies_to.false-raw)
    c.ranges_hold.ensures
