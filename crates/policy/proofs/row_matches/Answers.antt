-- `policy::row_matches` meets its contract: the direction first, and then the ranges. Assumes nothing.
use mathlib.Core.Path.{sym, ◌∙◌}
use borrow.Author.Tests.{not-true, not-false}
use Rattle.policy.specs.Policy.{matches}
use Rattle.policy.specs.Words.{row_at}
use Prim.Native.Nat.{◌+◌}
use borrow.Author.Rules.{rules}
use Rattle.selectors.proofs.HeldLaws.{held_five}
use Rattle.policy.proofs.row_matches.Goals as goal

pub returns-then-not-applies_to : goal.returns-then-not-applies_to
unfolding matches row_at
returns-then-not-applies_to c = rw (← c.from.ensures, sym c.applies_to.ensures ∙ not-true _ c.if-not-applies_to.true-raw)

pub returns : goal.returns
unfolding matches row_at
returns c =
    rw (← c.from.ensures, sym c.applies_to.ensures ∙ not-false _ c.if-not-applies_to.false-raw)
    (c.ranges_hold.ensures ∙ held_five c.args.rows.now (c.args.at + 2) c.args.values.now (search rules))
