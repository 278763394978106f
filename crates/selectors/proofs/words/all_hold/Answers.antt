-- `words::all_hold` meets its contract. The loop's invariant: the ranges hold the values if those from the field f on do.
-- Assumes nothing.
use native.Mathlib.Nat.{sub-zero}
use mathlib.Core.Path.{sym, ◌∙◌}
use borrow.Author.Tests.{not-true, not-false}
use Rattle.selectors.proofs.HeldLaws.{holds_go, holds_stop, holds_ended}
use borrow.Author.Rules.{rules}
use Rattle.selectors.proofs.words.all_hold.Goals as goal

pub loop-f-init : goal.loop-f-init
loop-f-init c = rw sub-zero

pub returns-then-not-range_in : goal.returns-then-not-range_in
returns-then-not-range_in c =
    let l = c.loop-f in
    sym (l.invariant
    ∙ holds_stop c.args.words.now c.args.values.now c.args.at l.f c.args.fields (search rules) _ c.value_of.ensures
    (sym c.range_in.ensures ∙ not-true _ c.if-not-range_in.true-raw))

pub loop-f-preserved : goal.loop-f-preserved
loop-f-preserved c =
    let l = c.loop-f in
    l.invariant
    ∙ holds_go c.args.words.now c.args.values.now c.args.at l.f c.args.fields (search rules) _ c.value_of.ensures
    (sym c.range_in.ensures ∙ not-false _ c.if-not-range_in.false-raw)

pub returns : goal.returns
returns c =
    sym (c.loop-f.invariant ∙ holds_ended c.args.words.now c.args.values.now c.args.at c.loop-f.f c.args.fields (search rules))
