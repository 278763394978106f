-- `agree::sides::Entries::conflicts_hidden` meets its contract. The loop's invariant: no more parts are left than there were, and there is peace from `from` to k. The measure is the count of the entries not looked at. Assumes nothing.
use Rattle.std.proofs.Common.{arith, rules}
use Rattle.agree.specs.SidesLaws.{passed_hidden, peace_none, peace-on}
use Rattle.agree.proofs.sides.Entries.conflicts_hidden.Goals as goal

pub loop-asked-init : goal.loop-asked-init
loop-asked-init c = (search rules, (c.requires, peace_none _ _ _ _ _))

pub returns-in_default-clause-peace : goal.returns-in_default-clause-peace
returns-in_default-clause-peace c = λ _. peace-on _ _ _ _ _ _ c.loop-asked.invariant.1.1 _ (passed_hidden _ _ _ _ _ _ c.common-shared.ensures (c.hidden.ensures.hidden c.if-not-hidden.false)) c.in_default.ensures

pub loop-asked-preserved : goal.loop-asked-preserved
loop-asked-preserved c =
    let n = c.in-Some.ensures in
    (omega arith, (n.1.0, peace-on _ _ _ _ _ _ c.loop-asked.invariant.1.1 _ (passed_hidden _ _ _ _ _ _ c.common-shared.ensures (c.hidden.ensures.hidden c.if-not-hidden.false)) n.1.1))
