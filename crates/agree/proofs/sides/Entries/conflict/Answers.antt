-- `agree::sides::Entries::conflict` meets its contract. The loop's invariant: there is peace from `from` to k. Assumes nothing.
use Rattle.std.proofs.Common.{arith}
use Rattle.agree.specs.SidesLaws.{peace_none, peace_more, peace_ended, peace_end}
use Rattle.agree.proofs.sides.Entries.conflict.Goals as goal

pub loop-k-init : goal.loop-k-init
loop-k-init c = peace_none _ _ _ _ _

pub returns-in-Conflict : goal.returns-in-Conflict
returns-in-Conflict c = (c.loop-k.auto.k, (omega arith, c.loop-k.invariant))

pub returns-in-End : goal.returns-in-End
returns-in-End c = peace_ended _ _ _ _ _ _ c.loop-k.invariant _ (c.step.ensures.end c.in-End.is)

pub loop-k-preserved : goal.loop-k-preserved
loop-k-preserved c = peace_more _ _ _ _ _ _ c.loop-k.invariant (c.step.ensures.past c.in-Past.is)

pub returns : goal.returns
returns c = peace_end _ _ _ _ _ _ c.loop-k.invariant (omega arith)
