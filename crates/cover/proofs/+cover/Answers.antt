-- `cover::+cover` meets its contract.  Assumes nothing.
use Rattle.std.proofs.Common.{arith, rules}
use Rattle.cover.specs.BoxLaws.{rest_all, rest_surveyed, rest_part}
use Rattle.cover.proofs.+cover.Goals as goal

pub loop-left-init : goal.loop-left-init
loop-left-init t c = (search rules, rest_all _ _ _ _ _)

pub returns-in-Covering-clause-covered : goal.returns-in-Covering-clause-covered
returns-in-Covering-clause-covered t c = λ e. rest_surveyed _ _ _ _ _ _ _ c.loop-left.invariant.1 c.survey.ensures c.in-Covering.is

pub loop-left-preserved : goal.loop-left-preserved
loop-left-preserved t c =
    let l = c.loop-left.invariant in
    let near = c.cover.ensures.covered c.if-not-cover.false in
    (omega arith, rest_part _ _ _ _ _ _ _ _ _ _ _ l.1 c.keep_part.ensures near c.keep_part-in-loop-left.ensures)
