-- `cover::parts::common` meets its contract. The loop's invariant: all that the box and the row have in common is still in the box `shared`. Assumes nothing.
use Rattle.std.proofs.Common.{◌∙◌}
use Rattle.cover.specs.BoxLaws.{common_none, common_more}
use Rattle.cover.proofs.parts.common.Goals as goal

pub loop-f-init : goal.loop-f-init
loop-f-init c = common_none _ _ _ _

pub loop-f-preserved : goal.loop-f-preserved
loop-f-preserved c =
    let h = c.in-Some.ensures c.loop-f.f c.loop-f-test.true in
    common_more _ _ _ _ c.loop-f.f _ _ _ c.loop-f.auto.f c.loop-f-test.true (c.range_in.ensures ∙ rw (c.table_of.ensures, c.row_of.ensures) at h) c.loop-f.invariant c.narrow.ensures

pub returns-after-loop-f : goal.returns-after-loop-f
returns-after-loop-f c = c.loop-f.invariant

pub returns-in_default : goal.returns-in_default
returns-in_default c = common_none _ _ _ _
