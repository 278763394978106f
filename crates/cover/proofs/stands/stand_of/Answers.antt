-- `cover::stands::stand_of` meets its contract. The loop's invariant: the row is not outside of the box so far, and holds the box's values in the fields from `field` on and before `f` if it is said to cover it. Assumes nothing.
use Rattle.std.proofs.Common.{arith, ◌∙◌}
use Rattle.cover.specs.BoxLaws.{covers_before, covers_more, covers_all, box_outside, box_covered}
use Rattle.cover.proofs.stands.stand_of.Goals as goal

pub loop-f-init : goal.loop-f-init
loop-f-init c = (λ e. cc, λ e. covers_before _ _ _ _ _ (omega arith))

pub returns-in-Outside : goal.returns-in-Outside
returns-in-Outside c =
    let h = rw (c.table_of.ensures, c.row_of.ensures) at (c.in-Some.ensures c.loop-f.f c.loop-f-test.true) in
    box_outside _ _ _ _ c.loop-f.f _ _ (omega arith) c.loop-f-test.true c.in-Outside.is (rw (c.range_in.ensures ∙ h, c.range_in-in-loop-f.ensures) at c.stand_one-s.ensures)

pub loop-f-preserved : goal.loop-f-preserved
loop-f-preserved c =
    let h = rw (c.table_of.ensures, c.row_of.ensures) at (c.in-Some.ensures c.loop-f.f c.loop-f-test.true) in
    let t = rw (c.range_in.ensures ∙ h, c.range_in-in-loop-f.ensures) at c.stand_one-s.ensures in
    (c.in_default-s.not-Outside, λ e. covers_more _ _ _ _ _ (c.loop-f.invariant.1 (t.covers e).0) (t.covers e).1)

pub returns : goal.returns
returns c = box_covered _ _ _ _ _ c.loop-f.invariant.0 (λ e. covers_all _ _ _ _ _ c.loop-f-test.false (c.loop-f.invariant.1 e))
