-- `agree::cuts::cutting_among` meets its contract. The loop's invariant: the list has some of the rows so far, and all of them that do not discard or may be met by a listed row. Assumes nothing.
use Rattle.std.proofs.Common.{arith, ◌≡◌, length}
use Rattle.agree.specs.CuttingLaws.{chosen_none, chosen_kept, chosen_passed, cutting_of}
use Rattle.agree.proofs.cuts.cutting_among.Goals as goal
use Rattle.agree.proofs.cuts.cutting_among.Goals.{then-may_cut, else-may_cut}

pub loop-row-init : goal.loop-row-init
loop-row-init c = rw c.requires.list_len.1 (chosen_none _ _)

pub loop-row-preserved : goal.loop-row-preserved
loop-row-preserved c =
    elim c.if-may_cut.branch [
      | then-may_cut w ↦ rw (w.cuts-is, w.push.ensures.items) (chosen_kept _ _ _ _ c.loop-row.invariant)
      | else-may_cut w ↦ rw w.cuts-is (chosen_passed _ _ _ _ c.loop-row.invariant (c.may_cut.ensures w.if-may_cut.false))
    ]

pub returns : goal.returns
returns c =
    let e : c.loop-row.row-index ≡ length c.args.list.now = omega arith in
    let r = c.requires in
    cutting_of _ _ _ _ _ r.field_lt_field_count.0 r.list_len.0 r.field_lt_field_count.1 (rw e at c.loop-row.invariant)
