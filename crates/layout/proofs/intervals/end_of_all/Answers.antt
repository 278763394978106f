-- `layout::intervals::end_of_all` meets its contract. The loop's invariant: the rows before `row` treat all values to `end` alike. Assumes nothing.
use Prim.Native.Nat.{◌/◌}
use native.Mathlib.Omega.{arith}
use mathlib.Core.Path.{◌≡◌}
use lib.ListN.{length}
use Rattle.policy.specs.Words.{row_words}
use Rattle.layout.specs.StepsLaws.{among_start, ends_more}
use Rattle.layout.proofs.intervals.end_of_all.Goals as goal

pub loop-row-init : goal.loop-row-init
loop-row-init c = among_start _ _ _ _ _ _ c.args.span.ordered

pub loop-row-preserved : goal.loop-row-preserved
loop-row-preserved c = ends_more _ _ _ _ _ _ _ _ _ c.loop-row.invariant c.row_end-end.ensures

pub returns : goal.returns
returns c =
    let l = c.loop-row in
    let e : l.row ≡ length c.args.rows.now / row_words = omega arith in
    rw e at l.invariant
