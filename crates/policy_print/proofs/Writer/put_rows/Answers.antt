-- `policy_print::Writer::put_rows` meets its contract. Assumes nothing.
use Prim.Native.Nat.{◌/◌}
use native.Mathlib.Nat.{sub-zero}
use Rattle.std.proofs.Common.{arith, length}
use Rattle.policy.specs.Words.{row_words}
use Rattle.policy_print.specs.PrintingLaws.{puts_then, puts_none, rows_more, rows_none}
use Rattle.policy_print.proofs.Writer.put_rows.Goals as goal

pub loop-i-init : goal.loop-i-init
loop-i-init c = λ w p. rw sub-zero at p

pub loop-i-preserved : goal.loop-i-preserved
loop-i-preserved c =
    let a = c.args in
    let l = c.loop-i in
    let e = rows_more a.direction a.rows.now l.i (length a.rows.now / row_words) (omega arith) in
    λ w p. l.invariant w (rw e (puts_then c.put_row.ensures p))

pub returns : goal.returns
returns c =
    let a = c.args in
    let l = c.loop-i in
    let e = rows_none a.direction a.rows.now l.i (length a.rows.now / row_words) (omega arith) in
    l.invariant _ (rw e puts_none)
