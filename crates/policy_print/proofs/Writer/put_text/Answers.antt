-- `policy_print::Writer::put_text` meets its contract. Assumes nothing.
use Rattle.std.proofs.Common.{arith}
use Rattle.policy_text.proofs.BytesLaws.{left_more, left_none}
use Rattle.policy_print.specs.PrintingLaws.{puts_then, puts_none}
use Rattle.policy_print.proofs.Writer.put_text.Goals as goal

pub loop-byte-init : goal.loop-byte-init
loop-byte-init c = λ w p. p

pub loop-byte-preserved : goal.loop-byte-preserved
loop-byte-preserved c =
    let l = c.loop-byte in
    λ w p. l.invariant w (rw (left_more c.args.text.now l.byte-index (omega arith)) (puts_then c.put.ensures p))

pub returns : goal.returns
returns c = let l = c.loop-byte in l.invariant _ (rw (left_none c.args.text.now l.byte-index (omega arith)) puts_none)
