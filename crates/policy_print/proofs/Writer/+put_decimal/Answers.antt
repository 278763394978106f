-- `policy_print::Writer::put_decimal` meets its contract. Assumes nothing.
use Rattle.std.proofs.Common.{arith, rules}
use Rattle.policy_print.specs.PrintingLaws.{puts_then, decimal_one, decimal_more}
use Rattle.policy_print.proofs.Writer.+put_decimal.Goals as goal
use Rattle.policy_print.proofs.Writer.+put_decimal.Goals.{then-n-ge10, else-n-ge10}

pub returns : goal.returns
returns t c =
    let last = rw c.digit.ensures at c.put.ensures in
    elim c.if-n-ge10.branch [
      | then-n-ge10 w ↦ rw (decimal_more c.args.n (omega arith) (search rules)) (puts_then w.put_decimal.ensures (rw (← w.self-is) last))
      | else-n-ge10 w ↦ rw (decimal_one c.args.n (omega arith), ← w.self-is) last
    ]
