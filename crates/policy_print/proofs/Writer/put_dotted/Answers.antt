-- `policy_print::Writer::put_dotted` meets its contract: piece after piece. Assumes nothing.
use Rattle.policy_text.specs.Edition1.{dotted}
use Rattle.policy_print.specs.PrintingLaws.{puts_then}
use Rattle.policy_print.proofs.Writer.put_dotted.Goals as goal

pub returns : goal.returns
unfolding dotted
returns c =
    puts_then c.put_decimal.ensures
    (puts_then c.put.ensures
    (puts_then c.put_decimal-2.ensures
    (puts_then c.put-2.ensures
    (puts_then c.put_decimal-3.ensures
    (puts_then c.put-3.ensures
    c.put_decimal-4.ensures)))))
