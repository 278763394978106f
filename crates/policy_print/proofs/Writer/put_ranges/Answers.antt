-- `policy_print::Writer::put_ranges` meets its contract: field after field. Assumes nothing.
use Rattle.policy_print.specs.PrintingLaws.{puts_then, puts_none}
use Rattle.policy_print.proofs.Writer.put_ranges.Goals as goal

pub returns : goal.returns
returns c =
    puts_then c.put_range.ensures
    (puts_then c.put_range-2.ensures
    (puts_then c.put_range-3.ensures
    (puts_then c.put_range-4.ensures
    (puts_then c.put_range-5.ensures puts_none))))
