-- `policy_print::Writer::put_row` meets its contract: piece after piece. Assumes nothing.
use Rattle.policy.specs.Words.{row_at}
use Rattle.policy_text.specs.Print.{row_text}
use Rattle.policy_print.specs.PrintingLaws.{puts_then}
use Rattle.policy_print.proofs.Writer.put_row.Goals as goal

pub returns : goal.returns
unfolding row_text row_at
returns c =
    let action = rw c.from.ensures at c.put_action.ensures in
    let ranges = rw c.ranges_at.ensures at c.put_ranges.ensures in
    puts_then (puts_then c.put_direction.ensures (puts_then c.put.ensures (puts_then action ranges))) c.put-2.ensures
