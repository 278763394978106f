-- `policy_print::Writer::put_file` meets its contract: there is one edition. Assumes nothing.
use Rattle.policy_text.specs.Print.{policy_text}
use Rattle.policy_text.proofs.EditionsLaws.{only_one}
use Rattle.policy_print.specs.PrintingLaws.{puts_then}
use Rattle.policy_print.proofs.Writer.put_file.Goals as goal

pub returns : goal.returns
unfolding policy_text
returns c = rw (only_one c.args.edition) (puts_then c.put_text.ensures c.put_rows.ensures)
