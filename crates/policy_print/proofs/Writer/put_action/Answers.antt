-- `policy_print::Writer::put_action` meets its contract. Assumes nothing.
use Rattle.policy_text.specs.Edition1.{action_text}
use Rattle.policy_print.specs.PrintingLaws.{puts_then}
use Rattle.policy_print.proofs.Writer.put_action.Goals as goal

pub returns-in-Discard : goal.returns-in-Discard
unfolding action_text
returns-in-Discard c = rw c.in-Discard.is c.put_text.ensures

pub returns-in-Bypass : goal.returns-in-Bypass
unfolding action_text
returns-in-Bypass c = rw c.in-Bypass.is c.put_text-in-Bypass.ensures

pub returns-in-Protect : goal.returns-in-Protect
unfolding action_text
returns-in-Protect c = rw c.in-Protect.is (puts_then c.put_text-in-Protect.ensures c.put_decimal.ensures)
