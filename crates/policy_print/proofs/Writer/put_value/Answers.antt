-- `policy_print::Writer::put_value` meets its contract: a value's lower word is printed. Assumes nothing.
use Rattle.std.proofs.Common.{rules}
use Rattle.policy_print.specs.PrintingLaws.{address-text, protocol-text}
use Rattle.policy_print.proofs.Writer.put_value.Goals as goal

pub returns-in-Address : goal.returns-in-Address
returns-in-Address c = rw (c.in-Address.is, address-text c.args.value (search rules)) c.put_dotted.ensures

pub returns-in-Protocol : goal.returns-in-Protocol
returns-in-Protocol c = rw (c.in-Protocol.is, protocol-text c.args.value (search rules)) c.put_decimal.ensures
