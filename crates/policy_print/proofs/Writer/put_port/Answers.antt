-- `policy_print::Writer::put_port` meets its contract. Assumes nothing.
use Rattle.std.proofs.Common.{rules, sym, ◌∙◌}
use Rattle.policy_print.specs.PrintingLaws.{port-opaque, port-number}
use Rattle.policy_print.proofs.Writer.put_port.Goals as goal

pub returns-then-eq : goal.returns-then-eq
returns-then-eq c = rw (port-opaque c.args.port (sym c.eq.ensures ∙ c.if-eq.true)) c.put_text.ensures

pub returns-else-eq : goal.returns-else-eq
returns-else-eq c = rw (port-number c.args.port (search rules) (sym c.eq.ensures ∙ c.if-eq.false)) c.put_decimal.ensures
