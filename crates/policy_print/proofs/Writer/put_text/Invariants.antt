-- `policy_print::Writer::put_text` meets its contract. The loop's invariant: what puts the rest puts the whole text. Assumes nothing.
use Rattle.std.proofs.Common.{drop}
use Rattle.policy_print.specs.declared.Writer.{Writer}
use Rattle.policy_print.specs.Writing.{Puts}
use Rattle.policy_print.proofs.Writer.put_text.Given as goal

abbrev pub invariant-loop-byte : goal.invariant-loop-byte
invariant-loop-byte l = (w : Writer) → Puts l.self (drop l.byte-index l.text) w → Puts l.initial.self l.text w
