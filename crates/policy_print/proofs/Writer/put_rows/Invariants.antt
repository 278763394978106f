-- `policy_print::Writer::put_rows` meets its contract. The loop's invariant: what puts the rows from i on puts all rows. Assumes nothing.
use Prim.Native.Nat.{◌-◌, ◌/◌}
use Rattle.std.proofs.Common.{length, map}
use Rattle.policy.specs.Words.{row_words, rows_from, policy_rows}
use Rattle.policy_text.specs.Edition1.{edition1}
use Rattle.policy_text.specs.Print.{rows_text, toward}
use Rattle.policy_print.specs.declared.Writer.{Writer}
use Rattle.policy_print.specs.Writing.{Puts}
use Rattle.policy_print.proofs.Writer.put_rows.Given as goal

abbrev pub invariant-loop-i : goal.invariant-loop-i
invariant-loop-i l =
    (w : Writer) → Puts l.self (rows_text edition1 (map (toward l.direction) (rows_from l.rows l.i (length l.rows / row_words - l.i)))) w
    → Puts l.initial.self (rows_text edition1 (map (toward l.direction) (policy_rows l.rows))) w
