-- `policy_parse::check_rows` meets its contract. The loop's invariant: the first bad row of all is that of the lines left, i of them passed. Assumes nothing.
use Rattle.std.proofs.Common.{◌≡◌, ◌+◌, ◌-◌}
use Rattle.policy_text.specs.Edition1.{edition1}
use Rattle.policy_text.specs.Format.{lines_of, rows_of}
use Rattle.policy_parse.specs.Parsing.{bad_of}
use Rattle.policy_parse.proofs.check_rows.Given as goal

abbrev pub invariant-loop-i : goal.invariant-loop-i
invariant-loop-i l = bad_of (rows_of edition1 1 (lines_of l.count l.body)) ≡ bad_of (rows_of edition1 (l.i + 1) (lines_of (l.count - l.i) l.rest))
