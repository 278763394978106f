-- `policy_parse::put_rows` meets its contract. The loop's invariant: all is written where the lines left are written into what the room is now. Assumes nothing.
use Rattle.std.proofs.Common.{◌≡◌, ◌-◌, length}
use Rattle.policy_text.specs.Format.{lines_of}
use Rattle.policy_parse.specs.Parsing.{written}
use Rattle.policy_parse.proofs.put_rows.Given as goal

abbrev pub invariant-loop-i : goal.invariant-loop-i
invariant-loop-i l =
    (length l.rows ≡ length l.initial.rows) × (written l.initial.rows 0 (lines_of l.count l.body) ≡ written l.rows l.i (lines_of (l.count - l.i) l.rest))
