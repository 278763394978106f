-- `policy::first_match` meets its contract. The loop's invariant: the match in all rows is the match in the rows from `row` on.
-- Assumes nothing.
use Prim.Native.Nat.{◌-◌}
use mathlib.Core.Path.{◌≡◌}
use Rattle.policy.specs.Policy.{match_from}
use Rattle.selectors.specs.Words.{values_of}
use Rattle.policy.specs.Words.{rows_from, policy_rows}
use Rattle.policy.proofs.first_match.Given as goal

abbrev pub invariant-loop-row : goal.invariant-loop-row
invariant-loop-row l =
    match_from 0 l.direction (policy_rows l.rows) (values_of l.values) ≡ match_from l.row l.direction (rows_from l.rows l.row (l.count - l.row)) (values_of l.values)
