-- `policy_parse::parse_policy` meets its contract: the limit's rows fit. Assumes nothing.
use Rattle.std.proofs.Common.{◌≡◌, ◌≤◌, ℕ, List, length, ◌∙◌, arith}
use Rattle.policy.specs.Policy.{PolicyRow}
use Rattle.policy.specs.Words.{row_limit}
use Rattle.policy_text.specs.declared.Edition.{Edition}
use Rattle.policy_text.specs.Editions.{rules, rows, parse_policy}
use Rattle.policy_round_trip.proofs.AcceptedLaws.{parse_printable}
use Rattle.policy_parse.specs.FileLaws.{rows_written, of_edition_1}
use Rattle.policy_parse.proofs.parse_policy.Goals as goal

-- A policy that was taken has at most the limit's rows.
few : (s : List ℕ) (e : Edition) (rs : List PolicyRow) → parse_policy row_limit s ≡ rows (rules e rs) → length rs ≤ row_limit
few s e rs h = (parse_printable row_limit s (rules e rs) h).1

pub put_rows-requires : goal.put_rows-requires
put_rows-requires c =
    let h = c.in_ok-policy.ensures in
    omega (arith, few c.args.bytes.now c.in_ok-policy.policy.edition h.0.0 h.0.1.0, h.0.1.1)

pub returns-clause-rows_after : goal.returns-clause-rows_after
returns-clause-rows_after c =
    let a = c.args in
    let p = c.in_ok-policy.policy in
    let h = c.in_ok-policy.ensures in
    let w = rows_written row_limit a.bytes.now h.0.0 (of_edition_1 h.0.1.0) a.rows.now p.count h.0.1.1 (omega (arith, few a.bytes.now p.edition h.0.0 h.0.1.0, h.0.1.1)) in
    rw h.0.1.0 (c.put_rows.ensures ∙ rw h.1 w)
