-- `same_policy::same_policy` meets its contract: the rows of two files that are taken are compared, and there is one edition. Assumes nothing.
use Prim.Native.Nat.{◌*◌}
use Rattle.std.proofs.Common.{◌≡◌, sym, ap, ◌∙◌, take}
use Rattle.policy.specs.Words.{row_words, policy_rows, row_limit}
use Rattle.policy_text.specs.declared.Edition.{Edition}
use Rattle.policy_text.specs.Editions.{rules, rows}
use Rattle.policy_text.proofs.EditionsLaws.{only_one}
use Rattle.policy_parse.specs.TakenLaws.{taken}
use Rattle.same_policy.specs.Same.{compared}
use Rattle.same_policy.proofs.SameLaws.{from_map_err, by_agreement}
use Rattle.same_policy.proofs.same_policy.Goals as goal

pub returns : goal.returns
returns c =
    let a = c.args in
    let v = c.in_ok-first_rows in
    let w = c.in_ok-second_rows in
    let p = c.parse_policy-first_file.ensures in
    let q = c.parse_policy-second_file.ensures in
    let one = taken row_limit a.first.now _ _ _ p.value p.rows_after v.first_rows (from_map_err _ _ _ _ v.ensures.cases v.ensures.variant) in
    let two = taken row_limit a.second.now _ _ _ q.value q.rows_after w.second_rows (from_map_err _ _ _ _ w.ensures.cases w.ensures.variant) in
    let same = rw (c.first_rows.ensures, c.first_rows-2.ensures) at c.same-same.ensures in
    let edition : v.first_rows.edition ≡ w.second_rows.edition = only_one _ ∙ sym (only_one _) in
    let mine = policy_rows (take (v.first_rows.count * row_words) c.parse_policy-first_file.new.rows) in
    let theirs = policy_rows (take (w.second_rows.count * row_words) c.parse_policy-second_file.new.rows) in
    rw (one.is, two.is)
    (by_agreement a.direction v.first_rows.edition mine theirs c.same-same.result same
    ∙ ap (λ (e : Edition). compared a.direction (rows (rules v.first_rows.edition mine)) (rows (rules e theirs))) edition)
