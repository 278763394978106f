-- Printing is injective. Assumes nothing.
use Rattle.std.specs.Prelude.{◌+◌, ◌≡◌}
use Rattle.std.proofs.Common.{arith, sym, ap, ◌∙◌}
use mathlib.Core.List.{List}
use Rattle.std.proofs.Math.ListN.{length}
use Rattle.policy.specs.Policy.{PolicyRow}
use Rattle.policy_text.specs.declared.Edition.{Edition}
use Rattle.policy_text.specs.Print.{policy_text}
use Rattle.policy_text.specs.Editions.{format_of, rules, rows, parse_policy}
use Rattle.policy_round_trip.proofs.FilesLaws.{AllPrintable, parse-printed}

-- Rows of one edition that are printed alike are the same rows.
pub printing_injective : (e : Edition) (rs qs : List PolicyRow) → AllPrintable (format_of e) rs → AllPrintable (format_of e) qs
    → policy_text (format_of e) rs ≡ policy_text (format_of e) qs → rs ≡ qs
printing_injective e rs qs a b same =
    let n = length rs + length qs in
    let both : rows (rules e rs) ≡ rows (rules e qs) = sym (parse-printed n e rs a (omega arith)) ∙ ap (parse_policy n) same ∙ parse-printed n e qs b (omega arith) in
    let one : rules e rs ≡ rules e qs = cc in
    λ i. (one i).entries
