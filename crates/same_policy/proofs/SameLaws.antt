-- Two files are the same policy exactly where every search agrees. Assumes nothing.
use Rattle.std.specs.Prelude.{ℕ, ◌≡◌, refl, Bool, true, false, Result, Ok, Err, MatchResult, is_ok, ◌↔◌}
use Rattle.std.proofs.Common.{arith, sym}
use Rattle.std.proofs.lemmas.Bool.{false≢true}
use mathlib.Core.List.{List, [], ◌∷◌, cons-ne-nil}
use Rattle.selectors.specs.declared.Direction.{Direction}
use Rattle.normal_form.specs.Search.{Row}
use Rattle.policy.specs.Policy.{PolicyRow}
use Rattle.policy_text.specs.Editions.{edition_sizes, rules, rows, parse_policy}
use Rattle.policy_text.specs.declared.Edition.{Edition}
use Rattle.layout.specs.Parting.{Parting, difference_form}
use Rattle.decorrelate.specs.Agree.{Agree}
use Rattle.decorrelate.specs.AgreeLaws.{difference_none}
use Rattle.same_policy.specs.Same.{by_difference, compared}

same_empty : (D : List (Row Parting)) → (by_difference D ≡ Ok true) ↔ (D ≡ [])
same_empty [] = (λ e. refl, λ e. refl)
same_empty (r ∷ D) = (λ e. let z : ◌≡◌ {A = ℕ} 0 1 = cc in absurd (omega arith), λ e. absurd (cons-ne-nil r D e))

different_some : (D : List (Row Parting)) → (by_difference D ≡ Ok false) ↔ (D ≡ [] → ⊥)
different_some [] = (λ e. let z : ◌≡◌ {A = ℕ} 0 1 = cc in absurd (omega arith), λ n. absurd (n refl))
different_some (r ∷ D) = (λ e q. cons-ne-nil r D q, λ n. refl)

module _ (limit : ℕ) (d : Direction) (e : Edition) (s t : List ℕ) (rs qs : List PolicyRow)
    (first : parse_policy limit s ≡ rows (rules e rs)) (second : parse_policy limit t ≡ rows (rules e qs)) where
  -- Two files that are policies of one edition are the same exactly where the ordered search gives every combination the same action under both.
  pub same_exactly : (compared d (parse_policy limit s) (parse_policy limit t) ≡ Ok true) ↔ Agree (edition_sizes e) d rs qs
  same_exactly =
      let empty = same_empty (difference_form (edition_sizes e) d rs qs) in
      let agree = difference_none (edition_sizes e) d rs qs in
      rw (first, second) (λ q. agree.0 (empty.0 q), λ h. empty.1 (agree.1 h))

  -- Otherwise they are different.
  pub different_exactly : (compared d (parse_policy limit s) (parse_policy limit t) ≡ Ok false) ↔ (Agree (edition_sizes e) d rs qs → ⊥)
  different_exactly =
      let some = different_some (difference_form (edition_sizes e) d rs qs) in
      let agree = difference_none (edition_sizes e) d rs qs in
      rw (first, second) (λ q h. some.0 q (agree.1 h), λ n. some.1 (λ q. n (agree.0 q)))

-- The answer of a comparison of rows, by whether they agree.
pub by_agreement : (d : Direction) (e : Edition) (rs qs : List PolicyRow) (b : Bool) → (b ≡ true) ↔ Agree (edition_sizes e) d rs qs
    → Ok b ≡ compared d (rows (rules e rs)) (rows (rules e qs))
by_agreement d e rs qs true h = sym ((same_empty (difference_form (edition_sizes e) d rs qs)).1 ((difference_none (edition_sizes e) d rs qs).1 (h.0 refl)))
by_agreement d e rs qs false h =
    sym ((different_some (difference_form (edition_sizes e) d rs qs)).1 (λ q. false≢true (h.1 ((difference_none (edition_sizes e) d rs qs).0 q))))

-- What `map_err` passes on was there.
pub from_map_err : {T E : Type 0} (D : Type 0) (r : Result T E) (v : T) (Q : E → Type 0) → MatchResult r (λ x. ◌≡◌ {A = Result T D} (Ok v) (Ok x)) Q → true ≡ is_ok r
    → r ≡ Ok v
from_map_err D (Ok x) v Q m e = let k : v ≡ x = cc in rw k
from_map_err D (Err y) v Q m e = absurd (false≢true (sym e))
