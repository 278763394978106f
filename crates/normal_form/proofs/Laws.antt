-- The laws of the normal form: searching it gives the function, and equal functions have equal normal forms, and only they.
-- Over any sizes, any leaves whose equality is decided, and any leaf `none` that makes no row. Assumes nothing.
use Rattle.std.specs.Prelude.{ℕ, ◌≡◌, refl, ◌≢◌, ◌↔◌, ◌⊎◌}
use Rattle.std.proofs.Common.{sym, ◌∙◌}
use Rattle.std.proofs.Math.Path.{ap}
use mathlib.Core.List.{List, [], ◌∷◌}
use Rattle.std.proofs.Math.Logic.{inl, inr, ite, ⊎_elim}
use Rattle.selectors.specs.Range.{holds}
use Rattle.normal_form.specs.Search.{row, Combination, find}
use Rattle.normal_form.specs.NormalForm.{rows_of, normal_form}
use Rattle.normal_form.specs.Layout.{Alike}
use Rattle.normal_form.proofs.RunsLaws.{find_rows, runs_ext, runs_longest}

module _ {A : Type 0} (same? : Discrete A) (none : A) where
  -- Behind the last field a function makes one row of its leaf, and no row if that is `none`.
  pub leaf_cases : (f : List ℕ → A)
      → ((f [] ≡ none) × (normal_form same? none [] f ≡ [])) ⊎ ((f [] ≢ none) × (normal_form same? none [] f ≡ row [] (f []) ∷ []))
  unfolding normal_form
  leaf_cases f = by (same? (f []) none)
    where
      by : (d : Dec (f [] ≡ none))
          → ((f [] ≡ none) × (ite d [] (row [] (f []) ∷ []) ≡ [])) ⊎ ((f [] ≢ none) × (ite d [] (row [] (f []) ∷ []) ≡ row [] (f []) ∷ []))
      by (yes e) = inl (e, refl)
      by (no n) = inr (n, refl)

  -- Searching the normal form gives the function.
  pub search-normal_form : (sizes : List ℕ) (f : List ℕ → A) (vs : List ℕ) → Combination sizes vs
      → find none (normal_form same? none sizes f) vs ≡ f vs
  unfolding normal_form Combination find holds
  search-normal_form [] f [] ok = ⊎_elim (λ c. rw c.1 (sym c.0)) (λ c. rw c.1) (leaf_cases f)
  search-normal_form [] f (v ∷ vs) ok = absurd ok
  search-normal_form (S ∷ Ss) f [] ok = absurd ok
  search-normal_form (S ∷ Ss) f (v ∷ vs) ok =
      find_rows none _ S _ (runs_longest same? (λ u. normal_form same? none Ss (λ us. f (u ∷ us))) S) v vs ok.0
      ∙ search-normal_form Ss (λ us. f (v ∷ us)) vs ok.1

  -- Functions that agree on the combinations have the same normal form.
  pub normal_form_ext : (sizes : List ℕ) (f g : List ℕ → A) → ((vs : List ℕ) → Combination sizes vs → f vs ≡ g vs)
      → normal_form same? none sizes f ≡ normal_form same? none sizes g
  unfolding normal_form Combination
  normal_form_ext [] f g e = rw (e [] tt)
  normal_form_ext (S ∷ Ss) f g e =
      ap rows_of
      (runs_ext same? _ _ S (λ v h. normal_form_ext Ss (λ vs. f (v ∷ vs)) (λ vs. g (v ∷ vs)) (λ vs ok. e (v ∷ vs) (h, ok))))

  -- Two functions have the same normal form exactly where they agree on every combination.
  pub normal_form_canonical : (sizes : List ℕ) (f g : List ℕ → A)
      → (normal_form same? none sizes f ≡ normal_form same? none sizes g) ↔ ((vs : List ℕ) → Combination sizes vs → f vs ≡ g vs)
  normal_form_canonical sizes f g =
      (λ e vs ok. sym (search-normal_form sizes f vs ok) ∙ rw e (search-normal_form sizes g vs ok), normal_form_ext sizes f g)

  -- The normal form of a normal form is that normal form.
  pub normal_form_idempotent : (sizes : List ℕ) (f : List ℕ → A)
      → normal_form same? none sizes (find none (normal_form same? none sizes f)) ≡ normal_form same? none sizes f
  normal_form_idempotent sizes f = normal_form_ext sizes _ f (search-normal_form sizes f)

  -- Two values of a field have the same layout exactly where they are treated alike.
  pub normal_form_alike : (Ss : List ℕ) (f : List ℕ → A) (v w : ℕ)
      → (normal_form same? none Ss (λ vs. f (v ∷ vs)) ≡ normal_form same? none Ss (λ vs. f (w ∷ vs))) ↔ Alike Ss f v w
  unfolding Alike
  normal_form_alike Ss f v w = normal_form_canonical Ss (λ vs. f (v ∷ vs)) (λ vs. f (w ∷ vs))
