-- The search as the action of the first matching entry. Assumes nothing.
use Rattle.std.specs.Prelude.{ℕ, ◌≡◌, refl, Bool, true, false, ◌↔◌, ◌≢◌}
use Rattle.std.proofs.Common.{arith, sym, ap, ◌∙◌, ⊎_elim}
use mathlib.Core.List.Memᴰ
use mathlib.Core.List.{List, [], ◌∷◌, ◌++◌, Memᴰ}
use Rattle.selectors.specs.declared.Direction.{Direction}
use Rattle.policy.specs.declared.Action.{Action}
use Rattle.policy.specs.declared.Action.TheVariants.{Discard, Bypass, Protect}
use Rattle.policy.specs.Policy.{PolicyRow, matches, ordered_search}
use Rattle.policy.proofs.PolicyLaws.{search_hit, search_miss}
use Rattle.sequences.specs.First.{FirstIs}

passed_over : (d : Direction) (vs : List ℕ) (B A : List PolicyRow) (r : PolicyRow) → ((q : PolicyRow) → Memᴰ q B → matches d q vs ≡ false)
    → matches d r vs ≡ true → ordered_search d (B ++ r ∷ A) vs ≡ r.action
passed_over d vs [] A r p h = search_hit d r A vs h
passed_over d vs (b ∷ B) A r p h =
    search_miss d b (B ++ r ∷ A) vs (p b (Memᴰ.head refl)) ∙ passed_over d vs B A r (λ q m. p q (Memᴰ.tail m)) h

first-searched : (d : Direction) (rs : List PolicyRow) (vs : List ℕ) (a : Action) → FirstIs d rs vs a → ordered_search d rs vs ≡ a
first-searched d rs vs a f =
    let e = f.1 in
    ap (λ (L : List PolicyRow). ordered_search d L vs) e.in_order ∙ passed_over d vs e.before e.behind f.0 e.passed e.hit ∙ f.2

onto : (d : Direction) (rs : List PolicyRow) (vs : List ℕ) (a : Action) (b : PolicyRow) → matches d b vs ≡ false → FirstIs d rs vs a → FirstIs d (b ∷ rs) vs a
onto d rs vs a b m f =
    let e = f.1 in (
      f.0,
      record {
        before = b ∷ e.before;
        behind = e.behind;
        in_order = ap (◌∷◌ b) e.in_order;
        passed = λ q n. ⊎_elim (λ s. ap (λ (t : PolicyRow). matches d t vs) s ∙ m) (e.passed q) (Memᴰ.cases_cons n);
        hit = e.hit;
      },
      f.2,
    )

searched_first : (d : Direction) (rs : List PolicyRow) (vs : List ℕ) (a : Action) → a ≢ Discard → ordered_search d rs vs ≡ a → FirstIs d rs vs a
unfolding ordered_search
searched_first d [] vs a n e = absurd (n (sym e))
searched_first d (r ∷ rs) vs a n e = by (matches d r vs) refl (searched_first d rs vs a n)
  where
    by : (b : Bool) → matches d r vs ≡ b → (ordered_search d rs vs ≡ a → FirstIs d rs vs a) → FirstIs d (r ∷ rs) vs a
    by true m ih =
        (r, record { before = []; behind = rs; in_order = refl; passed = λ q k. absurd (Memᴰ.not-nil k); hit = m }, sym (search_hit d r rs vs m) ∙ e)
    by false m ih = onto d rs vs a r m (ih (sym (search_miss d r rs vs m) ∙ e))

bypass≢discard : Bypass ≢ Discard
bypass≢discard e = let z : ◌≡◌ {A = ℕ} 0 1 = cc in omega arith

protect≢discard : (n : ℕ) → Protect n ≢ Discard
protect≢discard n e = let z : ◌≡◌ {A = ℕ} 0 1 = cc in omega arith

-- The search answers bypass, or protect-N, exactly where the first matching entry does.
module _ (d : Direction) (rs : List PolicyRow) (vs : List ℕ) where
  pub first_bypass : (ordered_search d rs vs ≡ Bypass) ↔ FirstIs d rs vs Bypass
  first_bypass = (searched_first d rs vs Bypass bypass≢discard, first-searched d rs vs Bypass)

  pub first-protect : (n : ℕ) → (ordered_search d rs vs ≡ Protect n) ↔ FirstIs d rs vs (Protect n)
  first-protect n = (searched_first d rs vs (Protect n) (protect≢discard n), first-searched d rs vs (Protect n))
