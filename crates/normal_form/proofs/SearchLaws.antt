-- Laws of the ordered search. Assumes nothing.
use Rattle.std.specs.Prelude.{ℕ, ◌≡◌, Bool, true, false, cond, ◌≢◌}
use Rattle.std.proofs.Math.Path.{refl, ap}
use mathlib.Core.List.{List, [], ◌∷◌, ◌++◌, map, Memᴰ}
use Rattle.selectors.specs.Range.{Range, range, contains, holds}
use Rattle.selectors.proofs.RangeLaws.{both_true}
use Rattle.normal_form.specs.Search.{Row, find}
use Rattle.normal_form.specs.NormalForm.{under}

-- Ranges that hold values: the first holds the first value, and the rest hold the rest.
pub holds-cons : (r : Range) (rs : List Range) (v : ℕ) (vs : List ℕ) → holds (r ∷ rs) (v ∷ vs) ≡ true
    → (contains r v ≡ true) × (holds rs vs ≡ true)
unfolding holds
holds-cons r rs v vs = both_true (contains r v) (holds rs vs)

module _ {A : Type 0} where
  -- The search of no rows finds nothing.
  pub find-nil : (none : A) (vs : List ℕ) → find none [] vs ≡ none
  unfolding find
  find-nil none vs = refl

  -- The first row, where it holds the values, is what the search finds.
  pub find_first : (none : A) (r : Row A) (rs : List (Row A)) (vs : List ℕ) → holds r.ranges vs ≡ true → find none (r ∷ rs) vs ≡ r.leaf
  unfolding find
  find_first none r rs vs e = rw e

  -- A row that does not hold the values is passed over.
  pub find_skip : (none : A) (r : Row A) (rs : List (Row A)) (vs : List ℕ) → holds r.ranges vs ≡ false
      → find none (r ∷ rs) vs ≡ find none rs vs
  unfolding find
  find_skip none r rs vs e = rw e

  -- A search of rows behind other rows is a search of the others that ends with it.
  pub find-append : (none : A) (xs ys : List (Row A)) (vs : List ℕ) → find none (xs ++ ys) vs ≡ find (find none ys vs) xs vs
  unfolding find
  find-append none [] ys vs = refl
  find-append none (x ∷ xs) ys vs = ap (cond (holds x.ranges vs) x.leaf) (find-append none xs ys vs)

  -- Under a range that contains the first value, the search is that of the rows for the other values.
  pub find-under : (none : A) (l h v : ℕ) (vs : List ℕ) → contains (range l h) v ≡ true → (L : List (Row A))
      → find none (map (under l h) L) (v ∷ vs) ≡ find none L vs
  unfolding find holds
  find-under none l h v vs e [] = refl
  find-under none l h v vs e (r ∷ rs) = rw e (ap (cond (holds r.ranges vs) r.leaf) (find-under none l h v vs e rs))

  -- Under a range that does not contain it, the search finds nothing.
  pub find_outside : (none : A) (l h v : ℕ) (vs : List ℕ) → contains (range l h) v ≡ false → (L : List (Row A))
      → find none (map (under l h) L) (v ∷ vs) ≡ none
  unfolding find holds
  find_outside none l h v vs e [] = refl
  find_outside none l h v vs e (r ∷ rs) = rw e (find_outside none l h v vs e rs)

  -- What a search finds is the leaf of one of its rows, which holds the values.
  pub find_mem : (none : A) (rows : List (Row A)) (vs : List ℕ) → find none rows vs ≢ none
      → (r : Row A) × Memᴰ r rows × (holds r.ranges vs ≡ true) × (r.leaf ≡ find none rows vs)
  unfolding find
  find_mem none [] vs n = absurd (n refl)
  find_mem none (r ∷ rs) vs n = by (holds r.ranges vs) refl (λ m. find_mem none rs vs m)
    where
      Found : List (Row A) → A → Type 0
      Found rows a = (q : Row A) × Memᴰ q rows × (holds q.ranges vs ≡ true) × (q.leaf ≡ a)

      by : (b : Bool) → holds r.ranges vs ≡ b → (find none rs vs ≢ none → Found rs (find none rs vs))
          → Found (r ∷ rs) (cond (holds r.ranges vs) r.leaf (find none rs vs))
      by true e ih = (r, Memᴰ.head refl, e, rw e)
      by false e ih = let m = ih (λ h. n (rw e h)) in (m.0, Memᴰ.tail m.1, m.2, rw e m.3)
