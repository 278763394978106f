-- The shape of a normal form: its rows fit the fields, have leaves, stand in order, and no two hold one combination.
-- Assumes nothing.
use Prim.Native.Nat.{ℕ, zero, suc, ◌≤◌, ◌<◌, ◌*◌}
use native.Mathlib.Omega.{arith}
use Rattle.std.proofs.Math.Nat.{mul-le-mul_right}
use Rattle.std.specs.Prelude.{◌≡◌, Bool, ◌≢◌, ◌↔◌, ◌⊎◌}
use Rattle.std.proofs.Math.Path.{refl, sym, ap}
use Rattle.std.proofs.Common.{◌∙◌, inl, inr, length-append}
use Rattle.std.proofs.Math.Bool.{true, false}
use Rattle.std.proofs.lemmas.Bool.{false≢true}
use Rattle.std.proofs.Math.Option.{some, none-ne-some}
use mathlib.Core.List.Memᴰ
use mathlib.Core.List.{List, [], ◌∷◌, ◌++◌, map, Memᴰ}
use Rattle.std.proofs.Math.Logic.{⊎_elim}
use Rattle.std.proofs.Math.ListN.{get_elem?, length}
use Rattle.std.proofs.lemmas.List.{length-map}
use Rattle.selectors.specs.Range.{Range, holds, full}
use Rattle.normal_form.specs.Search.{Row, Combination, find}
use Rattle.normal_form.specs.NormalForm.{Intervals, start, ◌▸◌, under, rows_of, normal_form}
use Rattle.selectors.proofs.RangeLaws.{contains_between, full-holds}
use Rattle.normal_form.proofs.SearchLaws.{holds-cons, find_first, find_skip, find_mem}
use Rattle.normal_form.proofs.RunsLaws.{Runs, runs_longest}
use Rattle.normal_form.proofs.Laws.{leaf_cases, search-normal_form}

-- One range for each field, from a value of the field to one that is no smaller.
unfoldable pub Fits : List ℕ → List Range → Type 0
Fits [] [] = Unit
Fits [] (r ∷ rs) = ⊥
Fits (S ∷ Ss) [] = ⊥
Fits (S ∷ Ss) (r ∷ rs) = (r.low ≤ r.high) × (r.high < S) × Fits Ss rs

-- At the first field where they differ, the one's range ends before the other's begins.
unfoldable pub Before : List Range → List Range → Type 0
Before [] qs = ⊥
Before (r ∷ rs) [] = ⊥
Before (r ∷ rs) (q ∷ qs) = (r.high < q.low) ⊎ ((r ≡ q) × Before rs qs)

-- Each row stands before all that follow it.
unfoldable pub Sorted : {A : Type 0} → List (Row A) → Type 0
Sorted [] = Unit
Sorted {A} (r ∷ rs) = ((q : Row A) → Memᴰ q rs → Before r.ranges q.ranges) × Sorted rs

-- The number of combinations.
unfoldable pub combinations : List ℕ → ℕ
combinations [] = 1
combinations (S ∷ Ss) = S * combinations Ss

-- What fits fields has a range for each.
pub fits-length : (sizes : List ℕ) (rs : List Range) → Fits sizes rs → length rs ≡ length sizes
unfolding Fits
fits-length [] [] f = refl
fits-length [] (r ∷ rs) f = absurd f
fits-length (S ∷ Ss) [] f = absurd f
fits-length (S ∷ Ss) (r ∷ rs) f = ap suc (fits-length Ss rs f.2)

-- What a row that fits holds is a combination.
pub fits-combination : (sizes : List ℕ) (rs : List Range) (vs : List ℕ) → Fits sizes rs → holds rs vs ≡ true → Combination sizes vs
unfolding Fits holds Combination
fits-combination [] [] [] f p = tt
fits-combination [] [] (v ∷ vs) f p = false≢true p
fits-combination [] (r ∷ rs) vs f p = absurd f
fits-combination (S ∷ Ss) [] vs f p = absurd f
fits-combination (S ∷ Ss) (r ∷ rs) [] f p = false≢true p
fits-combination (S ∷ Ss) (r ∷ rs) (v ∷ vs) f p =
    let h = holds-cons r rs v vs p in (omega (arith, contains_between r v h.0), fits-combination Ss rs vs f.2 h.1)

-- 'A combination is one value for each of the five fields, any that the field's ANY holds', of fields that have values: a combination is exactly
-- what the ANY ranges hold.
pub combination_any : (sizes vs : List ℕ) → Fits sizes (map full sizes) → Combination sizes vs ↔ (holds (map full sizes) vs ≡ true)
unfolding holds Combination
combination_any sizes vs fits = (held sizes vs, fits-combination sizes (map full sizes) vs fits)
  where
    held : (Ss us : List ℕ) → Combination Ss us → holds (map full Ss) us ≡ true
    held [] [] ok = refl
    held [] (u ∷ us) ok = absurd ok
    held (S ∷ Ss) [] ok = absurd ok
    held (S ∷ Ss) (u ∷ us) ok = rw (full-holds S u ok.0) (held Ss us ok.1)

-- Of two rows, one before the other, no values are held by both.
pub before_apart : (rs qs : List Range) (vs : List ℕ) → Before rs qs → holds rs vs ≡ true → holds qs vs ≡ true → ⊥
unfolding Before holds
before_apart [] qs vs b p q = b
before_apart (r ∷ rs) [] vs b p q = b
before_apart (r ∷ rs) (q ∷ qs) [] b p p' = false≢true p
before_apart (r ∷ rs) (q ∷ qs) (v ∷ vs) b p p' =
    let h = holds-cons r rs v vs p in
    let h' = holds-cons q qs v vs p' in
    ⊎_elim
    (λ lt. omega (arith, contains_between r v h.0, contains_between q v h'.0))
    (λ e. before_apart rs qs vs e.1 h.1 h'.1)
    b

module _ {A : Type 0} where
  -- In sorted rows, a row that holds the values is the one that the search finds.
  pub find_sorted : (none : A) (rows : List (Row A)) → Sorted rows → (r : Row A) → Memᴰ r rows → (vs : List ℕ) → holds r.ranges vs ≡ true
      → find none rows vs ≡ r.leaf
  unfolding Sorted
  find_sorted none [] s r m vs h = absurd (Memᴰ.not-nil m)
  find_sorted none (q ∷ qs) s r m vs h = by (Memᴰ.cases_cons m) (holds q.ranges vs) refl (λ m'. find_sorted none qs s.1 r m' vs h)
    where
      by : (r ≡ q) ⊎ Memᴰ r qs → (b : Bool) → holds q.ranges vs ≡ b → (Memᴰ r qs → find none qs vs ≡ r.leaf)
          → find none (q ∷ qs) vs ≡ r.leaf
      by (inl e) b hb ih = find_first none q qs vs (rw e at h) ∙ rw e
      by (inr m') true hb ih = absurd (before_apart q.ranges r.ranges vs (s.0 r m') hb h)
      by (inr m') false hb ih = find_skip none q qs vs hb ∙ ih m'

  at_mem : (xs : List (Row A)) (i : ℕ) (r : Row A) → get_elem? xs i ≡ some r → Memᴰ r xs
  at_mem [] i r e = absurd (none-ne-some r e)
  at_mem (x ∷ xs) zero r e = Memᴰ.head {x = x} (cc)
  at_mem (x ∷ xs) (suc i) r e = Memᴰ.tail (at_mem xs i r e)

  head_apart : (x : Row A) (xs : List (Row A)) → Sorted (x ∷ xs) → (r q : Row A) (j : ℕ) → some x ≡ some r → get_elem? xs j ≡ some q
      → (vs : List ℕ) → holds r.ranges vs ≡ true → holds q.ranges vs ≡ true → ⊥
  unfolding Sorted
  head_apart x xs s r q j ei ej vs hr hq =
      let e : x ≡ r = cc in before_apart x.ranges q.ranges vs (s.0 q (at_mem xs j q ej)) (rw e hr) hq

  -- In sorted rows, the places of two rows that hold the same values are one place.
  pub one_place : (rows : List (Row A)) → Sorted rows → (i j : ℕ) (r q : Row A) → get_elem? rows i ≡ some r → get_elem? rows j ≡ some q
      → (vs : List ℕ) → holds r.ranges vs ≡ true → holds q.ranges vs ≡ true → i ≡ j
  unfolding Sorted
  one_place [] s i j r q ei ej vs hr hq = cc
  one_place (x ∷ xs) s zero zero r q ei ej vs hr hq = refl
  one_place (x ∷ xs) s zero (suc j) r q ei ej vs hr hq = absurd (head_apart x xs s r q j ei ej vs hr hq)
  one_place (x ∷ xs) s (suc i) zero r q ei ej vs hr hq = absurd (head_apart x xs s q r i ej ei vs hq hr)
  one_place (x ∷ xs) s (suc i) (suc j) r q ei ej vs hr hq = ap suc (one_place xs s.1 i j r q ei ej vs hr hq)

  -- A row of the intervals is a row of the layout of an interval's lowest value, under that interval.
  pub rows_mem : (k : ℕ → List (Row A)) (n : ℕ) (ts : Intervals A) → Runs k n ts → (r : Row A) → Memᴰ r (rows_of ts)
      → (l h : ℕ) × (q : Row A) × (l ≤ h) × (h < n) × Memᴰ q (k l) × (under l h q ≡ r)
  unfolding Runs rows_of
  rows_mem k n start g r m = absurd (Memᴰ.not-nil m)
  rows_mem k n (ts ▸ t) g r m =
      ⊎_elim
      (λ m'.
      let i = rows_mem k t.low ts g.4 r m' in
      (i.0, i.1, i.2, i.3, omega arith, i.5, i.6))
      (λ m'.
      let i = Memᴰ.of_map (under t.low t.high) t.layout m' in
      (t.low, t.high, i.0, g.0, omega arith, rw (g.2 t.low (omega arith) g.0) i.1, i.2))
      (Memᴰ.append_cases (rows_of ts) m)

  sorted-append : (xs ys : List (Row A)) → Sorted xs → Sorted ys
      → ((r : Row A) → Memᴰ r xs → (q : Row A) → Memᴰ q ys → Before r.ranges q.ranges) → Sorted (xs ++ ys)
  unfolding Sorted
  sorted-append [] ys p q c = q
  sorted-append (x ∷ xs) ys p q c = (
    λ r m. ⊎_elim (p.0 r) (c x (Memᴰ.head refl) r) (Memᴰ.append_cases xs m),
    sorted-append xs ys p.1 q (λ r m. c r (Memᴰ.tail m)),
  )

  sorted-under : (l h : ℕ) (L : List (Row A)) → Sorted L → Sorted (map (under l h) L)
  unfolding Sorted Before
  sorted-under l h [] p = tt
  sorted-under l h (r ∷ rs) p =
      (λ q m. let i = Memᴰ.of_map (under l h) rs m in rw (← i.2) (inr (refl, p.0 i.0 i.1)), sorted-under l h rs p.1)

  sorted_rows : (k : ℕ → List (Row A)) (n : ℕ) (ts : Intervals A) → Runs k n ts → ((v : ℕ) → v < n → Sorted (k v)) → Sorted (rows_of ts)
  unfolding Runs rows_of Sorted Before
  sorted_rows k n start g s = tt
  sorted_rows k n (ts ▸ t) g s =
      sorted-append (rows_of ts) _
      (sorted_rows k t.low ts g.4 (λ v h. s v (omega arith)))
      (sorted-under t.low t.high t.layout (rw (g.2 t.low (omega arith) g.0) at (s t.low (omega arith))))
      (λ r m q m'.
      let i = rows_mem k t.low ts g.4 r m in
      let j = Memᴰ.of_map (under t.low t.high) t.layout m' in
      rw (← i.6, ← j.2) (inl i.4))

  length_rows : (k : ℕ → List (Row A)) (n : ℕ) (ts : Intervals A) → Runs k n ts
      → (b : ℕ) → ((v : ℕ) → v < n → length (k v) ≤ b) → length (rows_of ts) ≤ n * b
  unfolding Runs rows_of
  length_rows k n start g b s = omega arith
  length_rows k n (ts ▸ t) g b s =
      let last : length t.layout ≤ b = rw (g.2 t.low (omega arith) g.0) at (s t.low (omega arith)) in
      let below : length (rows_of ts) ≤ t.low * b = length_rows k t.low ts g.4 b (λ v h. s v (omega arith)) in
      let room : suc t.low * b ≤ n * b = mul-le-mul_right b (omega arith) in
      simp (length-append, length-map) (omega arith)

module _ {A : Type 0} (same? : Discrete A) (none : A) where
  -- A row has one range for each field, within it, and never the leaf that makes no row.
  pub normal_form_fits : (sizes : List ℕ) (f : List ℕ → A) (r : Row A) → Memᴰ r (normal_form same? none sizes f)
      → Fits sizes r.ranges × (r.leaf ≢ none)
  unfolding normal_form Fits
  normal_form_fits [] f r m =
      ⊎_elim
      (λ c. absurd (Memᴰ.not-nil (rw c.1 at m)))
      (λ c. rw (Memᴰ.eq_of_singleton (rw c.1 at m)) (tt, c.0))
      (leaf_cases same? none f)
  normal_form_fits (S ∷ Ss) f r m =
      let i = rows_mem _ _ _ (runs_longest same? (λ u. normal_form same? none Ss (λ us. f (u ∷ us))) S) r m in
      let ih = normal_form_fits Ss (λ us. f (i.0 ∷ us)) i.2 i.5 in
      rw (← i.6) ((i.3, i.4, ih.0), ih.1)

  -- The rows stand in order.
  pub normal_form_sorted : (sizes : List ℕ) (f : List ℕ → A) → Sorted (normal_form same? none sizes f)
  unfolding normal_form Sorted
  normal_form_sorted [] f =
      ⊎_elim (λ c. rw c.1 tt) (λ c. rw c.1 (λ q m. absurd (Memᴰ.not-nil m), tt)) (leaf_cases same? none f)
  normal_form_sorted (S ∷ Ss) f =
      sorted_rows _ _ _ (runs_longest same? (λ u. normal_form same? none Ss (λ us. f (u ∷ us))) S)
      (λ v h. normal_form_sorted Ss (λ us. f (v ∷ us)))

  -- There are at most as many rows as combinations.
  pub normal_form-length : (sizes : List ℕ) (f : List ℕ → A) → length (normal_form same? none sizes f) ≤ combinations sizes
  unfolding normal_form combinations
  normal_form-length [] f = ⊎_elim (λ c. rw c.1 (omega arith)) (λ c. rw c.1 (omega arith)) (leaf_cases same? none f)
  normal_form-length (S ∷ Ss) f =
      length_rows _ _ _ (runs_longest same? (λ u. normal_form same? none Ss (λ us. f (u ∷ us))) S) (combinations Ss)
      (λ v h. normal_form-length Ss (λ us. f (v ∷ us)))

  -- A row that holds values has the function's leaf there.
  pub normal_form-row : (sizes : List ℕ) (f : List ℕ → A) (r : Row A) → Memᴰ r (normal_form same? none sizes f)
      → (vs : List ℕ) → holds r.ranges vs ≡ true → r.leaf ≡ f vs
  normal_form-row sizes f r m vs h =
      sym (find_sorted none (normal_form same? none sizes f) (normal_form_sorted sizes f) r m vs h)
      ∙ search-normal_form same? none sizes f vs (fits-combination sizes r.ranges vs (normal_form_fits sizes f r m).0 h)

  -- Where the function has a leaf other than `none`, a row holds the values.
  pub normal_form_covers : (sizes : List ℕ) (f : List ℕ → A) (vs : List ℕ) → Combination sizes vs → f vs ≢ none
      → (r : Row A) × Memᴰ r (normal_form same? none sizes f) × (holds r.ranges vs ≡ true)
  normal_form_covers sizes f vs ok n =
      let m = find_mem none (normal_form same? none sizes f) vs (λ e. n (sym (search-normal_form same? none sizes f vs ok) ∙ e)) in
      (m.0, m.1, m.2)

  -- At most one row, by its place, holds the values.
  pub normal_form_one : (sizes : List ℕ) (f : List ℕ → A) (i j : ℕ) (r q : Row A)
      → get_elem? (normal_form same? none sizes f) i ≡ some r → get_elem? (normal_form same? none sizes f) j ≡ some q
      → (vs : List ℕ) → holds r.ranges vs ≡ true → holds q.ranges vs ≡ true → i ≡ j
  normal_form_one sizes f = one_place (normal_form same? none sizes f) (normal_form_sorted sizes f)

  no_row : (sizes : List ℕ) (f : List ℕ → A) → ((vs : List ℕ) → Combination sizes vs → f vs ≡ none)
      → (r : Row A) → Memᴰ r (normal_form same? none sizes f) → ⊥
  unfolding normal_form Combination
  no_row [] f e r m = ⊎_elim (λ c. Memᴰ.not-nil (rw c.1 at m)) (λ c. c.0 (e [] tt)) (leaf_cases same? none f)
  no_row (S ∷ Ss) f e r m =
      let i = rows_mem _ _ _ (runs_longest same? (λ u. normal_form same? none Ss (λ us. f (u ∷ us))) S) r m in
      no_row Ss (λ us. f (i.0 ∷ us)) (λ vs ok. e (i.0 ∷ vs) (omega (arith, i.3, i.4), ok)) i.2 i.5

  no_member : (L : List (Row A)) → ((r : Row A) → Memᴰ r L → ⊥) → L ≡ []
  no_member [] n = refl
  no_member (r ∷ L) n = absurd (n r (Memᴰ.head refl))

  -- A normal form has no rows exactly where the function has no leaf but `none`.
  pub normal_form_empty : (sizes : List ℕ) (f : List ℕ → A)
      → (normal_form same? none sizes f ≡ []) ↔ ((vs : List ℕ) → Combination sizes vs → f vs ≡ none)
  unfolding find
  normal_form_empty sizes f = (
    λ e vs ok. sym (search-normal_form same? none sizes f vs ok) ∙ ap (λ (L : List (Row A)). find none L vs) e,
    λ e. no_member (normal_form same? none sizes f) (no_row sizes f e),
  )
