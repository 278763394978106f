-- Document 01, 'One normal form', sentence by sentence, with no computation. Assumes nothing: these are definitions.
-- Twice: `Layout`, in which the search f is that at the fields that are left, the earlier fields standing at the lowest values of their stretches;
-- and `LayoutAsWritten`, to the letter, in which they stand at any values of the stretches already cut. LayoutAsWrittenLaws.antt proves that the
-- two describe the same rows, LayoutLaws.antt that these are the computed ones.
use Rattle.std.specs.Prelude.{ℕ, suc, ◌≤◌, ◌≡◌, true, List, [], ◌∷◌, ◌++◌, ◌≢◌, ◌⊎◌}
use Rattle.selectors.specs.Range.{Range, range, holds}
use Rattle.normal_form.specs.Search.{Row, row, Combination}
use Rattle.normal_form.specs.NormalForm.{Interval, Intervals, start, ◌▸◌, rows_of}

module _ {A : Type 0} where
  -- 'Two values are treated alike where, with the earlier fields at any values of the stretches already cut, the search gives the same action with
  -- either, whatever the later fields hold.' Here the earlier fields stand at values that f holds fixed; `AlikeBehind` has them at any.
  unfoldable pub Alike : List ℕ → (List ℕ → A) → ℕ → ℕ → Type 0
  Alike Ss f u v = (vs : List ℕ) → Combination Ss vs → f (u ∷ vs) ≡ f (v ∷ vs)

  -- The last value of the intervals so far is not treated like v: so the interval that begins at v could not begin earlier.
  unfoldable pub Parted : (ℕ → ℕ → Type 0) → Intervals A → ℕ → Type 0
  Parted alike start v = Unit
  Parted alike (ts ▸ t) v = alike t.high v → ⊥

  -- 'Cut the field into the longest stretches of consecutive values whose remaining fields are treated alike throughout':
  -- the intervals follow each other from 0 to n - 1, each is alike throughout, and no two neighbours could be one.
  unfoldable pub Longest : (ℕ → ℕ → Type 0) → ℕ → Intervals A → Type 0
  Longest alike n start = n ≡ 0
  Longest alike n (ts ▸ t) =
      (t.low ≤ t.high)
      × (suc t.high ≡ n)
      × ((v : ℕ) → t.low ≤ v → v ≤ t.high → alike t.low v)
      × Parted alike ts t.low
      × Longest alike t.low ts

  unfoldable pub Each : (Interval A → Type 0) → Intervals A → Type 0
  Each P start = Unit
  Each P (ts ▸ t) = Each P ts × P t

  -- 'Each stretch not wholly discarded is written, low to high, before each row of the same layout of the remaining fields.
  -- After the last field stands the action. Discard makes no row.'
  unfoldable pub Layout : A → List ℕ → (List ℕ → A) → List (Row A) → Type 0
  Layout none [] f rows = ((f [] ≡ none) × (rows ≡ [])) ⊎ ((f [] ≢ none) × (rows ≡ row [] (f []) ∷ []))
  Layout none (S ∷ Ss) f rows =
      (ts : Intervals A)
      × Longest (Alike Ss f) S ts
      × Each (λ t. Layout none Ss (λ vs. f (t.low ∷ vs)) t.layout) ts
      × (rows ≡ rows_of ts)

  -- The sentence whole: `earlier` are the stretches already cut, one of each earlier field, and f is the search at all fields.
  unfoldable pub AlikeBehind : List Range → List ℕ → (List ℕ → A) → ℕ → ℕ → Type 0
  AlikeBehind earlier Ss f u v =
      (us vs : List ℕ) → holds earlier us ≡ true → Combination Ss vs → f (us ++ (u ∷ vs)) ≡ f (us ++ (v ∷ vs))

  -- The layout of the remaining fields behind the stretches already cut. 'After the last field stands the action': the one that the search
  -- gives at any values of the stretches.
  unfoldable pub LayoutBehind : A → List Range → List ℕ → (List ℕ → A) → List (Row A) → Type 0
  LayoutBehind none earlier [] f rows =
      (a : A)
      × ((us : List ℕ) → holds earlier us ≡ true → f us ≡ a)
      × (((a ≡ none) × (rows ≡ [])) ⊎ ((a ≢ none) × (rows ≡ row [] a ∷ [])))
  LayoutBehind none earlier (S ∷ Ss) f rows =
      (ts : Intervals A)
      × Longest (AlikeBehind earlier Ss f) S ts
      × Each (λ t. LayoutBehind none (earlier ++ (range t.low t.high ∷ [])) Ss f t.layout) ts
      × (rows ≡ rows_of ts)

  -- 'For one way, take the fields in file order. Cut the first field': no stretch is cut yet.
  abbrev pub LayoutAsWritten : A → List ℕ → (List ℕ → A) → List (Row A) → Type 0
  LayoutAsWritten none sizes f rows = LayoutBehind none [] sizes f rows
