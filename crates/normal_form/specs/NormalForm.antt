-- The normal form of a function on combinations, as a computation. Assumes nothing: these are definitions.
-- Layout.antt has document 01's own description, and LayoutLaws.antt proves that the two are one.
use Rattle.std.specs.Prelude.{ℕ, zero, suc, List, [], ◌∷◌, ◌++◌, map}
use Rattle.std.proofs.Math.Logic.{ite}
use Rattle.selectors.specs.Range.{range}
use Rattle.normal_form.specs.Search.{Row, row}
use Rattle.normal_form.specs.SameLaws.{list-≟, row-≟}

-- Consecutive values of one field, `low` to `high` (document 01's stretch), with the rows of the fields behind it.
pub record Interval (A : Type 0) : Type 0 where
  pub low : ℕ
  pub high : ℕ
  pub layout : List (Row A)

abbrev pub interval : {A : Type 0} → ℕ → ℕ → List (Row A) → Interval A
interval low high layout = record { low = low; high = high; layout = layout }

-- Intervals of one field, low to high: none, or some and then one more.
pub data Intervals (A : Type 0) : Type 0 where
  start : Intervals A
  ◌▸◌ : Intervals A → Interval A → Intervals A

infixl 40 ◌▸◌
-- A row with one more range in front.
abbrev pub under : {A : Type 0} → ℕ → ℕ → Row A → Row A
under low high r = row (range low high ∷ r.ranges) r.leaf

-- The rows of the intervals, low to high: each interval stands before each row of its layout, and one without rows makes none.
unfoldable pub rows_of : {A : Type 0} → Intervals A → List (Row A)
rows_of start = []
rows_of (ts ▸ t) = rows_of ts ++ map (under t.low t.high) t.layout

module _ {A : Type 0} (same? : Discrete A) where
  -- The values v to w, with the layout L, behind the intervals so far: the last one grows if its layout is L, else they are a new one.
  unfoldable pub push : ℕ → ℕ → List (Row A) → Intervals A → Intervals A
  push v w L start = start ▸ interval v w L
  push v w L (ts ▸ t) =
      ite (list-≟ (row-≟ same?) t.layout L)
      (ts ▸ interval t.low w L)
      (ts ▸ t ▸ interval v w L)

  -- The longest intervals of the values below n with one layout throughout, where the value v has the layout `layout v`.
  unfoldable pub runs : (ℕ → List (Row A)) → ℕ → Intervals A
  runs layout zero = start
  runs layout (suc v) = push v v (layout v) (runs layout v)

  -- The normal form of f over the fields: `none` is the leaf that makes no row (discard in a policy).
  unfoldable pub normal_form : A → List ℕ → (List ℕ → A) → List (Row A)
  normal_form none [] f = ite (same? (f []) none) [] (row [] (f []) ∷ [])
  normal_form none (S ∷ Ss) f = rows_of (runs (λ v. normal_form none Ss (λ vs. f (v ∷ vs))) S)
