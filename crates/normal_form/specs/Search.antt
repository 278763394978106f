-- Rows, combinations and the ordered search, over any fields and any leaf. Assumes nothing: these are definitions.
-- A field is given by its size S: its values are 0 to S - 1. The fields are a list of sizes.
use Rattle.std.specs.Prelude.{ℕ, ◌<◌, cond, List, [], ◌∷◌}
use Rattle.selectors.specs.Range.{Range, holds}

-- A combination (document 01): one value for each field, each below the field's size.
unfoldable pub Combination : List ℕ → List ℕ → Type 0
Combination [] [] = Unit
Combination [] (v ∷ vs) = ⊥
Combination (S ∷ Ss) [] = ⊥
Combination (S ∷ Ss) (v ∷ vs) = (v < S) × Combination Ss vs

-- A range for each field, and the leaf of the combinations within them: an action in a policy, a pair of actions in a report.
pub record Row (A : Type 0) : Type 0 where
  pub ranges : List Range
  pub leaf : A

abbrev pub row : {A : Type 0} → List Range → A → Row A
row ranges leaf = record { ranges = ranges; leaf = leaf }

-- The leaf of the first row, top down, whose ranges all hold the values; `none` where there is no such row.
unfoldable pub find : {A : Type 0} → A → List (Row A) → List ℕ → A
find none [] vs = none
find none (r ∷ rs) vs = cond (holds r.ranges vs) r.leaf (find none rs vs)
