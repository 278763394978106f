-- The first matching entry of a policy. Assumes nothing: these are definitions.
use Rattle.std.specs.Prelude.{ℕ, ◌≡◌, true, false}
use mathlib.Core.List.{List, ◌∷◌, ◌++◌, Memᴰ}
use Rattle.selectors.specs.declared.Direction.{Direction}
use Rattle.policy.specs.declared.Action.{Action}
use Rattle.policy.specs.Policy.{PolicyRow, matches}

-- 'The first row, top down, whose way is the asked way or `both` and whose five ranges all hold the values.'
pub record First (d : Direction) (rs : List PolicyRow) (vs : List ℕ) (r : PolicyRow) : Type 0 where
  pub before : List PolicyRow
  pub behind : List PolicyRow
  pub in_order : rs ≡ before ++ r ∷ behind
  pub passed : (q : PolicyRow) → Memᴰ q before → matches d q vs ≡ false
  pub hit : matches d r vs ≡ true

-- There is a first matching entry, and it has this action.
abbrev pub FirstIs : Direction → List PolicyRow → List ℕ → Action → Type 0
FirstIs d rs vs a = (r : PolicyRow) × First d rs vs r × (r.action ≡ a)
