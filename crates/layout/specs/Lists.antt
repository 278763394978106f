-- Lists of the rows that are active. Assumes nothing: these are definitions.
use Rattle.std.specs.Prelude.{ℕ, zero, suc, ◌*◌, ◌/◌, ◌≤◌, ◌<◌, min, ◌≡◌, List, [], ◌∷◌, length, get_or, filter}
use Rattle.selectors.specs.Range.{contains}
use Rattle.selectors.specs.Words.{field_count, value_words, values_from}
use Rattle.selectors.specs.declared.Direction.{Direction}
use Rattle.policy.specs.Words.{row_words, row_limit}
use Rattle.agree.specs.Sides.{range_of, There}
use Rattle.layout.specs.Decode.{active}
use Rattle.layout.specs.Steps.{AlikeTo, SearchAlike}

-- n numbers from i on.
unfoldable pub up_from : ℕ → ℕ → List ℕ
up_from i zero = []
up_from i (suc n) = i ∷ up_from (suc i) n

-- How many rows of a policy are listed.
abbrev pub listed : List ℕ → ℕ
listed ws = min (length ws / row_words) row_limit

-- The numbers of a list are, in order, the listed rows of a policy that are active.
abbrev pub Lists : Direction → List ℕ → ℕ → List ℕ → List ℕ → Type 0
Lists d ws f before list = list ≡ filter (λ i. active d ws i f before) (up_from 0 (listed ws))

-- They are those of another list whose ranges of the field f hold the value v.
abbrev pub Narrowed : List ℕ → ℕ → ℕ → List ℕ → List ℕ → Type 0
Narrowed ws f v old list = list ≡ filter (λ i. contains (range_of ws i f) v) old

-- The values from `from` to `last` are alike, in the field f, to the first n rows of a list.
unfoldable pub AlikeListed : List ℕ → List ℕ → ℕ → ℕ → ℕ → ℕ → Type 0
AlikeListed ws xs n f from last = (k : ℕ) → k < n → AlikeTo (range_of ws (get_or xs k 0) f) from last

-- A branch at the field f: the lists have the rows that are active behind the first values of the point ps.
pub record BranchAt (d : Direction) (first second : List ℕ) (f : ℕ) (ps xs ys : List ℕ) : Type 0 where
  pub sized : length ps ≡ field_count * value_words
  pub of-first : Lists d first f (values_from ps 0 f) xs
  pub of-second : Lists d second f (values_from ps 0 f) ys

-- The numbers of a list are places of rows, and behind the values of the first fields no others part two values of the field f, if no
-- more rows are there than are listed.
pub record CutsAt (d : Direction) (ws : List ℕ) (f : ℕ) (before cuts : List ℕ) : Type 0 where
  pub within : There ws cuts
  pub alike : length ws / row_words ≤ row_limit → (from last : ℕ) → AlikeListed ws cuts (length cuts) f from last → SearchAlike d ws before from last
