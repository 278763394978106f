-- What is laid out behind one value of a field, and whether that is known to be the same as behind the value before. Assumes nothing: these
-- are definitions.
use Rattle.std.specs.Prelude.{ℕ, ◌-◌, ◌<◌, ◌≡◌, List, length, Option, Some, None, Result, Ok, Err}
use Rattle.selectors.specs.Words.{field_count}
use Rattle.normal_form.specs.Search.{Row, Combination}
use Rattle.cover.specs.Boxes.{InBox}
use Rattle.layout.specs.Parting.{Parting}
use Rattle.layout.specs.Decode.{sizes_from}
use Rattle.layout.specs.Steps.{LaidOut, Placed}
use Rattle.layout.specs.declared.Kept.{Kept}
use Rattle.layout.specs.declared.LayoutError.{LayoutError}
use Rattle.layout.specs.declared.LayoutError.TheVariants.{Over}
use Rattle.layout.specs.declared.Point.{Point}

-- The answer of a layout as that of one which may be known.
unfoldable pub stretch_of : Result ℕ LayoutError → Result (Option ℕ) LayoutError
stretch_of (Ok n) = Ok (Some n)
stretch_of (Err e) = Err e

-- The layout behind the value v is that behind the value before it.
unfoldable pub Joins : ℕ → (ℕ → List (Row Parting)) → Type 0
Joins v form = (0 < v) × (form v ≡ form (v - 1))

-- What laying out n fields from f on behind the value v leaves, where `form` gives the layout behind each value.
pub record StretchOut (limit f n v : ℕ) (form : ℕ → List (Row Parting)) (ws : List ℕ) (r : Result (Option ℕ) LayoutError) : Type 0 where
  pub again : r ≡ Ok None → Joins v form
  pub rows : (c : ℕ) → r ≡ Ok (Some c) → LaidOut limit f n (form v) ws (Ok c)
  pub over : (e : LayoutError) → r ≡ Err e → (e ≡ Over) × (limit < length (form v))

-- What becomes of the last interval.
pub record PlacedStretch (f n : ℕ) (old : Kept) (laid : Option ℕ) (v : ℕ) (ws ws' : List ℕ) (r : Kept) : Type 0 where
  pub placed : (c : ℕ) → laid ≡ Some c → Placed f n old c v ws ws' r
  pub again : laid ≡ None → (r ≡ old) × (ws' ≡ ws)

-- A box holds every combination of the fields from any field on.
unfoldable pub Whole : Point → List ℕ → Type 0
Whole highest bs = (f : ℕ) (us : List ℕ) → Combination (sizes_from highest.words f (field_count - f)) us → InBox f bs us
