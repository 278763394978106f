-- Boxes of values, and the rows of two policies that cover them. Assumes nothing: these are definitions.
-- A box is five ranges. In it and in rows, only the fields from a field f on count, and values are one for each of these.
use Rattle.std.specs.Prelude.{◌≡◌, ℕ, ◌+◌, ◌-◌, ◌*◌, ◌/◌, ◌%◌, ◌<◌, ◌≤◌, Bool, true, false, cond, not, List, ◌==◌, ◌≢◌, nat_lt, length, slice_index}
use Rattle.selectors.specs.Range.{Range, contains, holds}
use Rattle.selectors.specs.Words.{field_count, range_words, ends_at, ranges_from}
use Rattle.policy.specs.Words.{head_words, row_words}
use Rattle.cover.specs.declared.standing.Stand.{Stand}
use Rattle.cover.specs.declared.standing.Stand.TheVariants.{Outside, Covering}

-- The word at which the ranges of the row i begin: those of its direction and its action come first.
abbrev pub ranges_word : ℕ → ℕ
ranges_word i = i * row_words + head_words

-- The ranges of the fields from f on, of the five from the word `at` on.
abbrev pub ranges_behind : List ℕ → ℕ → ℕ → List Range
ranges_behind ws at f = ranges_from ws at f (field_count - f)

-- These values are in the box.
abbrev pub InBox : ℕ → List ℕ → List ℕ → Type 0
InBox f bs us = holds (ranges_behind bs 0 f) us ≡ true

-- A code stands for a row of one of two policies, and says on which of two sides it is: the place of the row times 8, plus 4 for a row
-- of the second policy, plus 2 for the second side and 1 for the first.
abbrev pub row_of : ℕ → ℕ
row_of e = e / 8

abbrev pub in_second : ℕ → Bool
in_second e = e / 4 % 2 == 1

abbrev pub table_of : List ℕ → List ℕ → ℕ → List ℕ
table_of first second e = cond (in_second e) second first

-- The row of a code holds the values.
abbrev pub code_holds : List ℕ → List ℕ → ℕ → ℕ → List ℕ → Bool
code_holds first second f e us = holds (ranges_behind (table_of first second e) (ranges_word (row_of e)) f) us

-- What is still in the box where the field g has no value above h, none below l, none outside of a range, or none on the other side of a value.
unfoldable pub Lowered : ℕ → ℕ → List ℕ → List ℕ → Type 0
Lowered g h bs bs' = (f : ℕ) (us : List ℕ) → InBox f bs us → slice_index us (g - f) ≤ h → InBox f bs' us

unfoldable pub Raised : ℕ → ℕ → List ℕ → List ℕ → Type 0
Raised g l bs bs' = (f : ℕ) (us : List ℕ) → InBox f bs us → l ≤ slice_index us (g - f) → InBox f bs' us

unfoldable pub Narrowed : ℕ → Range → List ℕ → List ℕ → Type 0
Narrowed g r bs bs' = (f : ℕ) (us : List ℕ) → InBox f bs us → contains r (slice_index us (g - f)) ≡ true → InBox f bs' us

unfoldable pub Part : ℕ → ℕ → Bool → List ℕ → List ℕ → Type 0
Part g at upper bs bs' = (f : ℕ) (us : List ℕ) → InBox f bs us → nat_lt (slice_index us (g - f)) at ≡ not upper → InBox f bs' us

-- What the box and the ranges at a word both hold is in the other box.
unfoldable pub Common : List ℕ → ℕ → ℕ → List ℕ → List ℕ → Type 0
Common ws at f bs bs' = (us : List ℕ) → InBox f bs us → holds (ranges_behind ws at f) us ≡ true → InBox f bs' us

-- None of the box's values is in the ranges at a word; and all are.
unfoldable pub Apart : List ℕ → ℕ → ℕ → List ℕ → Type 0
Apart ws at f bs = (us : List ℕ) → InBox f bs us → holds (ranges_behind ws at f) us ≡ false

unfoldable pub Covers : List ℕ → ℕ → ℕ → List ℕ → Type 0
Covers ws at f bs = (us : List ℕ) → InBox f bs us → holds (ranges_behind ws at f) us ≡ true

-- No values are held by both of two rows, from the field f on.
unfoldable pub RowsApart : List ℕ → ℕ → ℕ → ℕ → Type 0
RowsApart ws a b f =
    (us : List ℕ) → holds (ranges_behind ws (ranges_word a) f) us ≡ true → holds (ranges_behind ws (ranges_word b) f) us ≢ true

-- The same of a range of the box and one of the row.
abbrev pub RangeApart : Range → Range → Type 0
RangeApart row box = (v : ℕ) → contains box v ≡ true → contains row v ≡ false

abbrev pub RangeCovers : Range → Range → Type 0
RangeCovers row box = (v : ℕ) → contains box v ≡ true → contains row v ≡ true

-- Words are those of the ranges of the row i.
abbrev pub HasRanges : List ℕ → ℕ → List ℕ → Type 0
HasRanges ws i rs = (f : ℕ) → f < field_count → ends_at rs (range_words * f) ≡ ends_at ws (ranges_word i + range_words * f)

-- What a stand says once a field is looked at: a range of the row and that of the box.
pub record FieldStand (s : Stand) (row box : Range) (r : Stand) : Type 0 where
  pub apart : r ≡ Outside → RangeApart row box
  pub covers : r ≡ Covering → (s ≡ Covering) × RangeCovers row box

-- What it says of the ranges at a word.
pub record BoxStand (ws : List ℕ) (at f : ℕ) (bs : List ℕ) (r : Stand) : Type 0 where
  pub apart : r ≡ Outside → Apart ws at f bs
  pub covers : r ≡ Covering → Covers ws at f bs

-- The rows of a list of codes cover the box: no value in it is one that none of them holds.
unfoldable pub Covered : List ℕ → List ℕ → List ℕ → ℕ → List ℕ → Type 0
Covered first second es f bs =
    (us : List ℕ) → InBox f bs us → ((k : ℕ) → k < length es → code_holds first second f (slice_index es k) us ≡ false) → ⊥

-- What a survey of the rows says: one of them covers the box.
unfoldable pub Surveyed : List ℕ → List ℕ → List ℕ → ℕ → List ℕ → Stand → Type 0
Surveyed first second es f bs s = s ≡ Covering → Covered first second es f bs
