-- What the words of a room, of a point and of a policy mean, from any field on. Assumes nothing: these are definitions.
use Rattle.std.specs.Prelude.{ℕ, zero, suc, ◌+◌, ◌*◌, Bool, ◌&&◌, List, [], ◌∷◌, get_or}
use Rattle.selectors.specs.Range.{Range, holds}
use Rattle.selectors.specs.Words.{range_words, ranges_from, value_of}
use Rattle.selectors.specs.declared.Direction.{Direction}
use Rattle.normal_form.specs.Search.{Row, row}
use Rattle.policy.specs.Policy.{applies_to}
use Rattle.policy.specs.Words.{direction_of, row_words}
use Rattle.cover.specs.Boxes.{ranges_word}
use Rattle.layout.specs.Parting.{Parting, parting}

-- The sizes of n fields from the field f on, by the highest value of each.
unfoldable pub sizes_from : List ℕ → ℕ → ℕ → List ℕ
sizes_from hs f zero = []
sizes_from hs f (suc n) = (value_of hs f + 1) ∷ sizes_from hs (f + 1) n

-- The word at which the range of the field f in the row i begins.
abbrev pub word_of : ℕ → ℕ → ℕ
word_of i f = ranges_word i + range_words * f

-- n ranges of the row i from the field f on.
abbrev pub row_ranges : List ℕ → ℕ → ℕ → ℕ → List Range
row_ranges ws i f n = ranges_from ws (ranges_word i) f n

-- The row i is for the direction and its first ranges hold the values of the first n fields.
unfoldable pub active : Direction → List ℕ → ℕ → ℕ → List ℕ → Bool
active d ws i n vs = applies_to (direction_of (get_or ws (i * row_words) 0)) d && holds (row_ranges ws i 0 n) vs

-- The leaf of a row: the second action in its first word, the first action in its second.
abbrev pub leaf_of : List ℕ → ℕ → Parting
leaf_of ws at = parting (get_or ws (at + 1) 0) (get_or ws at 0)

-- A row of which only the n fields from f on are laid out yet, and c such rows from the row i on.
unfoldable pub part_row : ℕ → ℕ → List ℕ → ℕ → Row Parting
part_row f n ws i = row (row_ranges ws i f n) (leaf_of ws (i * row_words))

unfoldable pub part_rows : ℕ → ℕ → List ℕ → ℕ → ℕ → List (Row Parting)
part_rows f n ws i zero = []
part_rows f n ws i (suc c) = part_row f n ws i ∷ part_rows f n ws (i + 1) c
