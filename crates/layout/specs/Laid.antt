-- What a layout answers, and what it leaves in the room. Assumes nothing: these are definitions.
use Rattle.std.specs.Prelude.{ℕ, zero, suc, ◌+◌, ◌*◌, ◌≡◌, cond, List, [], ◌∷◌, leb, length, Result, Ok, Err}
use Rattle.selectors.specs.Words.{field_count, ranges_at}
use Rattle.normal_form.specs.Search.{Row, row}
use Rattle.policy.specs.Words.{row_words}
use Rattle.layout.specs.Parting.{Parting}
use Rattle.layout.specs.Decode.{sizes_from, leaf_of}
use Rattle.layout.specs.declared.Point.{Point}
use Rattle.layout.specs.declared.LayoutError.{LayoutError}
use Rattle.layout.specs.declared.LayoutError.TheVariants.{Over, NoRoom}

-- A row that is laid out, from the word `at` on. A row of a normal form has 0 in its first word, which a policy reads as a row for
-- both directions, and its action in the second, where a policy has it.
unfoldable pub laid_row : List ℕ → ℕ → Row Parting
laid_row ws at = row (ranges_at ws (at + 2)) (leaf_of ws at)

-- n rows from the row i on, and the first n.
unfoldable pub laid_from : List ℕ → ℕ → ℕ → List (Row Parting)
laid_from ws i zero = []
laid_from ws i (suc n) = laid_row ws (i * row_words) ∷ laid_from ws (i + 1) n

abbrev pub laid_rows : List ℕ → ℕ → List (Row Parting)
laid_rows ws n = laid_from ws 0 n

-- The sizes of the five fields, by the highest value of each.
abbrev pub sizes_of : Point → List ℕ
sizes_of highest = sizes_from highest.words 0 field_count

-- The words of room for each row of a limit: a row for each of the five fields, and one for what stands behind the last. And for the limit.
abbrev pub room_words : ℕ
room_words = (field_count + 1) * row_words

abbrev pub room_for : ℕ → ℕ
room_for limit = limit * room_words

-- The count of the rows, or that there are more than the limit.
abbrev pub answer_of : ℕ → List (Row Parting) → Result ℕ LayoutError
answer_of limit form = cond (leb (length form) limit) (Ok (length form)) (Err Over)

-- What a layout of this form leaves. The rest of the room, and all of it where the answer is `Over`, is left open: it is scratch.
pub record Outcome (limit : ℕ) (form : List (Row Parting)) (ws ws' : List ℕ) (r : Result ℕ LayoutError) : Type 0 where
  pub answer : r ≡ cond (leb (room_for limit) (length ws)) (answer_of limit form) (Err NoRoom)
  pub rows : (n : ℕ) → r ≡ Ok n → laid_rows ws' n ≡ form
  pub untouched : r ≡ Err NoRoom → ws' ≡ ws
