-- The normal form of a policy, its words, and what laying it out leaves. Assumes nothing: these are definitions.
use Rattle.std.specs.Prelude.{ℕ, ◌-◌, ◌*◌, ◌≡◌, cond, List, ◌++◌, leb, length, take, replicate, Result, Ok, Err}
use Rattle.selectors.specs.declared.Direction.{Direction}
use Rattle.selectors.specs.declared.Direction.TheVariants.{Out, In}
use Rattle.normal_form.specs.Search.{Row}
use Rattle.policy.specs.declared.Action.{Action}
use Rattle.policy.specs.Policy.{policy_normal_form}
use Rattle.policy.specs.Words.{action_word, row_words, words_with, words_of_all}
use Rattle.policy_text.specs.Editions.{edition_sizes, Rules}
use Rattle.layout.specs.Laid.{room_for}
use Rattle.layout.specs.declared.LayoutError.{LayoutError}
use Rattle.layout.specs.declared.LayoutError.TheVariants.{Over, NoRoom}
use Rattle.decorrelate.specs.declared.OverLimit.{OverLimit}

-- The normal form of a policy for one direction, over the fields of its edition.
abbrev pub form : Direction → Rules → List (Row Action)
form d rs = policy_normal_form (edition_sizes rs.edition) d rs.entries

-- The words of a row: 0, which a policy reads as a row for both directions, the action's word, and the ranges.
abbrev pub form_row_words : Row Action → List ℕ
form_row_words r = words_with 0 (action_word r.leaf) r.ranges

abbrev pub form_words : List (Row Action) → List ℕ
form_words L = words_of_all form_row_words L

-- What laying out a normal form leaves. The rest of the room, and all of it where the answer is `Over`, is left open: it is scratch.
pub record FormOutcome (limit : ℕ) (d : Direction) (rs : Rules) (room room' : List ℕ) (r : Result ℕ LayoutError) : Type 0 where
  pub answer : r
      ≡ cond (leb (room_for limit) (length room)) (cond (leb (length (form d rs)) limit) (Ok (length (form d rs))) (Err Over)) (Err NoRoom)
  pub words : (n : ℕ) → r ≡ Ok n → take (n * row_words) room' ≡ form_words (form d rs)
  pub untouched : r ≡ Err NoRoom → room' ≡ room

-- The words, then zeros to the end of a room of so many words.
unfoldable pub padded : ℕ → List ℕ → List ℕ
padded size ws = ws ++ replicate (size - length ws) 0

-- The room of a normal form in a policy's words: `capacity` rows, of which the normal form's are the first.
abbrev pub form_room : ℕ → Direction → Rules → List ℕ
form_room capacity d rs = padded (capacity * row_words) (form_words (form d rs))

abbrev pub over_limit : OverLimit
over_limit = record {}

-- The count of a normal form's rows, or that there are more than the limit; and what then stands in its room: the normal form, or what
-- stood there before.
abbrev pub form_answer : ℕ → Direction → Rules → Result ℕ OverLimit
form_answer limit d rs = cond (leb (length (form d rs)) limit) (Ok (length (form d rs))) (Err over_limit)

abbrev pub form_after : ℕ → ℕ → Direction → Rules → List ℕ → List ℕ
form_after capacity limit d rs ws = cond (leb (length (form d rs)) limit) (form_room capacity d rs) ws

-- Document 01's number of a way, which answer 22 carries: 1 for out and 2 for in.
abbrev pub direction_number : Direction → ℕ
direction_number Out = 1
direction_number In = 2
