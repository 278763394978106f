-- What parsing answers and leaves. Assumes nothing: these are definitions.
use Rattle.std.specs.Prelude.{ℕ, ◌+◌, ◌*◌, cond, List, [], ◌∷◌, ◌++◌, leb, length, drop, Result, Ok, Err}
use Rattle.std.proofs.lemmas.List.Edits.{sets}
use Rattle.policy.specs.Words.{row_words, words_of}
use Rattle.policy_text.specs.declared.ParseError.{ParseError}
use Rattle.policy_text.specs.declared.ParseError.TheVariants.{Refused, NoRoom}
use Rattle.policy_text.specs.declared.Refusal.{Refusal}
use Rattle.policy_text.specs.declared.Refusal.TheVariants.{BadRow}
use Rattle.policy_text.specs.declared.Rows.{Rows}
use Rattle.policy_text.specs.Format.{Lines, all_rows, bad_row}
use Rattle.policy_text.specs.Editions.{Rules, Policy, refused, rows, refusal_number}
use Rattle.policy_fields.specs.Answers.{entry_of, text_words}

-- A room in which the words of each line, of which the first is row i, are put at the row's place.
unfoldable pub written : List ℕ → ℕ → List (List ℕ) → List ℕ
written room i [] = room
written room i (l ∷ ls) = written (sets room (i * row_words) (text_words (entry_of l))) (i + 1) ls

-- The refusal of the bad row, if there is one.
abbrev pub bad_of : Lines → Result Unit Refusal
bad_of (all_rows rs) = Ok tt
bad_of (bad_row i) = Err (BadRow i)

-- What a file is answered with where there is room for its rows: its edition and their count, or the refusal; and what is left of the room: the rows' words at its start. A refusal leaves all.
abbrev pub counted : Rules → Rows
counted p = record { edition = p.edition; count = length p.entries }

abbrev pub file_of : Policy → Result Rows Refusal
file_of (refused r) = Err r
file_of (rows p) = Ok (counted p)

abbrev pub file_room : List ℕ → Policy → List ℕ
file_room room (refused r) = room
file_room room (rows p) = words_of p.entries ++ drop (length p.entries * row_words) room

-- What `parse` answers with room for that many words, and what it leaves of the room: the same, if the rows fit.
abbrev pub parsed_in : ℕ → Policy → Result Rows ParseError
parsed_in room (refused r) = Err (Refused r)
parsed_in room (rows p) = cond (leb (length p.entries * row_words) room) (Ok (counted p)) (Err NoRoom)

abbrev pub parsed_room : List ℕ → Policy → List ℕ
parsed_room room (refused r) = room
parsed_room room (rows p) = cond (leb (length p.entries * row_words) (length room)) (file_room room (rows p)) room

-- Document 01's number of an answer. It has none for NoRoom, since a gateway lends room for the limit: it is given that of a print's short room.
abbrev pub parsed_number : Result Rows ParseError → ℕ
parsed_number (Ok p) = 5
parsed_number (Err (Refused r)) = refusal_number r
parsed_number (Err NoRoom) = 31
