-- What printing answers and leaves. Assumes nothing: these are definitions.
use Rattle.std.specs.Prelude.{ℕ, ◌+◌, ◌≡◌, Result, Ok, Err, cond, List, ◌++◌, map, leb, length, drop}
use Rattle.std.proofs.lemmas.List.Edits.{sets}
use Rattle.selectors.specs.declared.Direction.{Direction}
use Rattle.policy.specs.Policy.{PolicyRow}
use Rattle.policy_text.specs.declared.Edition.{Edition}
use Rattle.policy_text.specs.Editions.{format_of}
use Rattle.policy_text.specs.Print.{policy_text, toward}
use Rattle.policy_print.specs.declared.NoRoom.{NoRoom}

-- A text stored from a place on, as far as the room goes, and the place after it.
pub record Put (room : List ℕ) (at : ℕ) (text : List ℕ) (room' : List ℕ) (next : ℕ) : Type 0 where
  pub place : next ≡ at + length text
  pub bytes : room' ≡ sets room at text

-- A text stored from the start of a room on, as far as the room goes, and its length.
pub record Stored (room text room' : List ℕ) (count : ℕ) : Type 0 where
  pub all : count ≡ length text
  pub bytes : room' ≡ sets room 0 text

-- The file of an edition's rows as rows of one direction.
abbrev pub printed : Edition → Direction → List PolicyRow → List ℕ
printed e d rs = policy_text (format_of e) (map (toward d) rs)

-- The error of a room that is too short has one value.
abbrev pub no_room : NoRoom
no_room = record {}

-- What `print` answers with room for that many bytes ('lent room shorter than the printed file' is 31), and what it leaves of the room: 'a print
-- that succeeds writes its bytes at the start and leaves the rest', a refusal leaves all.
abbrev pub printed_in : ℕ → List ℕ → Result ℕ NoRoom
printed_in room text = cond (leb (length text) room) (Ok (length text)) (Err no_room)

abbrev pub printed_room : List ℕ → List ℕ → List ℕ
printed_room room text = cond (leb (length text) (length room)) (text ++ drop (length text) room) room

-- Document 01's number of an answer.
abbrev pub printed_number : Result ℕ NoRoom → ℕ
printed_number (Ok n) = 5
printed_number (Err e) = 31
