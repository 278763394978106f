-- What the parser's answer says of a policy file: it was taken, and its rows stand in the room, or it was refused. Assumes nothing.
use Rattle.std.specs.Prelude.{ℕ, ◌*◌, ◌≤◌, ◌≡◌, List, length, take, drop, Result, Ok, Err}
use Rattle.std.proofs.Common.{arith, sym, ◌∙◌, length-append, take_at}
use Rattle.policy.specs.Policy.{PolicyRow}
use Rattle.policy.specs.Words.{row_words, policy_rows, words_of}
use Rattle.policy.proofs.WrittenLaws.{FiveEach, words-length, words_rows}
use Rattle.policy_text.specs.declared.Edition.{Edition}
use Rattle.policy_text.specs.declared.Refusal.{Refusal}
use Rattle.policy_text.specs.declared.Rows.{Rows}
use Rattle.policy_text.specs.Editions.{rules, refused, rows, parse_policy}
use Rattle.policy_parse.specs.Parsing.{file_of, file_room}
use Rattle.policy_parse.specs.FileLaws.{file_is}
use Rattle.policy_round_trip.proofs.AcceptedLaws.{parse_printable}
use Rattle.policy_round_trip.proofs.WordsLaws.{all_five}

-- A file that was taken: its edition and rows, at most the limit's, and their words at the start of the room.
pub record Taken (limit : ℕ) (s : List ℕ) (e : Edition) (n : ℕ) (room' : List ℕ) : Type 0 where
  pub few : n ≤ limit
  pub words_fit : n * row_words ≤ length room'
  pub is : parse_policy limit s ≡ rows (rules e (policy_rows (take (n * row_words) room')))

-- What an answer says of the file: its rows stand in the room, or it is refused so.
unfoldable pub Told : ℕ → List ℕ → List ℕ → Result Rows Refusal → Type 0
Told limit s room' (Ok p) = Taken limit s p.edition p.count room'
Told limit s room' (Err r) = parse_policy limit s ≡ refused r

module _ (limit : ℕ) (s room : List ℕ) where
  taken_rows : (e : Edition) (n : ℕ) (rs : List PolicyRow) → parse_policy limit s ≡ rows (rules e rs) → n ≡ length rs
      → Taken limit s e n (file_room room (rows (rules e rs)))
  taken_rows e n rs p k =
      let a = parse_printable limit s (rules e rs) p in
      let f : FiveEach rs = all_five e rs a.0 in
      let w : length (words_of rs) ≡ n * row_words = words-length rs f ∙ rw k in
      record {
        few = omega (arith, a.1);
        words_fit = simp length-append (omega arith);
        is = p ∙ rw (take_at (words_of rs) (drop (length rs * row_words) room) (n * row_words) w, words_rows rs f);
      }

  -- What an answer with rows says of the file.
  pub taken : (room' : List ℕ) (f : Result Rows Refusal) → f ≡ file_of (parse_policy limit s) → room' ≡ file_room room (parse_policy limit s)
      → (p : Rows) → f ≡ Ok p → Taken limit s p.edition p.count room'
  taken room' f value after p e =
      let h = file_is (parse_policy limit s) (Ok p) (sym e ∙ value) in
      rw (after, h.1.0) (taken_rows p.edition p.count h.0 h.1.0 h.1.1)

  pub told : (f : Result Rows Refusal) → f ≡ file_of (parse_policy limit s) → Told limit s (file_room room (parse_policy limit s)) f
  unfolding Told
  told (Ok p) q = let h = file_is (parse_policy limit s) (Ok p) q in rw h.1.0 (taken_rows p.edition p.count h.0 h.1.0 h.1.1)
  told (Err r) q = file_is (parse_policy limit s) (Err r) q
