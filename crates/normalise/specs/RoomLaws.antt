-- The room for a normal-form file: it is never too short, and what is printed stands at its start. Assumes nothing.
use Rattle.std.specs.Prelude.{ℕ, ◌+◌, ◌*◌, ◌≤◌, ◌<◌, ◌≡◌, List, take, drop, Result, Ok, Err}
use native.Mathlib.Omega.{arith}
use Rattle.std.proofs.Math.Decide.{dec_le}
use Rattle.std.proofs.Math.Path.{refl}
use Rattle.std.proofs.Math.ListN.{length, length-map, length-append}
use Rattle.std.proofs.Math.Seq.{take_at}
use borrow.Author.Tests.{le-leb, lt-leb}
use Rattle.selectors.specs.declared.Direction.{Direction}
use Rattle.policy.specs.Words.{row_limit}
use Rattle.policy.specs.Policy.{as_policy}
use Rattle.policy_text.specs.Editions.{format_of, Rules, Policy, refused, rows, parse_policy}
use Rattle.policy_round_trip.proofs.AcceptedLaws.{parse_printable}
use Rattle.policy_round_trip.proofs.EditionsLaws.{lawful}
use Rattle.policy_round_trip.proofs.LengthLaws.{policy-length}
use Rattle.policy_round_trip.proofs.NormalFormsLaws.{normal_form_printable}
use Rattle.normal_form_file.specs.declared.NormaliseError.{NormaliseError}
use Rattle.normal_form_file.specs.declared.NormaliseError.TheVariants.{Refused, TooLarge, NoRoom}
use Rattle.decorrelate.specs.Form.{form}
use Rattle.normal_form_file.specs.Normalise.{form_file, normalised, normalised_bytes}

-- The bytes of the longest normal-form file: its header, and at most 120 for each row (`policy-length`).
abbrev pub form_bytes : ℕ
form_bytes = 9 + row_limit * 120

-- What normalising may answer a policy of those rows with room for any normal-form file: its file at the start of the room, or 22. 'A call for one
-- way alone tries 22 for that way only; 31 comes last', and here never comes.
unfoldable pub PolicyAnswered : Direction → Rules → List ℕ → Result ℕ NormaliseError → Type 0
PolicyAnswered d rs room (Ok n) = (length (form d rs) ≤ row_limit) × (n ≤ length room) × (take n room ≡ form_file d rs)
PolicyAnswered d rs room (Err (Refused r)) = ⊥
PolicyAnswered d rs room (Err (TooLarge w)) = (row_limit < length (form d rs)) × (w ≡ d)
PolicyAnswered d rs room (Err NoRoom) = ⊥

-- And a file: one that is no policy has its own refusal.
unfoldable pub Answered : Direction → Policy → List ℕ → Result ℕ NormaliseError → Type 0
Answered d (rows rs) room a = PolicyAnswered d rs room a
Answered d (refused r) room a = a ≡ Err (Refused r)

-- A text that is the normal-form file of a file and direction.
unfoldable pub IsFormFile : Direction → Policy → List ℕ → Type 0
IsFormFile d (rows rs) text = (length (form d rs) ≤ row_limit) × (text ≡ form_file d rs)
IsFormFile d (refused r) text = ⊥

module _ (d : Direction) (s room : List ℕ) (enough : form_bytes ≤ length room) where
  answered_rows : (rs : Rules) → parse_policy row_limit s ≡ rows rs
      → Answered d (rows rs) (normalised_bytes row_limit d room (rows rs)) (normalised row_limit d (length room) (rows rs))
  unfolding Answered PolicyAnswered
  answered_rows rs e = by (dec_le (length (form d rs)) row_limit)
    where
      by : Dec (length (form d rs) ≤ row_limit) → Answered d (rows rs) (normalised_bytes row_limit d room (rows rs)) (normalised row_limit d (length room) (rows rs))
      by (yes h) =
          let most = policy-length rs.edition (as_policy d (form d rs))
          (normal_form_printable (format_of rs.edition) (lawful rs.edition) d rs.entries (parse_printable row_limit s rs e).0) in
          let count : length (as_policy d (form d rs)) ≡ length (form d rs) = rw length-map in
          let fits : length (form_file d rs) ≤ length room = omega (arith, most, count) in
          rw (le-leb (length (form d rs)) row_limit h, le-leb (length (form_file d rs)) (length room) fits)
          (h, simp length-append (omega arith), take_at (form_file d rs) (drop (length (form_file d rs)) room) (length (form_file d rs)) refl)
      by (no h) = let g : row_limit < length (form d rs) = omega arith in rw (lt-leb (length (form d rs)) row_limit g) (g, refl)

  pub answered : Answered d (parse_policy row_limit s) (normalised_bytes row_limit d room (parse_policy row_limit s)) (normalised row_limit d (length room) (parse_policy row_limit s))
  unfolding Answered
  answered = by (parse_policy row_limit s) refl
    where
      by : (p : Policy) → parse_policy row_limit s ≡ p → Answered d p (normalised_bytes row_limit d room p) (normalised row_limit d (length room) p)
      by (refused r) e = refl
      by (rows rs) e = answered_rows rs e

-- What is printed lies in the room, and is the normal-form file.
pub printed_within : (d : Direction) (p : Policy) (room : List ℕ) (n : ℕ) → Answered d p room (Ok n) → n ≤ length room
unfolding Answered PolicyAnswered
printed_within d (rows rs) room n a = a.1
printed_within d (refused r) room n a = let z : ◌≡◌ {A = ℕ} 0 1 = cc in absurd (omega arith)

pub printed_file : (d : Direction) (p : Policy) (room : List ℕ) (n : ℕ) → Answered d p room (Ok n) → IsFormFile d p (take n room)
unfolding Answered PolicyAnswered IsFormFile
printed_file d (rows rs) room n a = (a.0, a.2)
printed_file d (refused r) room n a = let z : ◌≡◌ {A = ℕ} 0 1 = cc in absurd (omega arith)
