-- What the steps of normalising give: the normal form's rows, printed, and the printer's answer. Assumes nothing.
use Rattle.std.specs.Prelude.{ℕ, ◌≤◌, ◌<◌, ◌≡◌, refl, Bool, true, false, Result, Ok, Err, List, leb, length}
use Rattle.std.proofs.Common.{ap, ◌∙◌, le-leb}
use Rattle.std.proofs.lemmas.Simd.{map-map}
use Rattle.std.proofs.lemmas.Bool.{lt-leb}
use Rattle.selectors.specs.declared.Direction.{Direction}
use Rattle.policy.specs.Policy.{for_both_ways}
use Rattle.policy.specs.Words.{policy_rows}
use Rattle.policy_text.specs.Editions.{format_of, Rules, rows}
use Rattle.policy_text.specs.Print.{policy_text, toward}
use Rattle.policy_print.specs.Printing.{printed, printed_in, printed_room}
use Rattle.policy_print.specs.declared.NoRoom.{NoRoom}
use Rattle.normal_form_file.specs.declared.NormaliseError.{NormaliseError}
use Rattle.normal_form_file.specs.declared.NormaliseError.TheVariants.{TooLarge, NoRoom as Short}
use Rattle.decorrelate.specs.Form.{form, form_words}
use Rattle.decorrelate.specs.FormLaws.{form_words_rows}
use Rattle.normal_form_file.specs.Normalise.{form_file, normalised, normalised_bytes}

-- The words of a normal form are printed as the normal-form file.
pub printed-form : (d : Direction) (rs : Rules) (ws : List ℕ) → ws ≡ form_words (form d rs) → printed rs.edition d (policy_rows ws) ≡ form_file d rs
printed-form d rs ws e = rw (e, form_words_rows d rs) (ap (policy_text (format_of rs.edition)) (map-map (toward d) for_both_ways (form d rs)))

-- The printer's answer as the call's.
abbrev pub answered : Result ℕ NoRoom → Result ℕ NormaliseError
answered (Ok n) = Ok n
answered (Err e) = Err Short

module _ (limit : ℕ) (d : Direction) (rs : Rules) (room : List ℕ) where
  pub too_large : limit < length (form d rs)
      → (Err (TooLarge d) ≡ normalised limit d (length room) (rows rs)) × (room ≡ normalised_bytes limit d room (rows rs))
  too_large h = (rw (lt-leb (length (form d rs)) limit h), rw (lt-leb (length (form d rs)) limit h))

  pub printing : length (form d rs) ≤ limit
      → (answered (printed_in (length room) (form_file d rs)) ≡ normalised limit d (length room) (rows rs))
      × (printed_room room (form_file d rs) ≡ normalised_bytes limit d room (rows rs))
  printing h = by (leb (length (form_file d rs)) (length room)) refl
    where
      by : (b : Bool) → leb (length (form_file d rs)) (length room) ≡ b
          → (answered (printed_in (length room) (form_file d rs)) ≡ normalised limit d (length room) (rows rs))
          × (printed_room room (form_file d rs) ≡ normalised_bytes limit d room (rows rs))
      by true e = (rw (le-leb (length (form d rs)) limit h, e), rw (le-leb (length (form d rs)) limit h, e))
      by false e = (rw (le-leb (length (form d rs)) limit h, e), rw (le-leb (length (form d rs)) limit h, e))

  -- What printing the words of the normal form answers and leaves.
  pub print_done : length (form d rs) ≤ limit → (ws : List ℕ) → ws ≡ form_words (form d rs) → (r : Result ℕ NoRoom) (out : List ℕ)
      → r ≡ printed_in (length room) (printed rs.edition d (policy_rows ws)) → out ≡ printed_room room (printed rs.edition d (policy_rows ws))
      → (answered r ≡ normalised limit d (length room) (rows rs)) × (out ≡ normalised_bytes limit d room (rows rs))
  print_done h ws e r out value after =
      let f = printed-form d rs ws e in
      let p = printing h in
      (ap answered value ∙ rw f p.0, after ∙ rw f p.1)
