-- Demand 3, sentence by sentence, of files. Assumes nothing.
-- A policy is any file that 23, 24, 21 and 20 let through: `parse_policy limit s ≡ rows (rules e rs)`, of which e is the edition and rs are the
-- rows. 'Its normal form for a way is laid out whole, however many rows that makes; the normal-form file is that, printed': `form_file d`.
-- Two policies are two of one edition.
use Rattle.std.specs.Prelude.{ℕ, ◌≤◌, ◌<◌, ◌≡◌, refl, Bool, true, false, Result, Ok, Err, cond, ◌↔◌, leb, length, drop}
use Rattle.std.proofs.Common.{arith, le-leb}
use Rattle.std.proofs.Math.Decide.{dec_le}
use Rattle.std.proofs.Math.Path.{ap}
use mathlib.Core.List.{List, [], ◌∷◌, ◌++◌}
use Rattle.std.proofs.Math.ListN.{length-map}
use Rattle.std.proofs.lemmas.Bool.{lt-leb}
use Rattle.selectors.specs.declared.Direction.{Direction}
use Rattle.normal_form.specs.Search.{Row, Combination}
use Rattle.policy.specs.declared.Action.{Action}
use Rattle.policy.specs.Policy.{PolicyRow, ordered_search, as_row, as_policy}
use Rattle.policy.proofs.PolicyLaws.{searching-normal_form, same-normal_form, normalising_again}
use Rattle.policy_text.specs.declared.Edition.{Edition}
use Rattle.policy_text.specs.Editions.{format_of, edition_sizes, Rules, rules, rows, parse_policy}
use Rattle.policy_text.specs.Print.{policy_text}
use Rattle.policy_round_trip.proofs.EditionsLaws.{lawful}
use Rattle.policy_round_trip.proofs.FilesLaws.{AllPrintable, parse-printed}
use Rattle.policy_round_trip.proofs.InjectiveLaws.{printing_injective}
use Rattle.policy_round_trip.proofs.AcceptedLaws.{parse_printable}
use Rattle.policy_round_trip.proofs.NormalFormsLaws.{normal_form_printable}
use Rattle.decorrelate.specs.Form.{form}
use Rattle.normal_form_file.specs.declared.NormaliseError.{NormaliseError}
use Rattle.normal_form_file.specs.declared.NormaliseError.TheVariants.{TooLarge, NoRoom}
use Rattle.normal_form_file.specs.Normalise.{form_file, normalised, bytes_after, normalised_bytes}

-- Rows read as a policy of one direction are the same rows.
row_back : (d : Direction) (r q : Row Action) → as_row d r ≡ as_row d q → r ≡ q
row_back d r q e = λ i. record { ranges = (e i).ranges; leaf = (e i).action }

policy_back : (d : Direction) (L M : List (Row Action)) → as_policy d L ≡ as_policy d M → L ≡ M
policy_back d [] [] e = refl
policy_back d [] (q ∷ M) e = cc
policy_back d (r ∷ L) [] e = cc
policy_back d (r ∷ L) (q ∷ M) e =
    let first : r ≡ q = row_back d r q (cc) in
    let rest : L ≡ M = policy_back d L M (cc) in
    cc

-- What a policy within the limit prints into room for its file.
prints : (limit : ℕ) (d : Direction) (rs : Rules) (room : List ℕ) → length (form d rs) ≤ limit → length (form_file d rs) ≤ length room
    → (normalised limit d (length room) (rows rs) ≡ Ok (length (form_file d rs)))
    × (normalised_bytes limit d room (rows rs) ≡ form_file d rs ++ drop (length (form_file d rs)) room)
prints limit d rs room within fits =
    let e : normalised limit d (length room) (rows rs) ≡ Ok (length (form_file d rs))
    = rw (le-leb (length (form d rs)) limit within, le-leb (length (form_file d rs)) (length room) fits) in
    (e, ap (λ (a : Result ℕ NormaliseError). bytes_after d rs a room) e)

module _ (limit : ℕ) (d : Direction) (e : Edition) (s : List ℕ) (rs : List PolicyRow) (policy : parse_policy limit s ≡ rows (rules e rs)) where
  -- The rows of its normal form, read as a policy.
  form_rows : List PolicyRow
  form_rows = as_policy d (form d (rules e rs))

  printable : AllPrintable (format_of e) form_rows
  unfolding form_rows
  printable = normal_form_printable (format_of e) (lawful e) d rs (parse_printable limit s (rules e rs) policy).0

  -- 'The two normal-form files are byte for byte equal exactly when the ordered search for that way gives every combination of addresses,
  -- protocol and ports the same action under both.'
  pub files_equal : (t : List ℕ) (qs : List PolicyRow) → parse_policy limit t ≡ rows (rules e qs)
      → (form_file d (rules e rs) ≡ form_file d (rules e qs))
      ↔ ((vs : List ℕ) → Combination (edition_sizes e) vs → ordered_search d rs vs ≡ ordered_search d qs vs)
  unfolding form_rows
  files_equal t qs other =
      let theirs : AllPrintable (format_of e) (as_policy d (form d (rules e qs)))
      = normal_form_printable (format_of e) (lawful e) d qs (parse_printable limit t (rules e qs) other).0 in
      let same = same-normal_form (edition_sizes e) d rs qs in (
        λ f. same.0 (policy_back d (form d (rules e rs)) (form d (rules e qs)) (printing_injective e _ _ printable theirs f)),
        λ h. ap (λ (L : List (Row Action)). policy_text (format_of e) (as_policy d L)) (same.1 h),
      )

  module _ (within : length (form d (rules e rs)) ≤ limit) where
    -- The normal-form file is a policy again, of the same edition, with the normal form's rows.
    pub form_file_parses : parse_policy limit (form_file d (rules e rs)) ≡ rows (rules e (as_policy d (form d (rules e rs))))
    unfolding form_rows
    form_file_parses = parse-printed limit e (as_policy d (form d (rules e rs))) printable (rw length-map within)

    -- 'For every combination, searching either normal form for that way gives the action that searching its own policy gives.'
    pub searching-form_file : (ps : Rules) → parse_policy limit (form_file d (rules e rs)) ≡ rows ps
        → (vs : List ℕ) → Combination (edition_sizes e) vs → ordered_search d ps.entries vs ≡ ordered_search d rs vs
    searching-form_file ps f vs ok =
        let same : ps ≡ rules e (as_policy d (form d (rules e rs))) = cc (form_file_parses) in
        rw same (searching-normal_form (edition_sizes e) d rs vs ok)

    -- 'Given room for the file, normalising either policy for that way prints its normal-form file as document 01 lays it out.'
    pub normalising_prints : (room : List ℕ) → length (form_file d (rules e rs)) ≤ length room
        → (normalised limit d (length room) (parse_policy limit s) ≡ Ok (length (form_file d (rules e rs))))
        × (normalised_bytes limit d room (parse_policy limit s) ≡ form_file d (rules e rs) ++ drop (length (form_file d (rules e rs))) room)
    normalising_prints room fits = rw policy (prints limit d (rules e rs) room within fits)

    -- 'Normalising either normal-form file again for that way gives the same file, byte for byte.'
    pub normalising-form_file : (room : List ℕ) → length (form_file d (rules e rs)) ≤ length room
        → (normalised limit d (length room) (parse_policy limit (form_file d (rules e rs))) ≡ Ok (length (form_file d (rules e rs))))
        × (normalised_bytes limit d room (parse_policy limit (form_file d (rules e rs)))
        ≡ form_file d (rules e rs) ++ drop (length (form_file d (rules e rs))) room)
    normalising-form_file room fits =
        let form2 : Rules = rules e (as_policy d (form d (rules e rs))) in
        let again : form d form2 ≡ form d (rules e rs) = normalising_again (edition_sizes e) d rs in
        let file : form_file d form2 ≡ form_file d (rules e rs) = ap (λ (L : List (Row Action)). policy_text (format_of e) (as_policy d L)) again in
        rw (form_file_parses, ← file) (prints limit d form2 room (rw again within) (rw file fits))

  -- 'Normalising any policy for one way is refused for size exactly when its normal form for that way is over that limit.'
  pub refused_for_size : (room : ℕ) → (normalised limit d room (parse_policy limit s) ≡ Err (TooLarge d)) ↔ (limit < length (form d (rules e rs)))
  refused_for_size room = rw policy (by (dec_le (length (form d (rules e rs))) limit))
    where
      fitted : (b : Bool) → cond b (Ok (length (form_file d (rules e rs)))) (Err NoRoom) ≡ Err (TooLarge d) → ⊥
      fitted true f = let z : ◌≡◌ {A = ℕ} 0 1 = cc in omega arith
      fitted false f = let z : ◌≡◌ {A = ℕ} 0 1 = cc in omega arith

      by : Dec (length (form d (rules e rs)) ≤ limit)
          → (normalised limit d room (rows (rules e rs)) ≡ Err (TooLarge d)) ↔ (limit < length (form d (rules e rs)))
      by (yes h) = (
        λ f. absurd (fitted (leb (length (form_file d (rules e rs))) room) (rw (le-leb (length (form d (rules e rs))) limit h) at f)),
        λ g. absurd (omega arith),
      )
      by (no h) = (λ f. omega arith, λ g. rw (lt-leb (length (form d (rules e rs))) limit g))
