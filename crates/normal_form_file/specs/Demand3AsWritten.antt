-- Demand 3, sentence by sentence, of the rows that document 01 describes: `FormAsWritten d rs L`, in which nothing is computed. Assumes nothing.
-- As in Demand3.antt, a policy is a file with `parse_policy limit s ≡ rows (rules e rs)`. Its normal-form file is those rows, printed: `file_of_rows e d L`.
use Rattle.std.specs.Prelude.{ℕ, ◌≤◌, ◌<◌, ◌≡◌, Ok, Err, List, ◌++◌, ◌↔◌, length, drop}
use Rattle.std.proofs.Common.{ap}
use Rattle.selectors.specs.declared.Direction.{Direction}
use Rattle.normal_form.specs.Search.{Row, Combination}
use Rattle.normal_form.specs.Layout.{LayoutAsWritten}
use Rattle.normal_form.proofs.LayoutAsWrittenLaws.{as_written_iff, one_layout}
use Rattle.policy.specs.declared.Action.{Action}
use Rattle.policy.specs.declared.Action.TheVariants.{Discard}
use Rattle.policy.specs.ActionLaws.{action-≟}
use Rattle.policy.specs.Policy.{PolicyRow, ordered_search, as_policy}
use Rattle.policy_text.specs.declared.Edition.{Edition}
use Rattle.policy_text.specs.Editions.{format_of, edition_sizes, Rules, rules, rows, parse_policy}
use Rattle.policy_text.specs.Print.{policy_text}
use Rattle.decorrelate.specs.Form.{form}
use Rattle.normal_form_file.specs.declared.NormaliseError.TheVariants.{TooLarge}
use Rattle.normal_form_file.specs.Normalise.{form_file, normalised, normalised_bytes}
use Rattle.normal_form_file.specs.Demand3.{files_equal, searching-form_file, normalising_prints, normalising-form_file, refused_for_size}

-- Rows are the normal form of a policy for one direction as document 01 describes it, to the letter. (`form_as_written`: they are exactly `form d rs`.)
abbrev pub FormAsWritten : Direction → Rules → List (Row Action) → Type 0
FormAsWritten d rs L = LayoutAsWritten Discard (edition_sizes rs.edition) (ordered_search d rs.entries) L

-- The file of rows for one direction, in an edition.
abbrev pub file_of_rows : Edition → Direction → List (Row Action) → List ℕ
file_of_rows e d L = policy_text (format_of e) (as_policy d L)

-- 'Every policy has one normal form for each way, whatever its rows are and whoever wrote them.'
pub one_normal_form : (d : Direction) (rs : Rules)
    → (L : List (Row Action)) × FormAsWritten d rs L × ((M : List (Row Action)) → FormAsWritten d rs M → M ≡ L)
one_normal_form d rs = one_layout action-≟ Discard (edition_sizes rs.edition) (ordered_search d rs.entries)

-- It is the computed one.
pub form_as_written : (d : Direction) (rs : Rules) (L : List (Row Action)) → FormAsWritten d rs L ↔ (L ≡ form d rs)
form_as_written d rs = as_written_iff action-≟ Discard (edition_sizes rs.edition) (ordered_search d rs.entries)

-- 'The normal-form file is that, printed.'
pub file_as_written : (d : Direction) (rs : Rules) (L : List (Row Action)) → FormAsWritten d rs L → file_of_rows rs.edition d L ≡ form_file d rs
file_as_written d rs L laid = ap (file_of_rows rs.edition d) ((form_as_written d rs L).0 laid)

module _ (limit : ℕ) (d : Direction) (e : Edition) (s : List ℕ) (rs : List PolicyRow) (policy : parse_policy limit s ≡ rows (rules e rs))
    (L : List (Row Action)) (laid : FormAsWritten d (rules e rs) L) where
  -- 'The two normal-form files are byte for byte equal exactly when the ordered search for that way gives every combination of addresses,
  -- protocol and ports the same action under both.'
  pub files_equal_as_written : (t : List ℕ) (qs : List PolicyRow) → parse_policy limit t ≡ rows (rules e qs)
      → (M : List (Row Action)) → FormAsWritten d (rules e qs) M
      → (file_of_rows e d L ≡ file_of_rows e d M) ↔ ((vs : List ℕ) → Combination (edition_sizes e) vs → ordered_search d rs vs ≡ ordered_search d qs vs)
  files_equal_as_written t qs other M theirs =
      rw ((form_as_written d (rules e rs) L).0 laid, (form_as_written d (rules e qs) M).0 theirs) (files_equal limit d e s rs policy t qs other)

  module _ (within : length L ≤ limit) where
    -- 'For every combination, searching either normal form for that way gives the action that searching its own policy gives.'
    pub searching_as_written : (ps : Rules) → parse_policy limit (file_of_rows e d L) ≡ rows ps
        → (vs : List ℕ) → Combination (edition_sizes e) vs → ordered_search d ps.entries vs ≡ ordered_search d rs vs
    searching_as_written ps f =
        let same : L ≡ form d (rules e rs) = (form_as_written d (rules e rs) L).0 laid in
        searching-form_file limit d e s rs policy (rw same at within) ps (rw same at f)

    -- 'Given room for the file, normalising either policy for that way prints its normal-form file as document 01 lays it out.'
    pub prints_as_written : (room : List ℕ) → length (file_of_rows e d L) ≤ length room
        → (normalised limit d (length room) (parse_policy limit s) ≡ Ok (length (file_of_rows e d L)))
        × (normalised_bytes limit d room (parse_policy limit s) ≡ file_of_rows e d L ++ drop (length (file_of_rows e d L)) room)
    prints_as_written room fits =
        let same : L ≡ form d (rules e rs) = (form_as_written d (rules e rs) L).0 laid in
        rw same (normalising_prints limit d e s rs policy (rw same at within) room (rw same at fits))

    -- 'Normalising either normal-form file again for that way gives the same file, byte for byte.'
    pub again_as_written : (room : List ℕ) → length (file_of_rows e d L) ≤ length room
        → (normalised limit d (length room) (parse_policy limit (file_of_rows e d L)) ≡ Ok (length (file_of_rows e d L)))
        × (normalised_bytes limit d room (parse_policy limit (file_of_rows e d L)) ≡ file_of_rows e d L ++ drop (length (file_of_rows e d L)) room)
    again_as_written room fits =
        let same : L ≡ form d (rules e rs) = (form_as_written d (rules e rs) L).0 laid in
        rw same (normalising-form_file limit d e s rs policy (rw same at within) room (rw same at fits))

  -- 'Normalising any policy for one way is refused for size exactly when its normal form for that way is over that limit.'
  pub refused_as_written : (room : ℕ) → (normalised limit d room (parse_policy limit s) ≡ Err (TooLarge d)) ↔ (limit < length L)
  refused_as_written room = rw ((form_as_written d (rules e rs) L).0 laid) (refused_for_size limit d e s rs policy room)
