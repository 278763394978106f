-- Rows of any edition, printed and read. Assumes nothing.
use Rattle.std.specs.Prelude.{ℕ, suc, ◌≡◌, refl, List, [], ◌∷◌, ◌++◌}
use Rattle.std.proofs.Common.{ap, ◌∙◌, append-nil}
use Rattle.std.proofs.Math.Option.{some}
use Rattle.selectors.specs.Range.{Range}
use Rattle.selectors.specs.declared.Direction.TheVariants.{Out, In}
use Rattle.normal_form.proofs.ShapeLaws.{Fits}
use Rattle.policy.specs.declared.RowDirection.{RowDirection}
use Rattle.policy.specs.declared.RowDirection.TheVariants.{Only, Both}
use Rattle.policy.specs.Policy.{PolicyRow}
use Rattle.policy_text.specs.Bytes.{tab, lf, before, after, count, are_same_bytes}
use Rattle.policy_text.specs.Format.{Field, Format, field_sizes, direction_field, fields_from, field, field_before, ranges_from, row_of}
use Rattle.policy_text.specs.Print.{range_text, fields_text, direction_text, row_text}
use Rattle.policy_round_trip.proofs.CutsLaws.{count-append, before_seam, after_seam}
use Rattle.policy_round_trip.proofs.RangesLaws.{in_field-made}
use Rattle.policy_round_trip.specs.Lawful.{Clean, AllSpelled, Lawful, Printable}

-- The text of a way is read as that way, and has no tab and no LF.
direction_back : (d : RowDirection) → direction_field (direction_text d) ≡ some d
unfolding direction_field are_same_bytes
direction_back (Only Out) = refl
direction_back (Only In) = refl
direction_back Both = refl

direction_clean : (d : RowDirection) → Clean (direction_text d)
unfolding count
direction_clean (Only Out) = record { no-tab = refl; no-lf = refl }
direction_clean (Only In) = record { no-tab = refl; no-lf = refl }
direction_clean Both = record { no-tab = refl; no-lf = refl }

-- Where the field n of a text and the fields after it are these texts: the field's own text, and what stands from the next field on.
field_is : (gs : List Field) (rs : List Range) → Fits (field_sizes gs) rs → (n : ℕ) (s t : List ℕ) → count tab t ≡ 0
    → fields_from n s ≡ t ++ fields_text gs rs → field_before gs n s ≡ t
unfolding field Fits
field_is [] [] f n s t c e = e ∙ append-nil t
field_is [] (r ∷ rs) f n s t c e = absurd f
field_is (g ∷ gs) [] f n s t c e = absurd f
field_is (g ∷ gs) (r ∷ rs) f n s t c e = ap (before tab) e ∙ before_seam tab t _ c

next_is : (g : Field) (gs : List Field) (r : Range) (rs : List Range) (n : ℕ) (s t : List ℕ) → count tab t ≡ 0
    → fields_from n s ≡ t ++ fields_text (g ∷ gs) (r ∷ rs) → fields_from (suc n) s ≡ range_text g.size g.value_text r ++ fields_text gs rs
unfolding fields_from
next_is g gs r rs n s t c e = ap (after tab) e ∙ after_seam tab t _ c

-- The fields after it are read as their ranges.
ranges_back : (gs : List Field) → AllSpelled gs → (rs : List Range) → Fits (field_sizes gs) rs → (n : ℕ) (s t : List ℕ) → count tab t ≡ 0
    → fields_from n s ≡ t ++ fields_text gs rs → ranges_from gs (suc n) s ≡ some rs
unfolding ranges_from Fits
ranges_back [] l [] f n s t c e = refl
ranges_back [] l (r ∷ rs) f n s t c e = absurd f
ranges_back (g ∷ gs) l [] f n s t c e = absurd f
ranges_back (g ∷ gs) l (r ∷ rs) f n s t c e =
    let text = range_text g.size g.value_text r in
    let clean : count tab text ≡ 0 = (l.0.range_clean r).no-tab in
    let next = next_is g gs r rs n s t c e in
    rw (
      field_is gs rs f.2 (suc n) s text clean next,
      l.0.range_back r (in_field-made g.size r f.0 f.1),
      ranges_back gs l.1 rs f.2 (suc n) s text clean next,
    )

-- A row's text is read as the row.
pub row_back : (f : Format) → Lawful f → (r : PolicyRow) → Printable f r → row_of f (row_text f r) ≡ some r
unfolding row_of row_text field fields_from
row_back f l row w =
    let d = direction_text row.direction in
    let a = f.action_text row.action in
    let s = row_text f row in
    let first : field 0 s ≡ d = before_seam tab d _ (direction_clean row.direction).no-tab in
    let rest : fields_from 1 s ≡ a ++ fields_text f.fields row.ranges = after_seam tab d _ (direction_clean row.direction).no-tab in
    let clean : count tab a ≡ 0 = (l.action_clean row.action).no-tab in
    rw (
      first,
      field_is f.fields row.ranges w.fits 1 s a clean rest,
      ranges_back f.fields l.fields_spelled row.ranges w.fits 1 s a clean rest,
      direction_back row.direction,
      w.writable,
    )

fields_one_line : (gs : List Field) → AllSpelled gs → (rs : List Range) → Fits (field_sizes gs) rs → count lf (fields_text gs rs) ≡ 0
unfolding count Fits
fields_one_line [] l [] f = refl
fields_one_line [] l (r ∷ rs) f = absurd f
fields_one_line (g ∷ gs) l [] f = absurd f
fields_one_line (g ∷ gs) l (r ∷ rs) f =
    rw (
      count-append lf (range_text g.size g.value_text r) (fields_text gs rs),
      (l.0.range_clean r).no-lf,
      fields_one_line gs l.1 rs f.2,
    )

-- A row's text has no LF.
pub row_one_line : (f : Format) → Lawful f → (r : PolicyRow) → Printable f r → count lf (row_text f r) ≡ 0
unfolding row_text count
row_one_line f l row w =
    simp (
      count-append,
      (direction_clean row.direction).no-lf,
      (l.action_clean row.action).no-lf,
      fields_one_line f.fields l.fields_spelled row.ranges w.fits,
    )
