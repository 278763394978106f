-- Files of any edition, printed and read. Assumes nothing.
use Rattle.std.specs.Prelude.{ℕ, ◌+◌, ◌-◌, ◌≤◌, ◌≡◌, get_or}
use Rattle.std.proofs.Common.{arith, ap, ◌∙◌, le-leb}
use Rattle.std.proofs.Math.Path.{refl}
use mathlib.Core.List.{List, [], ◌∷◌, ◌++◌, append_assoc, Memᴰ}
use Rattle.std.proofs.Math.ListN.{length, length-append}
use Rattle.std.proofs.Math.Seq.{get_or-append_seam, drop-append_seam}
use Rattle.policy.specs.Policy.{PolicyRow}
use Rattle.policy_text.specs.declared.Edition.{Edition}
use Rattle.policy_text.specs.Bytes.{lf, count}
use Rattle.policy_text.specs.Format.{Format, lines_of, all_rows, rows_of}
use Rattle.policy_text.specs.Print.{row_text, rows_text, policy_text}
use Rattle.policy_text.specs.Editions.{format_of, body_of, rules, rows, policy_of, parse_policy}
use Rattle.policy_round_trip.proofs.CutsLaws.{count-append, before_seam, after_seam}
use Rattle.policy_round_trip.specs.Lawful.{Lawful, Printable}
use Rattle.policy_round_trip.proofs.RowsLaws.{row_back, row_one_line}
use Rattle.policy_round_trip.proofs.EditionsLaws.{lawful, edition-found}

-- Every row is printable.
abbrev pub AllPrintable : Format → List PolicyRow → Type 0
AllPrintable f rs = (r : PolicyRow) → Memᴰ r rs → Printable f r

-- Then the first row is, and so are the others.
pub first_printable : {f : Format} {r : PolicyRow} {rs : List PolicyRow} → AllPrintable f (r ∷ rs) → Printable f r
first_printable {f} {r} a = a r (Memᴰ.head refl)

pub rest_printable : {f : Format} {r : PolicyRow} {rs : List PolicyRow} → AllPrintable f (r ∷ rs) → AllPrintable f rs
rest_printable a q m = a q (Memᴰ.tail m)

pub rows-cons : (f : Format) (r : PolicyRow) (rs : List PolicyRow) → rows_text f (r ∷ rs) ≡ row_text f r ++ (lf ∷ rows_text f rs)
unfolding rows_text
rows-cons f r rs = append_assoc (row_text f r) (lf ∷ []) (rows_text f rs)

module _ (f : Format) (l : Lawful f) where
  -- Rows make one line each, and the lines are read as the rows.
  count_rows : (rs : List PolicyRow) → AllPrintable f rs → count lf (rows_text f rs) ≡ length rs
  unfolding count rows_text
  count_rows [] a = refl
  count_rows (r ∷ rs) a = rw (rows-cons f r rs, count-append, row_one_line f l r (first_printable a)) (omega (arith, count_rows rs (rest_printable a)))

  lines_back : (i : ℕ) (rs : List PolicyRow) → AllPrintable f rs → rows_of f i (lines_of (length rs) (rows_text f rs)) ≡ all_rows rs
  unfolding rows_of lines_of
  lines_back i [] a = refl
  lines_back i (r ∷ rs) a =
      let w = first_printable a in
      rw (
        rows-cons f r rs,
        before_seam lf (row_text f r) (rows_text f rs) (row_one_line f l r w),
        after_seam lf (row_text f r) (rows_text f rs) (row_one_line f l r w),
        row_back f l r w,
        lines_back (i + 1) rs (rest_printable a),
      )

  -- The last byte of lines is LF, and so is that of a file.
  last-lf : (s : List ℕ) (rs : List PolicyRow) → get_or (s ++ (lf ∷ rows_text f rs)) (length (s ++ (lf ∷ rows_text f rs)) - 1) 0 ≡ lf
  unfolding rows_text
  last-lf s [] =
      let e : length (s ++ (lf ∷ [])) - 1 ≡ length s = rw length-append (omega arith) in
      rw e (get_or-append_seam s lf [] 0)
  last-lf s (r ∷ rs) = rw (rows-cons f r rs, ← append_assoc s (lf ∷ row_text f r) (lf ∷ rows_text f rs)) (last-lf (s ++ (lf ∷ row_text f r)) rs)

  file_ended : (rs : List PolicyRow) → get_or (f.header ++ rows_text f rs) (length (f.header ++ rows_text f rs) - 1) 0 ≡ lf
  file_ended rs =
      let h = l.header_line in
      let e : f.header ++ rows_text f rs ≡ h.words ++ (lf ∷ rows_text f rs) =
      ap (λ (x : List ℕ). x ++ rows_text f rs) h.ended ∙ append_assoc h.words (lf ∷ []) (rows_text f rs) in
      rw e (last-lf h.words rs)

-- What is printed of an edition's rows is read as that edition and the rows.
pub parse-printed : (limit : ℕ) (e : Edition) (rs : List PolicyRow) → AllPrintable (format_of e) rs → length rs ≤ limit
    → parse_policy limit (policy_text (format_of e) rs) ≡ rows (rules e rs)
unfolding parse_policy policy_text
parse-printed limit e rs a h =
    let f = format_of e in
    let body : body_of e (f.header ++ rows_text f rs) ≡ rows_text f rs = drop-append_seam f.header (rows_text f rs) in
    rw (
      edition-found e (rows_text f rs),
      file_ended f (lawful e) rs,
      body,
      count_rows f (lawful e) rs a,
      le-leb (length rs) limit h,
    )
    (ap (policy_of e) (lines_back f (lawful e) 1 rs a))
