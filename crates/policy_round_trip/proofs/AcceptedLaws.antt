-- What is read can be printed. Assumes nothing.
use Prim.Native.Nat.{ℕ, zero, suc, ◌+◌, ◌-◌, ◌≤◌}
use Rattle.std.proofs.Common.{arith, ⊎_elim, leb-true}
use Rattle.std.specs.Prelude.{◌≡◌, refl, Bool, true, false, cond, leb, eqb, length, get_or}
use mathlib.Core.List.Memᴰ
use mathlib.Core.List.{List, [], ◌∷◌}
use Rattle.std.proofs.Math.Option.{Option, none, some}
use Rattle.selectors.specs.Range.{Range}
use Rattle.normal_form.proofs.ShapeLaws.{Fits}
use Rattle.policy.specs.declared.Action.{Action}
use Rattle.policy.specs.declared.RowDirection.{RowDirection}
use Rattle.policy.specs.Policy.{PolicyRow}
use Rattle.policy_text.specs.declared.Edition.{Edition}
use Rattle.policy_text.specs.declared.Refusal.{Refusal}
use Rattle.policy_text.specs.declared.Refusal.TheVariants.{NotEnded, TooMany}
use Rattle.policy_text.specs.Bytes.{lf, before, after}
use Rattle.policy_text.specs.Format.{Field, Format, field_sizes, sizes, direction_field, field, field_before, onto_range, ranges_from, row_made_of, row_of, lines_of, Lines, all_rows, bad_row, onto_row, rows_of}
use Rattle.policy_text.specs.Editions.{format_of, edition_of, row_count, row_lines, body_of, Rules, Policy, refused, rows, policy_of, checked, parse_policy}
use Rattle.policy_round_trip.proofs.RangesLaws.{in_field-ends, Reads, In}
use Rattle.policy_round_trip.specs.Lawful.{AllSpelled, Spelled, Writable, Lawful, Printable}
use Rattle.policy_round_trip.proofs.FilesLaws.{AllPrintable}
use Rattle.policy_round_trip.proofs.EditionsLaws.{lawful}

-- A range that is read is one of its field, and so are the ranges of a row.
range_in : (g : Field) → Spelled g → (s : List ℕ) → Reads (In g.size) (g.read_range s)
range_in g l s = by (g.read_range s) (l.range_read s)
  where
    by : (o : Option Range) → ((r : Range) → o ≡ some r → In g.size r) → Reads (In g.size) o
    by none h = tt
    by (some r) h = h r refl

onto_fits : (S : ℕ) (Ss : List ℕ) (o : Option Range) (rest : Option (List Range)) → Reads (In S) o → Reads (Fits Ss) rest
    → Reads (Fits (S ∷ Ss)) (onto_range o rest)
unfolding Fits
onto_fits S Ss none rest h k = tt
onto_fits S Ss (some r) none h k = tt
onto_fits S Ss (some r) (some rs) h k = let e = in_field-ends S r h in (e.0, e.1, k)

ranges_in : (gs : List Field) → AllSpelled gs → (n : ℕ) (s : List ℕ) → Reads (Fits (field_sizes gs)) (ranges_from gs n s)
unfolding ranges_from Fits
ranges_in [] l n s = tt
ranges_in (g ∷ gs) l n s =
    onto_fits g.size (field_sizes gs) (g.read_range (field_before gs n s)) (ranges_from gs (suc n) s) (range_in g l.0 (field_before gs n s))
    (ranges_in gs l.1 (suc n) s)

action-in : (f : Format) → Lawful f → (s : List ℕ) → Reads (Writable f) (f.read_action s)
action-in f l s = by (f.read_action s) (l.action_read s)
  where
    by : (o : Option Action) → ((a : Action) → o ≡ some a → Writable f a) → Reads (Writable f) o
    by none h = tt
    by (some a) h = h a refl

row_made : (f : Format) (d : Option RowDirection) (a : Option Action) (rs : Option (List Range)) → Reads (Writable f) a
    → Reads (Fits (sizes f)) rs → Reads (Printable f) (row_made_of d a rs)
row_made f none a rs h k = tt
row_made f (some d) none rs h k = tt
row_made f (some d) (some a) none h k = tt
row_made f (some d) (some a) (some rs) h k = record { fits = k; writable = h }

module _ (f : Format) (l : Lawful f) where
  row_in : (s : List ℕ) → Reads (Printable f) (row_of f s)
  unfolding row_of
  row_in s =
      row_made f (direction_field (field 0 s)) (f.read_action (field_before f.fields 1 s)) (ranges_from f.fields 2 s)
      (action-in f l (field_before f.fields 1 s)) (ranges_in f.fields l.fields_spelled 2 s)

  -- A bad row, or at most n rows, all of which can be printed.
  abbrev Read : ℕ → Lines → Type 0
  Read n (bad_row k) = Unit
  Read n (all_rows rs) = AllPrintable f rs × (length rs ≤ n)

  onto_in : (i n : ℕ) (r : Option PolicyRow) (rest : Lines) → Reads (Printable f) r → Read n rest → Read (suc n) (onto_row i r rest)
  onto_in i n none rest h k = tt
  onto_in i n (some r) (bad_row b) h k = tt
  onto_in i n (some r) (all_rows rs) h k =
      (λ q m. ⊎_elim (λ e. rw e h) (k.0 q) (Memᴰ.cases_cons m), omega arith)

  lines_in : (i n : ℕ) (s : List ℕ) → Read n (rows_of f i (lines_of n s))
  unfolding rows_of lines_of
  lines_in i zero s = (λ q m. absurd (Memᴰ.not-nil m), omega arith)
  lines_in i (suc n) s = onto_in i n (row_of f (before lf s)) (rows_of f (i + 1) (lines_of n (after lf s))) (row_in (before lf s)) (lines_in (i + 1) n (after lf s))

  rows_in : (i : ℕ) (ls : List (List ℕ)) → Read (length ls) (rows_of f i ls)
  unfolding rows_of
  rows_in i [] = (λ q m. absurd (Memᴰ.not-nil m), omega arith)
  rows_in i (l ∷ ls) = onto_in i (length ls) (row_of f l) (rows_of f (i + 1) ls) (row_in l) (rows_in (i + 1) ls)

-- What is read from lines can be printed.
pub rows_printable : (e : Edition) (i : ℕ) (ls : List (List ℕ)) (rs : List PolicyRow) → rows_of (format_of e) i ls ≡ all_rows rs
    → AllPrintable (format_of e) rs
rows_printable e i ls rs q = (rw q at (rows_in (format_of e) (lawful e) i ls)).0

-- A refusal, or at most n rows, all of which can be printed.
abbrev Rows : ℕ → Policy → Type 0
Rows n (refused r) = Unit
Rows n (rows p) = AllPrintable (format_of p.edition) p.entries × (length p.entries ≤ n)

widen : (e : Edition) (n m : ℕ) (l : Lines) → n ≤ m → Read (format_of e) (lawful e) n l → Rows m (policy_of e l)
widen e n m (bad_row b) h k = tt
widen e n m (all_rows rs) h k = (k.0, omega arith)

unless : (n : ℕ) (t : Bool) (a : Policy) (r : Refusal) → (t ≡ true → Rows n a) → Rows n (cond t a (refused r))
unless n true a r h = h refl
unless n false a r h = tt

checked_in : (limit : ℕ) (s : List ℕ) (o : Option Edition) → Rows limit (checked limit s o)
checked_in limit s none = tt
checked_in limit s (some e) =
    unless limit (eqb (get_or s (length s - 1) 0) lf) _ NotEnded
    (λ a.
    let n = row_count e s in
    unless limit (leb n limit) _ TooMany
    (λ b.
    widen e n limit (rows_of (format_of e) 1 (row_lines e s)) (leb-true n limit b) (lines_in (format_of e) (lawful e) 1 n (body_of e s))))

-- What is read from a file can be printed, and is at most limit rows.
pub parse_printable : (limit : ℕ) (s : List ℕ) (p : Rules) → parse_policy limit s ≡ rows p
    → AllPrintable (format_of p.edition) p.entries × (length p.entries ≤ limit)
unfolding parse_policy
parse_printable limit s p q = rw q at (checked_in limit s (edition_of s))
