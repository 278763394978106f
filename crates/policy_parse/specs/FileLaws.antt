-- Laws of policy files: which refusal, or which rows. Assumes nothing.
use Rattle.std.specs.Prelude.{ℕ, ◌-◌, ◌*◌, ◌≤◌, ◌<◌, ◌≡◌, ◌+◌, refl, Bool, true, false, cond, List, [], ◌∷◌, ◌++◌, leb, eqb, length, get_or, take, drop, Result, Ok, Err}
use Rattle.std.specs.List.{ends_with}
use Rattle.std.specs.Cmp.Lexicographic.{pointwise}
use Rattle.std.proofs.Common.{arith, zero-add, sym, ap, ◌∙◌}
use Rattle.std.proofs.lemmas.Bool.Decides.{nat_tests}
use Rattle.std.proofs.Math.Option.{Option, none, some}
use Rattle.std.proofs.lemmas.List.Edits.{sets-eq}
use borrow.Author.Tests.{le-leb, lt-leb, eq-eqb, ne_eqb, eqb-true, eqb-false}
use Rattle.policy.specs.Policy.{PolicyRow}
use Rattle.policy.specs.Words.{row_words, words_of}
use Rattle.policy.proofs.WrittenLaws.{words-length}
use Rattle.policy_text.specs.declared.Edition.{Edition}
use Rattle.policy_text.specs.declared.Edition.TheVariants.{One}
use Rattle.policy_text.specs.declared.ParseError.TheVariants.{NoRoom}
use Rattle.policy_text.specs.declared.Refusal.{Refusal}
use Rattle.policy_text.specs.declared.Rows.{Rows}
use Rattle.policy_text.specs.declared.Refusal.TheVariants.{NotHeader, NotEnded, TooMany, BadRow}
use Rattle.policy_text.specs.Bytes.{lf, count, are_same_bytes}
use Rattle.policy_text.proofs.BytesLaws.{left_more, left_none, same_pointwise}
use Rattle.policy_text.specs.Format.{lines_of, Lines, all_rows, bad_row, rows_of}
use Rattle.policy_text.specs.Edition1.{header, edition1}
use Rattle.policy_text.specs.Editions.{format_of, edition_among, edition_of, row_count, row_lines, rules, Policy, refused, rows, policy_of, checked, parse_policy}
use Rattle.policy_text.proofs.EditionsLaws.{only_one}
use Rattle.policy_round_trip.proofs.AcceptedLaws.{rows_printable}
use Rattle.policy_round_trip.proofs.WordsLaws.{all_five}
use Rattle.policy_parse.specs.Parsing.{written, bad_of, counted, file_of, parsed_in, parsed_room}
use Rattle.policy_parse.specs.RowsLaws.{Read, good, bad, read, length_lines, written_rows}

-- Whether a text ends in LF, by std's words and by its last byte.
ends_is : (s : List ℕ) → ends_with eqb s (lf ∷ []) ≡ eqb (get_or s (length s - 1) 0) lf
ends_is [] = refl
ends_is (x ∷ t) =
    let s = x ∷ t in
    let i = length s - 1 in
    rw (left_more s i (omega arith), left_none s (i + 1) (omega arith)) (grind (arith, nat_tests))

-- The edition of a file, by the one header line that there is.
module _ (s : List ℕ) where
  pub edition_none : are_same_bytes (take 9 s) header ≡ false → edition_of s ≡ none
  unfolding edition_among
  edition_none h = rw h

  pub edition_one : are_same_bytes (take 9 s) header ≡ true → edition_of s ≡ some One
  unfolding edition_among
  edition_one h = rw h

-- The refusals in their order, and the rows.
module _ (limit : ℕ) (s : List ℕ) where
  pub not-header : edition_of s ≡ none → parse_policy limit s ≡ refused NotHeader
  unfolding parse_policy
  not-header h = rw h

  module _ (e : Edition) (h : edition_of s ≡ some e) where
    pub not_ended : (get_or s (length s - 1) 0 ≡ lf → ⊥) → parse_policy limit s ≡ refused NotEnded
    unfolding parse_policy
    not_ended n = rw (h, ne_eqb (get_or s (length s - 1) 0) lf n)

    pub too_many : get_or s (length s - 1) 0 ≡ lf → limit < row_count e s → parse_policy limit s ≡ refused TooMany
    unfolding parse_policy
    too_many l n = rw (h, eq-eqb (get_or s (length s - 1) 0) lf l, lt-leb (row_count e s) limit n)

    pub within_limit : get_or s (length s - 1) 0 ≡ lf → row_count e s ≤ limit
        → parse_policy limit s ≡ policy_of e (rows_of (format_of e) 1 (row_lines e s))
    unfolding parse_policy
    within_limit l n = rw (h, eq-eqb (get_or s (length s - 1) 0) lf l, le-leb (row_count e s) limit n)

-- Lines, by the first bad row.
module _ (ls : List (List ℕ)) where
  pub bad_lines : (k : ℕ) → bad_of (rows_of edition1 1 ls) ≡ Err (BadRow k) → rows_of edition1 1 ls ≡ bad_row k
  bad_lines k e = by (rows_of edition1 1 ls) e
    where
      by : (l : Lines) → bad_of l ≡ Err (BadRow k) → l ≡ bad_row k
      by (all_rows rs) h = let z : ◌≡◌ {A = ℕ} 0 1 = cc in absurd (omega arith)
      by (bad_row j) h = cc

  pub refused_lines : (r : Refusal) → bad_of (rows_of edition1 1 ls) ≡ Err r → policy_of One (rows_of edition1 1 ls) ≡ refused r
  refused_lines r e = by (rows_of edition1 1 ls) e
    where
      by : (l : Lines) → bad_of l ≡ Err r → policy_of One l ≡ refused r
      by (all_rows rs) h = let z : ◌≡◌ {A = ℕ} 0 1 = cc in absurd (omega arith)
      by (bad_row j) h = cc

  pub good_lines : bad_of (rows_of edition1 1 ls) ≡ Ok tt → file_of (policy_of One (rows_of edition1 1 ls)) ≡ Ok (record { edition = One; count = length ls })
  good_lines e = by (read 1 ls)
    where
      by : Read 1 ls → file_of (policy_of One (rows_of edition1 1 ls)) ≡ Ok (record { edition = One; count = length ls })
      by (good rs q m) = rw (q, m)
      by (bad j q m) = let f = rw q at e in let z : ◌≡◌ {A = ℕ} 0 1 = cc in absurd (omega arith)

-- What the answer for a file says of it.
abbrev pub FileIs : Policy → Result Rows Refusal → Type 0
FileIs p (Ok q) = (rs : List PolicyRow) × ((p ≡ rows (rules q.edition rs)) × (q.count ≡ length rs))
FileIs p (Err r) = p ≡ refused r

pub file_is : (p : Policy) (f : Result Rows Refusal) → f ≡ file_of p → FileIs p f
file_is (refused q) (Err r) h = cc
file_is (refused q) (Ok k) h = let z : ◌≡◌ {A = ℕ} 0 1 = cc in absurd (omega arith)
file_is (rows q) (Err r) h = let z : ◌≡◌ {A = ℕ} 0 1 = cc in absurd (omega arith)
file_is (rows q) (Ok k) h =
    let k_is : k ≡ counted q = cc in
    let same : q.edition ≡ k.edition = cc in
    (q.entries, (ap (λ (o : Edition). rows (rules o q.entries)) same, (cc)))

-- What the tests of a file say, as std's words have them: its header line, its end, its count of lines and its rows.
module _ (limit : ℕ) (s : List ℕ) where
  pub unheaded : pointwise eqb (take 9 s) header ≡ false → parse_policy limit s ≡ refused NotHeader
  unheaded h = not-header limit s (edition_none s (sym (same_pointwise (take 9 s) header) ∙ h))

  module _ (h : pointwise eqb (take 9 s) header ≡ true) where
    headed : edition_of s ≡ some One
    headed = edition_one s (sym (same_pointwise (take 9 s) header) ∙ h)

    pub unended : ends_with eqb s (lf ∷ []) ≡ false → parse_policy limit s ≡ refused NotEnded
    unended e = not_ended limit s One headed (eqb-false _ lf (sym (ends_is s) ∙ e))

    module _ (e : ends_with eqb s (lf ∷ []) ≡ true) (n : ℕ) (lines : n ≡ count lf (drop 9 s)) where
      ended : get_or s (length s - 1) 0 ≡ lf
      ended = eqb-true _ lf (sym (ends_is s) ∙ e)

      pub beyond : limit < n → parse_policy limit s ≡ refused TooMany
      beyond l = too_many limit s One headed ended (rw lines at l)

      module _ (l : n ≤ limit) where
        read_lines : parse_policy limit s ≡ policy_of One (rows_of edition1 1 (lines_of n (drop 9 s)))
        read_lines = within_limit limit s One headed ended (rw lines at l) ∙ rw lines

        pub with_bad : (r : Refusal) → bad_of (rows_of edition1 1 (lines_of n (drop 9 s))) ≡ Err r → parse_policy limit s ≡ refused r
        with_bad r b = read_lines ∙ refused_lines (lines_of n (drop 9 s)) r b

        pub with_rows : bad_of (rows_of edition1 1 (lines_of n (drop 9 s))) ≡ Ok tt → FileIs (parse_policy limit s) (Ok (record { edition = One; count = n }))
        with_rows b =
            file_is (parse_policy limit s) (Ok (record { edition = One; count = n }))
            (rw read_lines (sym (good_lines (lines_of n (drop 9 s)) b ∙ rw length_lines)))

-- A file that is taken: each of its lines is a row.
rows_lines : (e o : Edition) (l : Lines) (rs : List PolicyRow) → policy_of o l ≡ rows (rules e rs) → (o ≡ e) × (l ≡ all_rows rs)
rows_lines e o (all_rows qs) rs h =
    let one : rules o qs ≡ rules e rs = cc in
    (λ i. (one i).edition, λ i. all_rows (one i).entries)
rows_lines e o (bad_row k) rs h = let z : ◌≡◌ {A = ℕ} 0 1 = cc in absurd (omega arith)

module _ (limit : ℕ) (s : List ℕ) (e : Edition) (rs : List PolicyRow) (is : parse_policy limit s ≡ rows (rules e rs)) where
  file_lines : rows_of (format_of e) 1 (row_lines e s) ≡ all_rows rs
  unfolding parse_policy
  file_lines = found (edition_of s) is
    where
      lined : (o : Edition) → policy_of o (rows_of (format_of o) 1 (row_lines o s)) ≡ rows (rules e rs) → rows_of (format_of e) 1 (row_lines e s) ≡ all_rows rs
      lined o h =
          let p = rows_lines e o (rows_of (format_of o) 1 (row_lines o s)) rs h in
          rw (← p.0) p.1

      by : (o : Edition) (b c : Bool)
          → cond b (cond c (policy_of o (rows_of (format_of o) 1 (row_lines o s))) (refused TooMany)) (refused NotEnded) ≡ rows (rules e rs)
          → rows_of (format_of e) 1 (row_lines e s) ≡ all_rows rs
      by o true true h = lined o h
      by o true false h = let z : ◌≡◌ {A = ℕ} 0 1 = cc in absurd (omega arith)
      by o false c h = let z : ◌≡◌ {A = ℕ} 0 1 = cc in absurd (omega arith)

      found : (o : Option Edition) → checked limit s o ≡ rows (rules e rs) → rows_of (format_of e) 1 (row_lines e s) ≡ all_rows rs
      found none h = let z : ◌≡◌ {A = ℕ} 0 1 = cc in absurd (omega arith)
      found (some o) h = by o (eqb (get_or s (length s - 1) 0) lf) (leb (row_count o s) limit) h

-- There is one edition.
pub of_edition_1 : {p : Policy} {e : Edition} {rs : List PolicyRow} → p ≡ rows (rules e rs) → p ≡ rows (rules One rs)
of_edition_1 {p} {e} {rs} q = q ∙ ap (λ (o : Edition). rows (rules o rs)) (only_one e)

-- One of edition 1.
module _ (limit : ℕ) (s : List ℕ) (rs : List PolicyRow) (is : parse_policy limit s ≡ rows (rules One rs)) where
  file-count : length rs ≡ row_count One s
  file-count = by (read 1 (row_lines One s))
    where
      by : Read 1 (row_lines One s) → length rs ≡ row_count One s
      by (good qs q m) =
          let same : rs ≡ qs = cc (file_lines limit s One rs is) in
          rw same (m ∙ length_lines (row_count One s) (drop 9 s))
      by (bad j q m) = let z : ◌≡◌ {A = ℕ} 0 1 = cc (file_lines limit s One rs is) in absurd (omega arith)

  -- Written into a room that they fit, its lines are the rows' words at its start.
  pub rows_written : (room : List ℕ) (n : ℕ) → n ≡ length rs → n * row_words ≤ length room
      → written room 0 (lines_of n (drop 9 s)) ≡ words_of rs ++ drop (length rs * row_words) room
  rows_written room n e fits =
      let ls = row_lines One s in
      let all = file_lines limit s One rs is in
      let k : n ≡ row_count One s = e ∙ file-count in
      let w = words-length rs (all_five One rs (rows_printable One 1 ls rs all)) in
      rw (k, sym w) (written_rows room 0 1 ls rs all ∙ sets-eq (words_of rs) room 0 (omega arith) ∙ rw zero-add)

  -- What parsing into a room then answers and leaves.
  module _ (room : List ℕ) (n : ℕ) (e : n ≡ length rs) where
    pub parsed_fits : n * row_words ≤ length room
        → (parsed_in (length room) (parse_policy limit s) ≡ Ok (record { edition = One; count = n })) × (parsed_room room (parse_policy limit s) ≡ written room 0 (lines_of n (drop 9 s)))
    parsed_fits fits =
        let g : length rs * row_words ≤ length room = omega arith in
        let t = le-leb (length rs * row_words) (length room) g in
        (rw (is, t, e), rw (is, t) (sym (rows_written room n e fits)))

    pub parsed_short : length room < n * row_words → (parsed_in (length room) (parse_policy limit s) ≡ Err NoRoom) × (parsed_room room (parse_policy limit s) ≡ room)
    parsed_short short =
        let g : length room < length rs * row_words = omega arith in
        let t = lt-leb (length rs * row_words) (length room) g in
        (rw (is, t), rw (is, t))
