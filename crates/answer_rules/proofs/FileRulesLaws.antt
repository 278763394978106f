-- The rules of policy files and of normalising one, a rule for each answer: the answer's own rule holds, and no other's. Assumes nothing.
use Prim.Native.Nat.{ℕ, zero, suc, ◌+◌, ◌-◌, ◌≤◌, ◌<◌}
use native.Mathlib.Omega.{arith}
use Rattle.std.specs.Prelude.{◌≡◌, Bool, cond, ◌↔◌, leb, eqb, length, get_or, Result, Ok, Err}
use Rattle.std.proofs.Math.Path.{refl, ap}
use Rattle.std.proofs.Common.{sym, ◌∙◌}
use mathlib.Core.List.{List, [], ◌∷◌, map}
use Rattle.std.proofs.Math.Option.{Option, none, some}
use Rattle.selectors.specs.declared.Direction.{Direction}
use Rattle.selectors.specs.declared.Direction.TheVariants.{Out, In}
use Rattle.policy.specs.Policy.{PolicyRow}
use Rattle.policy_text.specs.declared.Edition.{Edition}
use Rattle.policy_text.specs.declared.Refusal.{Refusal}
use Rattle.policy_text.specs.declared.Refusal.TheVariants.{NotHeader, NotEnded, TooMany, BadRow}
use Rattle.policy_text.specs.Bytes.{lf, after}
use Rattle.policy_text.specs.Format.{Format, row_of, lines_of, Lines, all_rows, bad_row, onto_row, rows_of}
use Rattle.policy_text.specs.Editions.{format_of, edition_of, body_of, row_count, row_lines, Rules, Policy, refused, rows, policy_of, checked, parse_policy}
use Rattle.policy_round_trip.proofs.EditionsLaws.{edition_is, edition_heads}
use Rattle.decorrelate.specs.Form.{form, direction_number}
use Rattle.normal_form_file.specs.Normalise.{form_file, normalised, normalised_number, normalised_carries}
use Rattle.normal_form_file.specs.declared.NormaliseError.{NormaliseError}
use Rattle.normal_form_file.specs.declared.NormaliseError.TheVariants.{Refused, TooLarge, NoRoom as Short}
use Rattle.acceptance.specs.Spd.{accepting}
use Rattle.acceptance.specs.declared.AcceptError.{AcceptError}
use Rattle.acceptance.specs.declared.AcceptError.TheVariants.{Refused as RefusedFile, TooLarge as RefusedForm}
use Rattle.answer_rules.proofs.DecidesLaws.{Decides, holding, failing, is_true, is_false, decides_le, decides_eq}
use Rattle.answer_rules.specs.Terms.{Headed, HasHeader, EndsInLf, FirstBadRow, normalised_file, accepted_file}
use Rattle.answer_rules.specs.FileRules.{RefusalRule, FileRule, NormaliseRule, AcceptRule}
use Rattle.answer_rules.proofs.ExactlyLaws.{Ruled, normalised_exactly}

none≢some : {e : Edition} → ◌≡◌ {A = Option Edition} none (some e) → ⊥
none≢some q = let z : ◌≡◌ {A = ℕ} 0 1 = cc in omega arith

-- Lines of an edition of which one is no row: the first such, counted from 0.
record FirstBad (f : Format) (ls : List (List ℕ)) (m : ℕ) : Type 0 where
  there : m < length ls
  is_bad : row_of f (get_or ls m []) ≡ none
  good-before : (j : ℕ) → j < m → (r : PolicyRow) × (row_of f (get_or ls j []) ≡ some r)

-- Lines of which the first is row i.
abbrev LinesRule : Format → ℕ → List (List ℕ) → Lines → Type 0
LinesRule f i ls (all_rows rs) = map (row_of f) ls ≡ map some rs
LinesRule f i ls (bad_row k) = (m : ℕ) × (k ≡ i + m) × FirstBad f ls m

module _ (f : Format) where
  first_line : (l : List ℕ) (ls : List (List ℕ)) → row_of f l ≡ none → FirstBad f (l ∷ ls) 0
  first_line l ls e = record { there = omega arith; is_bad = e; good-before = λ j h. absurd (omega arith) }

  next_line : (l : List ℕ) (ls : List (List ℕ)) (r : PolicyRow) (m : ℕ) → row_of f l ≡ some r → FirstBad f ls m → FirstBad f (l ∷ ls) (suc m)
  next_line l ls r m e b = record { there = omega arith; is_bad = b.is_bad; good-before = good }
    where
      good : (j : ℕ) → j < suc m → (q : PolicyRow) × (row_of f (get_or (l ∷ ls) j []) ≡ some q)
      good zero h = (r, e)
      good (suc j) h = b.good-before j (omega arith)

  lines_hold : (i : ℕ) (ls : List (List ℕ)) → LinesRule f i ls (rows_of f i ls)
  unfolding rows_of
  lines_hold i [] = refl
  lines_hold i (l ∷ ls) = by (row_of f l) refl (rows_of f (i + 1) ls) (lines_hold (i + 1) ls)
    where
      by : (o : Option PolicyRow) → row_of f l ≡ o → (rest : Lines) → LinesRule f (i + 1) ls rest → LinesRule f i (l ∷ ls) (onto_row i o rest)
      by none e rest h = (0, omega arith, first_line l ls e)
      by (some r) e (all_rows rs) h = cc
      by (some r) e (bad_row k) h = (suc h.0, omega arith, next_line l ls r h.0 e h.2)

  all-rows : (i : ℕ) (ls : List (List ℕ)) (rs : List PolicyRow) → map (row_of f) ls ≡ map some rs → rows_of f i ls ≡ all_rows rs
  unfolding rows_of
  all-rows i [] [] e = refl
  all-rows i [] (r ∷ rs) e = cc
  all-rows i (l ∷ ls) [] e = cc
  all-rows i (l ∷ ls) (r ∷ rs) e =
      let a : row_of f l ≡ some r = cc in
      let b : map (row_of f) ls ≡ map some rs = cc in
      rw (a, all-rows (i + 1) ls rs b)

  first_bad : (i : ℕ) (ls : List (List ℕ)) (m : ℕ) → FirstBad f ls m → rows_of f i ls ≡ bad_row (i + m)
  unfolding rows_of
  first_bad i [] m b = absurd (omega (arith, b.there))
  first_bad i (l ∷ ls) zero b = let e : i ≡ i + zero = omega arith in rw b.is_bad (ap bad_row e)
  first_bad i (l ∷ ls) (suc m) b =
      let g = b.good-before 0 (omega arith) in
      let rest : FirstBad f ls m = record { there = omega (arith, b.there); is_bad = b.is_bad; good-before = λ j h. b.good-before (suc j) (omega arith) } in
      let e : i + 1 + m ≡ i + suc m = omega arith in
      rw (g.1, first_bad (i + 1) ls m rest, e)

length_lines : (n : ℕ) (s : List ℕ) → length (lines_of n s) ≡ n
unfolding lines_of
length_lines zero s = refl
length_lines (suc n) s = ap suc (length_lines n (after lf s))

-- Counted from 1, as rows are.
module _ (e : Edition) (s : List ℕ) where
  to_row : (i m : ℕ) → i ≡ 1 + m → FirstBad (format_of e) (row_lines e s) m → FirstBadRow e s i
  to_row i m k b =
      let q : i - 1 ≡ m = omega arith in
      record {
        from-1 = omega arith;
        there = omega (arith, b.there, length_lines (row_count e s) (body_of e s));
        is_bad = rw q b.is_bad;
        good-before = λ j g h. b.good-before (j - 1) (omega arith);
      }

  of_row : (i : ℕ) → FirstBadRow e s i → FirstBad (format_of e) (row_lines e s) (i - 1)
  of_row i b =
      record {
        there = omega (arith, b.from-1, b.there, length_lines (row_count e s) (body_of e s));
        is_bad = b.is_bad;
        good-before = good;
      }
    where
      good : (j : ℕ) → j < i - 1 → (r : PolicyRow) × (row_of (format_of e) (get_or (row_lines e s) j []) ≡ some r)
      good j h = let k : suc j - 1 ≡ j = omega arith in rw k at (b.good-before (suc j) (omega arith) (omega arith))

module _ (limit : ℕ) (s : List ℕ) where
  end_decides : Decides (EndsInLf s) (eqb (get_or s (length s - 1) 0) lf)
  end_decides = decides_eq (get_or s (length s - 1) 0) lf

  count_decides : (e : Edition) → Decides (row_count e s ≤ limit) (leb (row_count e s) limit)
  count_decides e = decides_le (row_count e s) limit

  lined : (e : Edition) → Headed e s → EndsInLf s → row_count e s ≤ limit → (l : Lines) → LinesRule (format_of e) 1 (row_lines e s) l
      → FileRule limit s (policy_of e l)
  lined e h n c (all_rows rs) r = (h, n, c, r)
  lined e h n c (bad_row i) r = (e, h, n, c, to_row e s i r.0 r.1 r.2)

  file-holds : FileRule limit s (parse_policy limit s)
  unfolding parse_policy
  file-holds = found (edition_of s) refl
    where
      by : (e : Edition) → Headed e s → {b c : Bool} → Decides (EndsInLf s) b → Decides (row_count e s ≤ limit) c
          → FileRule limit s (cond b (cond c (policy_of e (rows_of (format_of e) 1 (row_lines e s))) (refused TooMany)) (refused NotEnded))
      by e h (failing n) c = ((e, h), n)
      by e h (holding n) (failing c) = (e, h, n, omega arith)
      by e h (holding n) (holding c) = lined e h n c (rows_of (format_of e) 1 (row_lines e s)) (lines_hold (format_of e) 1 (row_lines e s))

      found : (o : Option Edition) → edition_of s ≡ o → FileRule limit s (checked limit s o)
      found none q = λ h. none≢some (sym q ∙ edition_is h.0 s h.1)
      found (some e) q = by e (edition_heads e s q) end_decides (count_decides e)

  -- A file that 23, 24 and 21 let through: its lines decide.
  file_lines : (e : Edition) → Headed e s → EndsInLf s → row_count e s ≤ limit → parse_policy limit s ≡ policy_of e (rows_of (format_of e) 1 (row_lines e s))
  unfolding parse_policy
  file_lines e h n c = rw (edition_is e s h, is_true end_decides n, is_true (count_decides e) c)

  no_edition : (¬ (HasHeader s)) → edition_of s ≡ none
  no_edition h = by (edition_of s) refl
    where
      by : (o : Option Edition) → edition_of s ≡ o → o ≡ none
      by none q = refl
      by (some e) q = absurd (h (e, edition_heads e s q))

  refusal_only : (r : Refusal) → RefusalRule limit s r → parse_policy limit s ≡ refused r
  unfolding parse_policy
  refusal_only NotHeader h = rw (no_edition h)
  refusal_only NotEnded h = rw (edition_is h.0.0 s h.0.1, is_false end_decides h.1)
  refusal_only TooMany h =
      rw (edition_is h.0 s h.1, is_true end_decides h.2, is_false (count_decides h.0) (omega arith))
  refusal_only (BadRow i) h =
      let k : 1 + (i - 1) ≡ i = omega (arith, h.4.from-1) in
      file_lines h.0 h.1 h.2 h.3
      ∙ ap (policy_of h.0) (first_bad (format_of h.0) 1 (row_lines h.0 s) (i - 1) (of_row h.0 s i h.4))
      ∙ ap (λ (n : ℕ). refused (BadRow n)) k

  file_only : (p : Policy) → FileRule limit s p → parse_policy limit s ≡ p
  file_only (rows rs) h =
      file_lines rs.edition h.0 h.1 h.2
      ∙ ap (policy_of rs.edition) (all-rows (format_of rs.edition) 1 (row_lines rs.edition s) rs.entries h.3)
  file_only (refused r) h = refusal_only r h

  pub file-ruled : Ruled (FileRule limit s) (parse_policy limit s)
  file-ruled = record { holds = file-holds; only = file_only }

module _ (limit : ℕ) (d : Direction) (room : ℕ) (s : List ℕ) where
  form-holds : (rs : Rules) → parse_policy limit s ≡ rows rs → NormaliseRule limit d room s (normalised limit d room (rows rs))
  form-holds rs p = by (decides_le (length (form d rs)) limit) (decides_le (length (form_file d rs)) room)
    where
      by : {a b : Bool} → Decides (length (form d rs) ≤ limit) a → Decides (length (form_file d rs) ≤ room) b
          → NormaliseRule limit d room s (cond a (cond b (Ok (length (form_file d rs))) (Err Short)) (Err (TooLarge d)))
      by (holding w) (holding f) = (rs, p, w, f, refl)
      by (holding w) (failing f) = (rs, p, w, omega arith)
      by (failing w) f = (refl, rs, p, omega arith)

  normalise-holds : NormaliseRule limit d room s (normalised_file limit d room s)
  normalise-holds = by (parse_policy limit s) refl (file-holds limit s)
    where
      by : (p : Policy) → parse_policy limit s ≡ p → FileRule limit s p → NormaliseRule limit d room s (normalised limit d room p)
      by (rows rs) e h = form-holds rs e
      by (refused r) e h = h

  normalise_only : (a : Result ℕ NormaliseError) → NormaliseRule limit d room s a → normalised_file limit d room s ≡ a
  normalise_only (Ok n) h =
      rw (h.1, is_true (decides_le (length (form d h.0)) limit) h.2, is_true (decides_le (length (form_file d h.0)) room) h.3, h.4)
  normalise_only (Err (Refused r)) h = rw (refusal_only limit s r h)
  normalise_only (Err (TooLarge w)) h = rw (h.2, is_false (decides_le (length (form d h.1)) limit) (omega arith), h.0)
  normalise_only (Err Short) h =
      rw (h.1, is_true (decides_le (length (form d h.0)) limit) h.2, is_false (decides_le (length (form_file d h.0)) room) (omega arith))

  pub normalise-ruled : Ruled (NormaliseRule limit d room s) (normalised_file limit d room s)
  normalise-ruled = record { holds = normalise-holds; only = normalise_only }

  -- The refusal for size, with the way that it carries.
  over_is : (rs : Rules) → parse_policy limit s ≡ rows rs → limit < length (form d rs) → normalised_file limit d room s ≡ Err (TooLarge d)
  over_is rs p o = normalise_only (Err (TooLarge d)) (refl, rs, p, o)

  pub normalise_over : (way : ℕ)
      → ((normalised_number (normalised_file limit d room s) ≡ 22) × (normalised_carries (normalised_file limit d room s) ≡ way))
      ↔ ((way ≡ direction_number d) × (rs : Rules) × (parse_policy limit s ≡ rows rs) × (limit < length (form d rs)))
  normalise_over way = (
    λ h. let r = (normalised_exactly normalise-ruled 22 refl).0 h.0 in
        (sym h.1 ∙ ap normalised_carries (over_is r.1 r.2 r.3), r.1, r.2, r.3),
    λ h. let e = over_is h.1 h.2 h.3 in
        (ap normalised_number e, ap normalised_carries e ∙ sym h.0),
  )

module _ (limit : ℕ) (s : List ℕ) where
  forms_hold : (rs : Rules) → parse_policy limit s ≡ rows rs → AcceptRule limit s (accepting limit (rows rs))
  forms_hold rs p = by (decides_le (length (form Out rs)) limit) (decides_le (length (form In rs)) limit)
    where
      by : {a b : Bool} → Decides (length (form Out rs) ≤ limit) a → Decides (length (form In rs) ≤ limit) b
          → AcceptRule limit s (cond a (cond b (Ok tt) (Err (RefusedForm In))) (Err (RefusedForm Out)))
      by (holding o) (holding i) = (rs, p, o, i)
      by (holding o) (failing i) = (rs, p, o, omega arith)
      by (failing o) i = (rs, p, omega arith)

  accept-holds : AcceptRule limit s (accepted_file limit s)
  accept-holds = by (parse_policy limit s) refl (file-holds limit s)
    where
      by : (p : Policy) → parse_policy limit s ≡ p → FileRule limit s p → AcceptRule limit s (accepting limit p)
      by (rows rs) e h = forms_hold rs e
      by (refused r) e h = h

  accept_only : (a : Result Unit AcceptError) → AcceptRule limit s a → accepted_file limit s ≡ a
  accept_only (Ok u) h =
      rw (h.1, is_true (decides_le (length (form Out h.0)) limit) h.2, is_true (decides_le (length (form In h.0)) limit) h.3)
  accept_only (Err (RefusedFile r)) h = rw (refusal_only limit s r h)
  accept_only (Err (RefusedForm Out)) h = rw (h.1, is_false (decides_le (length (form Out h.0)) limit) (omega arith))
  accept_only (Err (RefusedForm In)) h =
      rw (h.1, is_true (decides_le (length (form Out h.0)) limit) h.2, is_false (decides_le (length (form In h.0)) limit) (omega arith))

  pub accept-ruled : Ruled (AcceptRule limit s) (accepted_file limit s)
  accept-ruled = record { holds = accept-holds; only = accept_only }
