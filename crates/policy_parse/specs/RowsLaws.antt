-- Laws of lines and their rows, and of rows put into a room. Assumes nothing.
use Prim.Native.Nat.{ℕ, zero, suc, ◌+◌, ◌-◌, ◌*◌, ◌≤◌, ◌<◌}
use native.Mathlib.Omega.{arith}
use native.Mathlib.Nat.{sub-zero}
use Rattle.std.specs.Prelude.{◌≡◌, refl, List, [], ◌∷◌, length, Some, None, Err}
use Rattle.std.proofs.Common.{ap, ◌∙◌}
use Rattle.std.proofs.Math.Option.{Option, none, some}
use Rattle.std.proofs.lemmas.List.Edits.{sets}
use Rattle.policy.specs.Policy.{PolicyRow}
use Rattle.policy.specs.declared.Row.{Row}
use Rattle.policy.specs.Words.{row_words, words_of_row, words_of, words_of_all}
use Rattle.policy_text.specs.declared.Refusal.TheVariants.{BadRow}
use Rattle.policy_text.specs.Bytes.{lf, before, after}
use Rattle.policy_text.specs.Edition1.{edition1}
use Rattle.policy_text.specs.Format.{row_of, lines_of, Lines, all_rows, bad_row, onto, rows_of}
use Rattle.selectors.proofs.StoresLaws.{sets_more}
use Rattle.policy_fields.specs.Answers.{entry_of, text_words}
use Rattle.policy_fields.specs.EntryLaws.{bad_none, entry_some, line-words}
use Rattle.policy_parse.specs.Parsing.{written, bad_of}

bad-onto : (r : PolicyRow) (l : Lines) → bad_of (onto r l) ≡ bad_of l
bad-onto r (bad_row k) = refl
bad-onto r (all_rows rs) = refl

-- One line of the lines that are left.
pub no_line : (s : List ℕ) (i n : ℕ) → n ≤ i → lines_of (n - i) s ≡ []
unfolding lines_of
no_line s i n h = let e : n - i ≡ zero = omega arith in rw e

module _ (s : List ℕ) (i n : ℕ) (h : i < n) where
  pub one_line : lines_of (n - i) s ≡ before lf s ∷ lines_of (n - (i + 1)) (after lf s)
  unfolding lines_of
  one_line = let e : n - i ≡ suc (n - (i + 1)) = omega arith in rw e

  pub bad_line : entry_of (before lf s) ≡ None → bad_of (rows_of edition1 (i + 1) (lines_of (n - i) s)) ≡ Err (BadRow (i + 1))
  unfolding rows_of
  bad_line e = rw (one_line, bad_none (before lf s) e)

  pub good_line : (e : Row) → entry_of (before lf s) ≡ Some e
      → bad_of (rows_of edition1 (i + 1) (lines_of (n - i) s)) ≡ bad_of (rows_of edition1 (i + 1 + 1) (lines_of (n - (i + 1)) (after lf s)))
  unfolding rows_of
  good_line e q =
      let r = entry_some (before lf s) e q in
      rw (one_line, r.1.0) (bad-onto r.0 (rows_of edition1 (i + 1 + 1) (lines_of (n - (i + 1)) (after lf s))))

  pub written_line : (room : List ℕ)
      → written room i (lines_of (n - i) s)
      ≡ written (sets room (i * row_words) (text_words (entry_of (before lf s)))) (i + 1) (lines_of (n - (i + 1)) (after lf s))
  unfolding written
  written_line room = rw one_line

pub written_none : (room : List ℕ) (i : ℕ) → written room i [] ≡ room
unfolding written
written_none room i = refl

pub length_lines : (n : ℕ) (s : List ℕ) → length (lines_of n s) ≡ n
unfolding lines_of
length_lines zero s = refl
length_lines (suc n) s = ap suc (length_lines n (after lf s))

-- Lines are rows, one for each, or one is a bad row, whose number is that of the first line or above.
pub data Read (i : ℕ) (ls : List (List ℕ)) : Type 0 where
  good : (rs : List PolicyRow) → rows_of edition1 i ls ≡ all_rows rs → length rs ≡ length ls → Read i ls
  bad : (k : ℕ) → rows_of edition1 i ls ≡ bad_row k → i ≤ k → Read i ls

pub read : (i : ℕ) (ls : List (List ℕ)) → Read i ls
unfolding rows_of
read i [] = good [] refl refl
read i (l ∷ ls) = by (row_of edition1 l) refl (read (i + 1) ls)
  where
    by : (o : Option PolicyRow) → row_of edition1 l ≡ o → Read (i + 1) ls → Read i (l ∷ ls)
    by none e d = bad i (rw e) (omega arith)
    by (some r) e (good rs q n) = good (r ∷ rs) (rw (e, q)) (ap suc n)
    by (some r) e (bad k q n) = bad k (rw (e, q)) (omega arith)

-- Lines that are rows are written as the rows' words.
pub written_rows : (room : List ℕ) (i k : ℕ) (ls : List (List ℕ)) (rs : List PolicyRow) → rows_of edition1 k ls ≡ all_rows rs
    → written room i ls ≡ sets room (i * row_words) (words_of rs)
unfolding written words_of_all rows_of
written_rows room i k [] rs e = let q : rs ≡ [] = cc in rw q
written_rows room i k (l ∷ ls) rs e =
    by (row_of edition1 l) refl (read (k + 1) ls) (λ room' rs' p. written_rows room' (i + 1) (k + 1) ls rs' p)
  where
    by : (o : Option PolicyRow) → row_of edition1 l ≡ o → Read (k + 1) ls
        → ((room' : List ℕ) (rs' : List PolicyRow) → rows_of edition1 (k + 1) ls ≡ all_rows rs' → written room' (i + 1) ls ≡ sets room' ((i + 1) * row_words) (words_of rs'))
        → written room i (l ∷ ls) ≡ sets room (i * row_words) (words_of rs)
    by none q d rec = let f = rw q at e in let z : ◌≡◌ {A = ℕ} 0 1 = cc in absurd (omega arith)
    by (some r) q (bad j p n) rec = let f = rw (q, p) at e in let z : ◌≡◌ {A = ℕ} 0 1 = cc in absurd (omega arith)
    by (some r) q (good rs' p n) rec =
        let f = rw (q, p) at e in
        let g : rs ≡ r ∷ rs' = cc in
        let w = line-words l r q in
        let m : (i + 1) * row_words ≡ i * row_words + length (words_of_row r) = omega (arith, w.1) in
        rw (g, w.0) (rec (sets room (i * row_words) (words_of_row r)) rs' p ∙ rw m (sets_more room (i * row_words) (words_of_row r) (words_of rs')))

-- One line of the lines that are left, and none.
pub ruleset lines = (sub-zero, no_line, bad_line, good_line, written_line, written_none)
