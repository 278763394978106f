-- Laws of values and ranges as words: missing words, and words read from what was written. Assumes nothing.
use Prim.Native.Nat.{ℕ, zero, suc, ◌+◌, ◌-◌, ◌*◌, ◌/◌, ◌%◌, ◌^◌, ◌≤◌, ◌<◌}
use native.Mathlib.Omega.{arith}
use Rattle.std.proofs.Math.Decide.{dec_le}
use Rattle.std.proofs.Common.{div-add-mod', add-one, sym, ◌∙◌, drop-cons, drop-drop, length-set, length-append, le-leb}
use Rattle.std.specs.Prelude.{◌≡◌, leb, length, get_or, drop, set}
use Rattle.std.proofs.Math.Path.{refl, ap}
use mathlib.Core.List.{List, [], ◌∷◌, ◌++◌, append_assoc}
use Rattle.std.proofs.Math.Seq.{set_out, take-add}
use Rattle.std.proofs.lemmas.List.Edits.{sets}
use Rattle.std.proofs.Math.ListN.{take, get_or-eq_default}
use Rattle.std.proofs.lemmas.Bool.{lt-leb}
use Rattle.selectors.specs.Range.{contains}
use Rattle.selectors.specs.Ranges.{from_to, ends_range, five_ranges}
use Rattle.selectors.proofs.HeldLaws.{all_ranges}
use Rattle.selectors.proofs.StoresLaws.{sets_more}
use Rattle.selectors.specs.Value.{number, combination}
use Rattle.selectors.proofs.ValueLaws.{Words}
use Rattle.selectors.specs.Words.{field_count, ranges_words, value_at, ends_at, range_at, ranges_at, ranges_from, values_of, selectors_in, words_of_value, words_of_range, words_of_ranges, words_of_selectors}
use Rattle.selectors.specs.declared.ranges.Ends.{Ends}
use Rattle.selectors.specs.declared.Fields.{Fields}
use Rattle.selectors.specs.declared.Fields.{Fields}
use Rattle.selectors.specs.declared.Value.{Value}

-- Whether so many words are there, by what is left of them.
pub leb_moved : (a c n : ℕ) → c ≤ n → leb a (n - c) ≡ leb (a + c) n
leb_moved a c n h = by (dec_le (a + c) n)
  where
    by : Dec (a + c ≤ n) → leb a (n - c) ≡ leb (a + c) n
    by (yes g) = rw (le-leb a (n - c) (omega arith), le-leb (a + c) n g)
    by (no g) = rw (lt-leb a (n - c) (omega arith), lt-leb (a + c) n (omega arith))

-- Words that are not there.
pub value_short : (ws : List ℕ) (i : ℕ) → length ws < i + 2 → (v : Value) → v.upper ≡ get_or ws i 0 → v.lower ≡ 0 → v ≡ value_at ws i
unfolding value_at
value_short ws i h v p q = rw (get_or-eq_default ws 0 {n = i + 1} (omega arith)) (λ k. record { upper = p k; lower = q k })

pub value_missing : (ws : List ℕ) (i : ℕ) → length ws ≤ i → record { upper = 0; lower = 0 } ≡ value_at ws i
unfolding value_at
value_missing ws i h = rw (get_or-eq_default ws 0 {n = i} h, get_or-eq_default ws 0 {n = i + 1} (omega arith))

pub ends_missing : (ws : List ℕ) (i : ℕ) → length ws ≤ i → record { low = record { upper = 0; lower = 0 }; high = record { upper = 0; lower = 0 } } ≡ ends_at ws i
ends_missing ws i h = rw (← (value_missing ws i h), ← (value_missing ws (i + 2) (omega arith)))

-- The words of a value of two words are those words.
pub words-of-value : (v : Value) → Words v → words_of_value (number v) ≡ v.upper ∷ v.lower ∷ []
unfolding number words_of_value
words-of-value v w =
    let l : v.lower < 18446744073709551616 = w.lower_fits in
    let p : (v.upper * 18446744073709551616 + v.lower) / 18446744073709551616 ≡ v.upper = omega arith in
    let q : (v.upper * 18446744073709551616 + v.lower) % 18446744073709551616 ≡ v.lower = omega arith in
    rw (p, q)

-- Writing them, the second of the two where it has a place.
module _ (ws : List ℕ) (at : ℕ) (v : Value) (w : Words v) where
  pub value-put : set (set ws at v.upper) (at + 1) v.lower ≡ sets ws at (words_of_value (number v))
  value-put = rw (words-of-value v w, add-one)

  pub value-put_short : length ws ≤ at + 1 → set ws at v.upper ≡ sets ws at (words_of_value (number v))
  value-put_short h = sym (set_out (set ws at v.upper) (at + 1) v.lower (rw length-set h)) ∙ value-put

-- A range's words are those of its low end and then those of its high end.
pub range-put : (ws : List ℕ) (at m n : ℕ) → sets (sets ws at (words_of_value m)) (at + 2) (words_of_value n) ≡ sets ws at (words_of_value m ++ words_of_value n)
unfolding words_of_value
range-put ws at m n = sets_more ws at (words_of_value m) (words_of_value n)

-- Five ranges' words, run after run.
run_more : (ws : List ℕ) (at n : ℕ) (A B : List ℕ) → length A ≡ n → sets (sets ws at A) (at + n) B ≡ sets ws at (A ++ B)
run_more ws at n A B e = rw (← e) (sets_more ws at A B)

five-runs : (ws : List ℕ) (at : ℕ) (A B C D E : List ℕ) → length A ≡ 4 → length B ≡ 4 → length C ≡ 4 → length D ≡ 4
    → sets (sets (sets (sets (sets ws at A) (at + 4) B) (at + 8) C) (at + 12) D) (at + 16) E ≡ sets ws at (A ++ (B ++ (C ++ (D ++ E))))
five-runs ws at A B C D E a b c d =
    let l2 : length (A ++ B) ≡ 8 = omega (arith, length-append A B) in
    let l3 : length ((A ++ B) ++ C) ≡ 12 = omega (arith, length-append (A ++ B) C) in
    let l4 : length (((A ++ B) ++ C) ++ D) ≡ 16 = omega (arith, length-append ((A ++ B) ++ C) D) in
    let whole : (((A ++ B) ++ C) ++ D) ++ E ≡ A ++ (B ++ (C ++ (D ++ E))) = simp append_assoc in
    let e1 = run_more ws at 4 A B a in
    let e2 = run_more ws at 8 (A ++ B) C l2 in
    let e3 = run_more ws at 12 ((A ++ B) ++ C) D l3 in
    let e4 = run_more ws at 16 (((A ++ B) ++ C) ++ D) E l4 in
    ap (λ (l : List ℕ). sets (sets (sets l (at + 8) C) (at + 12) D) (at + 16) E) e1
    ∙ ap (λ (l : List ℕ). sets (sets l (at + 12) D) (at + 16) E) e2
    ∙ ap (λ (l : List ℕ). sets l (at + 16) E) e3
    ∙ e4
    ∙ ap (λ (l : List ℕ). sets ws at l) whole

pub ranges-put : (ws : List ℕ) (at : ℕ) (r : Fields Ends)
    → sets (sets (sets (sets (sets ws at (words_of_range (ends_range r.local))) (at + 4) (words_of_range (ends_range r.remote))) (at + 8) (words_of_range (ends_range r.protocol))) (at + 12) (words_of_range (ends_range r.local_port))) (at + 16) (words_of_range (ends_range r.remote_port))
    ≡ sets ws at (words_of_ranges (five_ranges r))
unfolding words_of_value
ranges-put ws at r =
    five-runs ws at (words_of_range (ends_range r.local)) (words_of_range (ends_range r.remote)) (words_of_range (ends_range r.protocol)) (words_of_range (ends_range r.local_port))
    (words_of_range (ends_range r.remote_port) ++ []) refl refl refl refl

pub ends_are : (e : Ends) (low high : Value) → e.low ≡ low → e.high ≡ high → e ≡ record { low = low; high = high }
ends_are e low high p q = λ k. record { low = p k; high = q k }

pub ranges_are : (r q : Fields Ends) → r.local ≡ q.local → r.remote ≡ q.remote → r.protocol ≡ q.protocol → r.local_port ≡ q.local_port
    → r.remote_port ≡ q.remote_port → r ≡ q
ranges_are r q l m p x y = λ k. record { local = l k; remote = m k; protocol = p k; local_port = x k; remote_port = y k }

-- A range by its ends.
pub ends_hold : (low high : Value) (ws : List ℕ) (i v : ℕ) → low ≡ value_at ws i → high ≡ value_at ws (i + 2) → contains (from_to low high) v ≡ contains (range_at ws i) v
ends_hold low high ws i v p q = rw (p, q)

-- What was written is read: a value, and five ranges.
pub value_written : (n : ℕ) → number (record { upper = n / 2 ^ 64; lower = n % 2 ^ 64 }) ≡ n
unfolding number
value_written n = div-add-mod' n (2 ^ 64)

-- The words of selectors are their values.
pub selector_values : (s : Fields Value) → values_of (words_of_selectors s) ≡ combination s
unfolding value_at words_of_selectors
selector_values s = refl

pub selectors_values : (ws : List ℕ) → combination (selectors_in ws) ≡ values_of ws
unfolding selectors_in
selectors_values ws = refl

-- Every number of a list is a word.
abbrev pub AllWords : List ℕ → Type 0
AllWords ws = (i : ℕ) → get_or ws i 0 < 2 ^ 64

-- Then the words of what stands there are those that stand there: of a value, of a range, and of n ranges from the field f on.
module _ (ws : List ℕ) (fit : AllWords ws) where
  value_exact : (i : ℕ) → words_of_value (number (value_at ws i)) ≡ get_or ws i 0 ∷ get_or ws (i + 1) 0 ∷ []
  unfolding value_at
  value_exact i = words-of-value (value_at ws i) (record { upper_fits = fit i; lower_fits = fit (i + 1) })

  four-words : (i : ℕ) → i + 4 ≤ length ws → take 4 (drop i ws) ≡ get_or ws i 0 ∷ get_or ws (i + 1) 0 ∷ get_or ws (i + 2) 0 ∷ get_or ws (i + 3) 0 ∷ []
  four-words i h =
      let e0 : suc i ≡ i + 1 = omega arith in
      let e1 : suc (i + 1) ≡ i + 2 = omega arith in
      let e2 : suc (i + 2) ≡ i + 3 = omega arith in
      let d0 : drop i ws ≡ get_or ws i 0 ∷ drop (i + 1) ws = rw e0 at (drop-cons ws i 0 (omega arith)) in
      let d1 : drop (i + 1) ws ≡ get_or ws (i + 1) 0 ∷ drop (i + 2) ws = rw e1 at (drop-cons ws (i + 1) 0 (omega arith)) in
      let d2 : drop (i + 2) ws ≡ get_or ws (i + 2) 0 ∷ drop (i + 3) ws = rw e2 at (drop-cons ws (i + 2) 0 (omega arith)) in
      let d3 = drop-cons ws (i + 3) 0 (omega arith) in
      ap (λ (l : List ℕ). take 4 l)
      (d0 ∙ ap (λ (l : List ℕ). get_or ws i 0 ∷ l) (d1 ∙ ap (λ (l : List ℕ). get_or ws (i + 1) 0 ∷ l) (d2 ∙ ap (λ (l : List ℕ). get_or ws (i + 2) 0 ∷ l) d3)))

  range_exact : (i : ℕ) → i + 4 ≤ length ws → words_of_range (range_at ws i) ≡ take 4 (drop i ws)
  range_exact i h =
      let e : i + 2 + 1 ≡ i + 3 = omega arith in
      rw (value_exact i, value_exact (i + 2), e, four-words i h)

  pub ranges_exact : (i f n : ℕ) → i + 4 * f + 4 * n ≤ length ws → words_of_ranges (ranges_from ws i f n) ≡ take (4 * n) (drop (i + 4 * f) ws)
  unfolding ranges_from
  ranges_exact i f zero h = refl
  ranges_exact i f (suc n) h =
      let k : 4 * suc n ≡ 4 + 4 * n = omega arith in
      let j : i + 4 * (f + 1) ≡ i + 4 * f + 4 = omega arith in
      let more : words_of_ranges (ranges_from ws i (f + 1) n) ≡ take (4 * n) (drop (i + 4 * f + 4) ws) = rw j at (ranges_exact i (f + 1) n (omega arith)) in
      ap (λ (l : List ℕ). l ++ words_of_ranges (ranges_from ws i (f + 1) n)) (range_exact (i + 4 * f) (omega arith))
      ∙ rw (more, k, take-add, drop-drop)

  pub five_exact : (i : ℕ) → i + ranges_words ≤ length ws → words_of_ranges (ranges_at ws i) ≡ take ranges_words (drop i ws)
  five_exact i h =
      let e : i + 4 * 0 ≡ i = omega arith in
      ap words_of_ranges (sym (all_ranges ws i)) ∙ ranges_exact i 0 field_count (omega arith) ∙ rw e
