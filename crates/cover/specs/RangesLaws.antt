-- Laws of ranges and values as words: the ranges from a field on, the same words at another place, a value and a range that were written.
-- Assumes nothing.
use Rattle.std.specs.Prelude.{◌≡◌, ℕ, zero, suc, ◌+◌, ◌*◌, ◌/◌, ◌%◌, ◌^◌, ◌<◌, ◌≤◌, ◌⊎◌, List, ◌∷◌, ◌++◌, length, get_or, take, drop, slice_index, slice_index_or, slice_set}
use native.Mathlib.Omega.{arith}
use Rattle.std.proofs.Common.{zero-add, add-one, sym, ◌∙◌, inl, inr, ⊎_elim, get_or-take, get_or-drop}
use Rattle.std.proofs.Math.Path.{refl, ap}
use Rattle.std.proofs.Math.ListN.{length-set}
use Rattle.std.proofs.lemmas.List.Edits.{sets}
use Rattle.std.proofs.Math.Seq.{length-sets, get_or-set_same, get_or-set_other}
use Rattle.selectors.specs.Range.{range}
use Rattle.selectors.specs.Value.{number}
use Rattle.selectors.specs.Words.{value_words, range_words, value_at, ends_at, range_at, ranges_from, words_of_value, words_of_range}
use Rattle.selectors.proofs.WordsLaws.{range-put, value_written}

-- n ranges from the field f on: how many they are, in two parts, and the range of one field among them.
module _ (ws : List ℕ) (at : ℕ) where
  pub ranges-length : (f n : ℕ) → length (ranges_from ws at f n) ≡ n
  unfolding ranges_from
  ranges-length f zero = refl
  ranges-length f (suc n) = ap suc (ranges-length (f + 1) n)

  pub ranges_split : (f n m : ℕ) → ranges_from ws at f (n + m) ≡ ranges_from ws at f n ++ ranges_from ws at (f + n) m
  unfolding ranges_from
  ranges_split f zero m = let e : f + 0 ≡ f = omega arith in let z : 0 + m ≡ m = omega arith in rw (e, z)
  ranges_split f (suc n) m =
      let e : f + 1 + n ≡ f + suc n = omega arith in
      let z : suc n + m ≡ suc (n + m) = omega arith in
      ap (ranges_from ws at f) z ∙ ap (range_at ws (at + range_words * f) ∷◌) (ranges_split (f + 1) n m ∙ ap (λ (g : ℕ). ranges_from ws at (f + 1) n ++ ranges_from ws at g m) e)

  pub range-of : (f n k : ℕ) → k < n → slice_index_or (ranges_from ws at f n) k (range 0 0) ≡ range_at ws (at + range_words * (f + k))
  unfolding ranges_from
  range-of f zero k h = absurd (omega arith)
  range-of f (suc n) zero h = let e : f + 0 ≡ f = omega arith in rw e
  range-of f (suc n) (suc k) h = let e : f + suc k ≡ f + 1 + k = omega arith in rw e (range-of (f + 1) n k (omega arith))

-- A value is the same at two places whose words are the same.
pub value_moved : (ws ws' : List ℕ) (a b : ℕ) → slice_index ws' a ≡ slice_index ws b → slice_index ws' (a + 1) ≡ slice_index ws (b + 1) → value_at ws' a ≡ value_at ws b
unfolding value_at
value_moved ws ws' a b p q = rw (p, q)

-- So are ranges that begin at two places.
module _ (ws ws' : List ℕ) (at at' : ℕ) where
  -- The word k of those there is the word k of these here.
  abbrev pub SameWord : ℕ → Type 0
  SameWord k = slice_index ws' (at' + k) ≡ slice_index ws (at + k)

  word_moved : (k j j' : ℕ) → j ≡ at + k → j' ≡ at' + k → SameWord k → slice_index ws' j' ≡ slice_index ws j
  word_moved k j j' e e' s = rw (e, e') s

  end_moved : (k j j' : ℕ) → j ≡ at + k → j' ≡ at' + k → SameWord k → SameWord (k + 1) → value_at ws' j' ≡ value_at ws j
  end_moved k j j' e e' s t =
      value_moved ws ws' j' j (word_moved k j j' e e' s) (word_moved (k + 1) (j + 1) (j' + 1) (omega arith) (omega arith) t)

  pub range_moved : (f : ℕ) → ((k : ℕ) → range_words * f ≤ k → k < range_words * f + range_words → SameWord k)
      → range_at ws' (at' + range_words * f) ≡ range_at ws (at + range_words * f)
  range_moved f s =
      let low = end_moved (4 * f) (at + 4 * f) (at' + 4 * f) refl refl (s _ (omega arith) (omega arith)) (s _ (omega arith) (omega arith)) in
      let high = end_moved (4 * f + 2) (at + 4 * f + 2) (at' + 4 * f + 2) (omega arith) (omega arith) (s _ (omega arith) (omega arith)) (s _ (omega arith) (omega arith)) in
      rw (low, high)

  pub ranges_moved : (f n : ℕ) → ((k : ℕ) → range_words * f ≤ k → k < range_words * (f + n) → SameWord k) → ranges_from ws' at' f n ≡ ranges_from ws at f n
  unfolding ranges_from
  ranges_moved f zero s = refl
  ranges_moved f (suc n) s =
      rw (range_moved f (λ k p q. s k p (omega arith)), ranges_moved (f + 1) n (λ k p q. s k (omega arith) (omega arith)))

-- A range whose words are lent as a part of their own.
pub ends_lent : (ws : List ℕ) (at n : ℕ) → range_words ≤ n → ends_at (take n (drop at ws)) 0 ≡ ends_at ws at
ends_lent ws at n h =
    let same : (k : ℕ) → k < range_words → slice_index (take n (drop at ws)) (0 + k) ≡ get_or ws (at + k) 0 =
    λ k g. rw zero-add (get_or-take n (drop at ws) k 0 (omega arith) ∙ get_or-drop at ws k 0) in
    let low = end_moved ws (take n (drop at ws)) at 0 0 at 0 (omega arith) (omega arith) (same 0 (omega arith)) (same 1 (omega arith)) in
    let high = end_moved ws (take n (drop at ws)) at 0 2 (at + 2) 2 (omega arith) (omega arith) (same 2 (omega arith)) (same 3 (omega arith)) in
    rw (low, high)

-- Ranges whose words are lent as a part of their own.
pub ends_within : (ws : List ℕ) (at n k : ℕ) → k + range_words ≤ n → ends_at (take n (drop at ws)) k ≡ ends_at ws (at + k)
ends_within ws at n k h =
    let same : (j : ℕ) → j < range_words → slice_index (take n (drop at ws)) (k + j) ≡ get_or ws (at + k + j) 0 =
    λ j g. let e : at + (k + j) ≡ at + k + j = omega arith in get_or-take n (drop at ws) (k + j) 0 (omega arith) ∙ get_or-drop at ws (k + j) 0 ∙ ap (λ (i : ℕ). get_or ws i 0) e in
    let low = end_moved ws (take n (drop at ws)) (at + k) k 0 (at + k) k (omega arith) (omega arith) (same 0 (omega arith)) (same 1 (omega arith)) in
    let high = end_moved ws (take n (drop at ws)) (at + k) k 2 (at + k + 2) (k + 2) (omega arith) (omega arith) (same 2 (omega arith)) (same 3 (omega arith)) in
    rw (low, high)

-- A value that was written, and the other words and values.
module _ (ws : List ℕ) (at n : ℕ) where
  abbrev pub written : List ℕ
  written = sets ws at (words_of_value n)

  pub word_other : (j : ℕ) → (j < at) ⊎ (at + value_words ≤ j) → slice_index written j ≡ slice_index ws j
  unfolding words_of_value
  word_other j o =
      get_or-set_other (slice_set ws at (n / 2 ^ 64)) (suc at) j (n % 2 ^ 64) 0 (⊎_elim (λ p e. omega arith) (λ p e. omega arith) o)
      ∙ get_or-set_other ws at j (n / 2 ^ 64) 0 (⊎_elim (λ p e. omega arith) (λ p e. omega arith) o)

  pub value_own : at + value_words ≤ length ws → number (value_at written at) ≡ n
  unfolding value_at words_of_value
  value_own h =
      let u : get_or (slice_set (slice_set ws at (n / 2 ^ 64)) (suc at) (n % 2 ^ 64)) at 0 ≡ n / 2 ^ 64 =
      get_or-set_other (slice_set ws at (n / 2 ^ 64)) (suc at) at (n % 2 ^ 64) 0 (λ e. omega arith) ∙ get_or-set_same ws at (n / 2 ^ 64) 0 (omega arith) in
      let l : get_or (slice_set (slice_set ws at (n / 2 ^ 64)) (suc at) (n % 2 ^ 64)) (suc at) 0 ≡ n % 2 ^ 64 =
      get_or-set_same (slice_set ws at (n / 2 ^ 64)) (suc at) (n % 2 ^ 64) 0 (simp length-set (omega arith)) in
      rw (add-one, u, l) (value_written n)

  pub value_other : (j : ℕ) → (j + 1 < at) ⊎ (at + 1 < j) → value_at written j ≡ value_at ws j
  value_other j o =
      value_moved ws written j j
      (word_other j (⊎_elim (λ p. inl (omega arith)) (λ p. inr (omega arith)) o))
      (word_other (j + 1) (⊎_elim (λ p. inl (omega arith)) (λ p. inr (omega arith)) o))

-- A range that was written, and the other words.
module _ (ws : List ℕ) (at m n : ℕ) where
  abbrev pub written_range : List ℕ
  written_range = sets ws at (words_of_range (range m n))

  in_two : written_range ≡ written (written ws at m) (at + value_words) n
  in_two = sym (range-put ws at m n)

  pub range-words : (j : ℕ) → (j < at) ⊎ (at + range_words ≤ j) → slice_index written_range j ≡ slice_index ws j
  range-words j o =
      rw in_two
      (word_other (written ws at m) (at + 2) n j (⊎_elim (λ p. inl (omega arith)) (λ p. inr (omega arith)) o)
      ∙ word_other ws at m j (⊎_elim (λ p. inl p) (λ p. inr (omega arith)) o))

  pub low_own : at + range_words ≤ length ws → number (value_at written_range at) ≡ m
  low_own h = rw in_two (ap number (value_other (written ws at m) (at + 2) n at (inl (omega arith))) ∙ value_own ws at m (omega arith))

  pub high_own : at + range_words ≤ length ws → number (value_at written_range (at + value_words)) ≡ n
  high_own h = rw in_two (value_own (written ws at m) (at + 2) n (rw (length-sets ws at (words_of_value m)) (omega arith)))
