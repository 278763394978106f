-- Rows of two lists of words. Assumes nothing.
use Rattle.std.specs.Prelude.{ℕ, zero, suc, ◌+◌, ◌*◌, ◌/◌, ◌<◌, ◌≤◌, ◌≡◌, refl, List, ◌∷◌, length, take}
use Rattle.std.proofs.Common.{arith, ap, lit<, length-take, get_or-take}
use Rattle.std.proofs.Math.Nat.{add-zero, add_assoc}
use Rattle.std.proofs.Math.ListN.{get_or}
use Rattle.selectors.specs.Words.{value_at}
use Rattle.policy.specs.Words.{row_at, rows_from, row_words, policy_rows}

-- A row is what its words are.
module _ (ws ws' : List ℕ) (at at' : ℕ) (same : (k : ℕ) → k < row_words → get_or ws (at + k) 0 ≡ get_or ws' (at' + k) 0) where
  value_same : (k : ℕ) → k + 1 < row_words → value_at ws (at + k) ≡ value_at ws' (at' + k)
  unfolding value_at
  value_same k h = rw (add_assoc, same k (omega arith), same (k + 1) h, add_assoc)

  pub row_same : row_at ws at ≡ row_at ws' at'
  unfolding row_at
  row_same =
      let first : get_or ws at 0 ≡ get_or ws' at' 0 = simp add-zero at (same 0 (lit< tt)) in
      simp add_assoc
      (rw (
        first,
        same 1 (lit< tt),
        value_same 2 (lit< tt),
        value_same 4 (lit< tt),
        value_same 6 (lit< tt),
        value_same 8 (lit< tt),
        value_same 10 (lit< tt),
        value_same 12 (lit< tt),
        value_same 14 (lit< tt),
        value_same 16 (lit< tt),
        value_same 18 (lit< tt),
        value_same 20 (lit< tt),
      ))

-- Rows of two lists of words, one by one the same.
pub rows_same : (ws ws' : List ℕ) (i n : ℕ) → ((k : ℕ) → i ≤ k → k < i + n → row_at ws (k * row_words) ≡ row_at ws' (k * row_words)) → rows_from ws i n ≡ rows_from ws' i n
unfolding rows_from
rows_same ws ws' i zero same = refl
rows_same ws ws' i (suc n) same =
    rw (same i (omega arith) (omega arith)) (ap (◌∷◌ (row_at ws' (i * row_words))) (rows_same ws ws' (suc i) n (λ k p q. same k (omega arith) (omega arith))))

-- The rows of the first words.
pub front_rows : (ws : List ℕ) (n : ℕ) → n * row_words ≤ length ws → policy_rows (take (n * row_words) ws) ≡ rows_from ws 0 n
front_rows ws n h =
    let e : length (take (n * row_words) ws) / row_words ≡ n = simp length-take (omega arith) in
    rw e
    (rows_same (take (n * row_words) ws) ws 0 n
    (λ k p q. row_same (take (n * row_words) ws) ws (k * row_words) (k * row_words) (λ x l. get_or-take (n * row_words) ws (k * row_words + x) 0 (omega arith))))
