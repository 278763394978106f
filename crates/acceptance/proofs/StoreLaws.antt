-- The laws of writing the words of a gateway to their places. Assumes nothing.
use Rattle.std.specs.Prelude.{ℕ, suc, ◌+◌, ◌*◌, ◌≤◌, ◌≡◌, List, [], ◌∷◌, ◌++◌, length, set, drop}
use Rattle.std.proofs.Common.{arith, ap, ◌∙◌, append-nil, length-append, length-drop, drop_of_length-le, take_all, take_at}
use Rattle.std.proofs.Math.Seq.{paste}
use Rattle.selectors.specs.declared.Direction.TheVariants.{In}
use Rattle.policy.specs.Words.{row_words}
use Rattle.spd.specs.Words.{spd_size, rows_at}
use Rattle.acceptance.specs.Spd.{held_words}

-- The address, the counts and both rooms, of k words, written to their places.
rooms-written : (k : ℕ) (ws : List ℕ) (address n m : ℕ) (a b : List ℕ) → length ws ≡ 3 + k + k → length a ≡ k → length b ≡ k
    → paste (paste (set (set (set ws 0 address) 1 n) 2 m) 3 a k) (3 + k) b k ≡ address ∷ n ∷ m ∷ (a ++ b)
rooms-written k [] address n m a b h p q = absurd (omega arith)
rooms-written k (x ∷ []) address n m a b h p q = absurd (omega arith)
rooms-written k (x ∷ y ∷ []) address n m a b h p q = absurd (omega arith)
rooms-written k (x ∷ y ∷ z ∷ rest) address n m a b h p q =
    let e : 3 + k ≡ suc (suc (suc k)) = omega arith in
    let front : List ℕ = address ∷ n ∷ m ∷ a in
    let tail : List ℕ = drop k rest in
    let first : paste (address ∷ n ∷ m ∷ rest) 3 a k ≡ front ++ tail = rw (e, take_all k a (omega arith)) in
    let size : length (front ++ tail) ≤ 3 + k + k = omega (arith, length-append front tail, length-drop k rest) in
    ap (λ (t : List ℕ). paste t (3 + k) b k) first
    ∙ rw (take_at front tail (3 + k) (omega arith), take_all k b (omega arith), drop_of_length-le (front ++ tail) {i = 3 + k + k} size)
    (append-nil (front ++ b))

pub held-written : (capacity : ℕ) (ws : List ℕ) (address n m : ℕ) (a b : List ℕ) → length ws ≡ spd_size capacity
    → length a ≡ capacity * row_words → length b ≡ capacity * row_words
    → paste (paste (set (set (set ws 0 address) 1 n) 2 m) 3 a (capacity * row_words)) (rows_at capacity In) b (capacity * row_words)
    ≡ held_words address n a m b
held-written capacity ws address n m a b h p q = rooms-written (capacity * row_words) ws address n m a b h p q
