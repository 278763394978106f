-- Where a text made of parts is cut. A text is without a byte b where `count b` of it is 0. Assumes nothing.
use Prim.Native.Nat.{ℕ, suc, ◌+◌, ◌<◌}
use Rattle.std.proofs.Common.{arith, ap, le-ltb, lt-ltb, eq-eqb, eqb-true}
use Rattle.std.specs.Prelude.{◌≡◌, Bool, true, false, cond, ◌&&◌, eqb, length}
use Rattle.std.proofs.Math.Path.{refl}
use mathlib.Core.List.{List, [], ◌∷◌, ◌++◌}
use Rattle.std.proofs.Math.ListN.{length-append}
use Rattle.std.proofs.Math.Seq.{take-append_seam, drop-append-add}
use Rattle.policy_text.specs.Bytes.{index, has, before, after, count, are_same_bytes}

-- Of two texts together, a byte stands in the one or in the other.
pub count-append : (b : ℕ) (s t : List ℕ) → count b (s ++ t) ≡ count b s + count b t
unfolding count
count-append b [] t = omega arith
count-append b (x ∷ s) t = by (eqb x b) (count-append b s t)
  where
    by : (e : Bool) → count b (s ++ t) ≡ count b s + count b t
        → cond e (suc (count b (s ++ t))) (count b (s ++ t)) ≡ cond e (suc (count b s)) (count b s) + count b t
    by true ih = omega arith
    by false ih = ih

-- A text without b: its first byte is another, and the rest is without b.
count-cons : (b x : ℕ) (s : List ℕ) → count b (x ∷ s) ≡ 0 → (eqb x b ≡ false) × (count b s ≡ 0)
unfolding count
count-cons b x s h = by (eqb x b) h
  where
    by : (e : Bool) → cond e (suc (count b s)) (count b s) ≡ 0 → (e ≡ false) × (count b s ≡ 0)
    by true g = absurd (omega arith)
    by false g = (refl, g)

module _ (b : ℕ) where
  index_seam : (s t : List ℕ) → count b s ≡ 0 → index b (s ++ b ∷ t) ≡ length s
  unfolding index
  index_seam [] t h = rw (eq-eqb b b refl)
  index_seam (x ∷ s) t h = let p = count-cons b x s h in rw p.0 (ap suc (index_seam s t p.1))

  index_none : (s : List ℕ) → count b s ≡ 0 → index b s ≡ length s
  unfolding index
  index_none [] h = refl
  index_none (x ∷ s) h = let p = count-cons b x s h in rw p.0 (ap suc (index_none s p.1))

  -- A text without b has none.
  pub has_none : (s : List ℕ) → count b s ≡ 0 → has b s ≡ false
  unfolding has
  has_none s h = rw (index_none s h) (le-ltb (length s) (length s) (omega arith))

  -- A text without b, then b and another text: there is a b, the one stands before it and the other after it.
  module _ (s t : List ℕ) (h : count b s ≡ 0) where
    pub has_seam : has b (s ++ b ∷ t) ≡ true
    unfolding has
    has_seam = rw (index_seam s t h) (lt-ltb (length s) (length (s ++ b ∷ t)) (simp length-append (omega arith)))

    pub before_seam : before b (s ++ b ∷ t) ≡ s
    unfolding before
    before_seam = rw (index_seam s t h) (take-append_seam s (b ∷ t))

    pub after_seam : after b (s ++ b ∷ t) ≡ t
    unfolding after
    after_seam = rw (index_seam s t h) (drop-append-add s (b ∷ t) 1)

-- A text is no word with a byte that the text is without.
pub differ : (b : ℕ) (s t : List ℕ) → count b s ≡ 0 → 0 < count b t → are_same_bytes s t ≡ false
unfolding are_same_bytes count
differ b [] [] h g = absurd (omega arith)
differ b [] (y ∷ t) h g = refl
differ b (x ∷ s) [] h g = refl
differ b (x ∷ s) (y ∷ t) h g = let p = count-cons b x s h in by (eqb x y) refl p.0 (differ b s t p.1)
  where
    by : (e : Bool) → eqb x y ≡ e → eqb x b ≡ false → (0 < count b t → are_same_bytes s t ≡ false) → (e && are_same_bytes s t) ≡ false
    by false e n ih = refl
    by true e n ih = ih (rw (← eqb-true x y e, n) at g)
