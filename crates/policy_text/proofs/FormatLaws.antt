-- Laws of decimals: one step of a walk over their digits. Assumes nothing.
use Rattle.std.specs.Prelude.{ℕ, zero, suc, ◌+◌, ◌-◌, ◌*◌, ◌/◌, ◌^◌, ◌≤◌, ◌<◌, ◌≡◌, refl, Bool, true, false, cond, not, ◌&&◌, List, [], ◌∷◌, leb, eqb, length, get_or, drop, Some, None}
use Rattle.std.specs.Char.{is_ascii_digit}
use Rattle.std.proofs.Common.{pow-suc, mul-div_cancel, arith, lit<, add-one}
use Rattle.std.proofs.Math.Nat.{pow-le-pow_right}
use Rattle.std.proofs.Math.Decide.{ℕ_discrete}
use Rattle.std.proofs.Math.Bool.{and-false, or-true}
use borrow.Author.Tests.{le-leb, lt-leb, leb-true, eq-eqb, ne_eqb}
use Rattle.selectors.proofs.RangeLaws.{both_true}
use Rattle.policy_text.specs.Bytes.{dot, before, after}
use Rattle.policy_text.proofs.BytesLaws.{left_more, left_none}
use Rattle.policy_text.specs.Decimals.{Number, digits, value, unpadded, decimal}
use Rattle.policy_text.specs.Format.{AtMost}
use Rattle.policy_text.specs.Edition1.{four_octets, address, mask_below}

module _ (s : List ℕ) (i : ℕ) where
  pub digits-next : i < length s → digits (drop i s) ≡ (is_ascii_digit (get_or s i 0) && digits (drop (i + 1) s))
  unfolding digits
  digits-next h = rw (left_more s i h)

  pub digits_below : i < length s → get_or s i 0 < 48 → digits (drop i s) ≡ false
  unfolding digits
  digits_below h l = rw (left_more s i h, lt-leb 48 (get_or s i 0) l)

  pub digits_above : i < length s → 57 < get_or s i 0 → digits (drop i s) ≡ false
  unfolding digits
  digits_above h u = rw (left_more s i h, lt-leb (get_or s i 0) 57 u, and-false)

  pub digits_ended : length s ≤ i → digits (drop i s) ≡ true
  unfolding digits
  digits_ended h = rw (left_none s i h)

  pub value-next : (n : ℕ) → i < length s → value n (drop i s) ≡ value (n * 10 + (get_or s i 0 - 48)) (drop (i + 1) s)
  unfolding value
  value-next n h = rw (left_more s i h)

  pub value_ended : (n : ℕ) → length s ≤ i → value n (drop i s) ≡ n
  unfolding value
  value_ended n h = rw (left_none s i h)

-- More digits make no less.
pub value_grows : (n : ℕ) (s : List ℕ) → n ≤ value n s
unfolding value
value_grows n [] = omega arith
value_grows n (c ∷ s) = omega (arith, value_grows (n * 10 + (c - 48)) s)

-- A text is no decimal up to max if it is padded or empty, if some byte is no digit, or if it is above max; else it is its value.
module _ (max : ℕ) (s : List ℕ) where
  pub decimal-padded : unpadded s ≡ false → decimal max s ≡ None
  unfolding decimal
  decimal-padded e = rw e

  pub decimal_other : digits s ≡ false → decimal max s ≡ None
  unfolding decimal
  decimal_other e = rw (e, and-false)

  pub decimal_above : max < value 0 s → decimal max s ≡ None
  unfolding decimal
  decimal_above h = rw (lt-leb (value 0 s) max h, and-false)

  pub decimal_is : unpadded s ≡ true → digits s ≡ true → value 0 s ≤ max → decimal max s ≡ Some (value 0 s)
  unfolding decimal
  decimal_is u d h = rw (u, d, le-leb (value 0 s) max h)

-- One step of reading a decimal, and what it comes to.
pub ruleset decimals = (digits-next, digits_ended, value-next, value_ended, value_grows, decimal-padded, decimal_other, decimal_above, decimal_is)

-- Padding, by the length.
pub unpadded_empty : (s : List ℕ) → length s ≡ 0 → unpadded s ≡ false
unfolding unpadded
unpadded_empty [] e = refl
unpadded_empty (c ∷ s) e = absurd (omega arith)

pub unpadded_one : (s : List ℕ) → length s ≡ 1 → unpadded s ≡ true
unfolding unpadded
unpadded_one [] e = absurd (omega arith)
unpadded_one (c ∷ []) e = refl
unpadded_one (c ∷ d ∷ s) e = absurd (omega arith)

pub unpadded_more : (s : List ℕ) → 1 < length s → unpadded s ≡ not (eqb (get_or s 0 0) 48)
unfolding unpadded
unpadded_more [] h = absurd (omega arith)
unpadded_more (c ∷ []) h = absurd (omega arith)
unpadded_more (c ∷ d ∷ s) h = refl

-- Masks, by the count of zeros: z - 1 of them, or fewer.
pub power_half : (z : ℕ) → 0 < z → 2 ^ z / 2 ≡ 2 ^ (z - 1)
power_half zero h = absurd (omega arith)
power_half (suc k) h =
    let e : suc k - 1 ≡ k = omega arith in
    rw (pow-suc 2 k, e) (mul-div_cancel (2 ^ k) (lit< tt))

pub power_fits : (z : ℕ) → z ≤ 33 → 2 ^ (z - 1) ≤ 4294967296
power_fits z h = pow-le-pow_right (lit< tt) {i = z - 1} {j = 32} (omega arith)

pub mask_next : (m z : ℕ) → 0 < z → (m ≡ 2 ^ 32 - 2 ^ (z - 1) → ⊥) → mask_below z m ≡ mask_below (z - 1) m
unfolding mask_below
mask_next m zero h n = absurd (omega arith)
mask_next m (suc k) h n =
    let p : suc k - 1 ≡ k = omega arith in
    rw (p, ne_eqb m (2 ^ 32 - 2 ^ k) (rw p at n))

pub mask_none : (m z : ℕ) → z ≤ 0 → mask_below z m ≡ false
unfolding mask_below
mask_none m z h = let e : z ≡ zero = omega arith in rw e

-- A mask with k zeros is one of those with fewer than z, and there is none where none has k, and none fewer.
pub mask-found : (m k z : ℕ) → k < z → m ≡ 2 ^ 32 - 2 ^ k → mask_below z m ≡ true
unfolding mask_below
mask-found m k zero h e = absurd (omega arith)
mask-found m k (suc z) h e = by (ℕ_discrete k z) (λ (n : k < z). mask-found m k z n e)
  where
    by : Dec (k ≡ z) → (k < z → mask_below z m ≡ true) → mask_below (suc z) m ≡ true
    by (yes q) rest = rw (eq-eqb m (2 ^ 32 - 2 ^ z) (rw q at e))
    by (no n) rest = rw (rest (omega arith), or-true)

pub mask_missed : (m k : ℕ) → (m ≡ 2 ^ 32 - 2 ^ k → ⊥) → mask_below k m ≡ false → mask_below (k + 1) m ≡ false
unfolding mask_below
mask_missed m k n e = rw (add-one, ne_eqb m (2 ^ 32 - 2 ^ k) n) e

at_most_if : (max : ℕ) (t : Bool) (n : ℕ) → (t ≡ true → n ≤ max) → AtMost max (cond t (Some n) None)
at_most_if max true n f = f refl
at_most_if max false n f = tt

pub decimal_at_most : (max : ℕ) (s : List ℕ) → AtMost max (decimal max s)
unfolding decimal
decimal_at_most max s =
    at_most_if max (unpadded s && digits s && leb (value 0 s) max) (value 0 s)
    (λ e. leb-true (value 0 s) max (both_true (unpadded s && digits s) (leb (value 0 s) max) e).1)

pub decimal_bound : (max n : ℕ) (s : List ℕ) → decimal max s ≡ Some n → n ≤ max
decimal_bound max n s e = rw e at (decimal_at_most max s)

four_at_most : (a b c d : Number) → AtMost 255 a → AtMost 255 b → AtMost 255 c → AtMost 255 d → AtMost 4294967295 (four_octets a b c d)
four_at_most None b c d p q r s = tt
four_at_most (Some k) None c d p q r s = tt
four_at_most (Some k) (Some l) None d p q r s = tt
four_at_most (Some k) (Some l) (Some m) None p q r s = tt
four_at_most (Some k) (Some l) (Some m) (Some n) p q r s = omega arith

pub address_at_most : (s : List ℕ) → AtMost 4294967295 (address s)
unfolding address
address_at_most s =
    let s₁ = after dot s in
    let s₂ = after dot s₁ in
    four_at_most (decimal 255 (before dot s)) (decimal 255 (before dot s₁)) (decimal 255 (before dot s₂)) (decimal 255 (after dot s₂))
    (decimal_at_most 255 (before dot s)) (decimal_at_most 255 (before dot s₁)) (decimal_at_most 255 (before dot s₂)) (decimal_at_most 255 (after dot s₂))
