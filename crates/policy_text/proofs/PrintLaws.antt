-- Laws of printed texts: how long they are. Assumes nothing.
use Rattle.std.specs.Prelude.{ℕ, zero, suc, ◌+◌, ◌/◌, ◌%◌, ◌^◌, ◌≤◌, ◌<◌, ◌≡◌, refl, Bool, true, false, List, [], ◌∷◌, eqb, length}
use Rattle.std.proofs.Common.{arith, pow-suc, length-append, lt-ltb, le-ltb}
use Rattle.std.proofs.Math.Decide.{dec_lt}
use Rattle.selectors.specs.Range.{Range, full, same_range, absent, address_size, protocol_size, port_size}
use Rattle.policy.specs.declared.Action.{Action}
use Rattle.policy.specs.declared.Action.TheVariants.{Discard, Bypass, Protect}
use Rattle.policy_text.specs.Bytes.{dash}
use Rattle.policy_text.specs.Decimals.{last_digits, decimal_text}
use Rattle.policy_text.specs.Edition1.{edition1, lower, dotted, address_text, protocol_text, port_text, action_text}
use Rattle.policy_text.specs.Print.{range_text, ranges_text}

-- A decimal has at most the digits that it may have, and a number below 10^(j+1) at most j + 1.
pub digits_most : (k n : ℕ) → length (last_digits k n) ≤ k
unfolding last_digits
digits_most zero n = omega arith
digits_most (suc k) n = by (dec_lt n 10) (digits_most k (n / 10))
  where
    by : Dec (n < 10) → length (last_digits k (n / 10)) ≤ k → length (last_digits (suc k) n) ≤ suc k
    by (yes h) l = rw (lt-ltb n 10 h) (omega arith)
    by (no h) l = rw (le-ltb n 10 (omega arith)) (omega (arith, length-append (last_digits k (n / 10)) ((48 + n % 10) ∷ []), l))

pub digits-length : (j k n : ℕ) → n < 10 ^ suc j → length (last_digits k n) ≤ suc j
unfolding last_digits
digits-length j zero n h = omega arith
digits-length zero (suc k) n h = rw (lt-ltb n 10 h) (omega arith)
digits-length (suc j) (suc k) n h = by (dec_lt n 10) (digits-length j k (n / 10) (omega (arith, rw (pow-suc 10 (suc j)) at h)))
  where
    by : Dec (n < 10) → length (last_digits k (n / 10)) ≤ suc j → length (last_digits (suc k) n) ≤ suc (suc j)
    by (yes g) l = rw (lt-ltb n 10 g) (omega arith)
    by (no g) l = rw (le-ltb n 10 (omega arith)) (omega (arith, length-append (last_digits k (n / 10)) ((48 + n % 10) ∷ []), l))

pub decimal_most : (n : ℕ) → length (decimal_text n) ≤ 20
unfolding decimal_text
decimal_most n = digits_most 20 n

pub decimal-length : (j n : ℕ) → n < 10 ^ suc j → length (decimal_text n) ≤ suc j
unfolding decimal_text
decimal-length j n h = digits-length j 20 n h

-- An address with a first part of at most M digits.
pub dotted-length : (M n : ℕ) → length (decimal_text (n / 16777216)) ≤ M → length (dotted n) ≤ M + 12
unfolding dotted
dotted-length M n h =
    simp length-append
    (omega (
      arith,
      decimal-length 2 (n / 65536 % 256) (omega arith),
      decimal-length 2 (n / 256 % 256) (omega arith),
      decimal-length 2 (n % 256) (omega arith),
    ))

-- A range whose ends have at most M bytes.
pub range_length : (M size : ℕ) (text : ℕ → List ℕ) (r : Range) → 1 ≤ M → length (text r.low) ≤ M → length (text r.high) ≤ M
    → length (range_text size text r) ≤ M + M + 1
unfolding range_text
range_length M size text r o l h = by (same_range r (full size)) refl (eqb r.low r.high) refl
  where
    by : (a : Bool) → same_range r (full size) ≡ a → (s : Bool) → eqb r.low r.high ≡ s → length (range_text size text r) ≤ M + M + 1
    by true a s e = rw a (omega arith)
    by false a true e = rw (a, e) (omega arith)
    by false a false e = rw (a, e) (omega (arith, length-append (text r.low) (dash ∷ text r.high)))

-- Five ranges of at most A, A, P, Q and Q bytes.
pub ranges-length : (A P Q : ℕ) (l r p x y : Range) → length (range_text address_size address_text l) ≤ A → length (range_text address_size address_text r) ≤ A
    → length (range_text protocol_size protocol_text p) ≤ P → length (range_text port_size port_text x) ≤ Q → length (range_text port_size port_text y) ≤ Q
    → length (ranges_text edition1 (l ∷ r ∷ p ∷ x ∷ y ∷ [])) ≤ A + A + P + Q + Q + 5
ranges-length A P Q l r p x y a b c d e = simp length-append (omega arith)

-- Whatever numbers a row has, its texts are short.
pub port_most : (n : ℕ) → length (port_text n) ≤ 20
unfolding port_text
port_most n = by (eqb n absent) refl
  where
    by : (b : Bool) → eqb n absent ≡ b → length (port_text n) ≤ 20
    by true e = rw e (omega arith)
    by false e = rw e (decimal_most (lower n))

pub action_most : (a : Action) → length (action_text a) ≤ 28
unfolding action_text
action_most Discard = omega arith
action_most Bypass = omega arith
action_most (Protect n) = omega (arith, decimal_most n)

pub ranges_most : (l r p x y : Range) → length (ranges_text edition1 (l ∷ r ∷ p ∷ x ∷ y ∷ [])) ≤ 258
unfolding address_text protocol_text
ranges_most l r p x y =
    ranges-length 65 41 41 l r p x y (address l) (address r)
    (range_length 20 protocol_size protocol_text p (omega arith) (decimal_most (lower p.low)) (decimal_most (lower p.high)))
    (range_length 20 port_size port_text x (omega arith) (port_most x.low) (port_most x.high))
    (range_length 20 port_size port_text y (omega arith) (port_most y.low) (port_most y.high))
  where
    dots : (n : ℕ) → length (address_text n) ≤ 32
    dots n = dotted-length 20 (lower n) (decimal_most (lower n / 16777216))

    address : (q : Range) → length (range_text address_size address_text q) ≤ 65
    address q = range_length 32 address_size address_text q (omega arith) (dots q.low) (dots q.high)
