-- Decimals and addresses, printed and read. Assumes nothing.
use Rattle.std.specs.Prelude.{ℕ, zero, suc, ◌+◌, ◌*◌, ◌/◌, ◌%◌, ◌^◌, ◌≤◌, ◌<◌, ◌≡◌, refl, Bool, true, false, cond, ◌&&◌, List, [], ◌∷◌, ◌++◌, leb, eqb, length, Some}
use Rattle.std.proofs.Common.{arith, pow-suc, ap, ◌∙◌, true≢false, append_assoc, append-nil, le-leb, lt-ltb, le-ltb, ne_eqb, eqb-true}
use Rattle.std.proofs.Math.Decide.{dec_lt}
use Rattle.selectors.proofs.RangeLaws.{both_true}
use Rattle.policy_text.specs.Bytes.{dot, count, are_same_bytes}
use Rattle.policy_text.specs.Decimals.{digits, value, unpadded, decimal, last_digits, decimal_text}
use Rattle.policy_text.specs.Edition1.{address, lower, dotted, address_text}
use Rattle.policy_text.proofs.FormatLaws.{decimal_is}
use Rattle.policy_text.proofs.PrintLaws.{decimal-length, dotted-length}
use Rattle.policy_round_trip.proofs.CutsLaws.{count-append, differ, before_seam, after_seam}

-- A byte from 48 to 57.
abbrev pub is_digit : ℕ → Bool
is_digit b = leb 48 b && leb b 57

tenth : (k n : ℕ) → n < 10 ^ suc k → n / 10 < 10 ^ k
tenth k n h = omega (arith, pow-suc 10 k)

-- What the digits of a number do before other bytes.
record Digits (k n : ℕ) (s t : List ℕ) : Type 0 where
  all_digits : digits (s ++ t) ≡ digits t
  its-value : n < 10 ^ k → value 0 (s ++ t) ≡ value n t
  no_padding : n < 10 ^ k → 0 < n → unpadded (s ++ t) ≡ true

unpadded_first : (c : ℕ) (t : List ℕ) → (c ≡ 48 → ⊥) → unpadded (c ∷ t) ≡ true
unfolding unpadded
unpadded_first c [] h = refl
unpadded_first c (d ∷ t) h = rw (ne_eqb c 48 h)

digits_of : (k n : ℕ) (t : List ℕ) → Digits k n (last_digits k n) t
unfolding last_digits digits value
digits_of zero n t =
    record { all_digits = refl; its-value = λ h. let e : n ≡ 0 = omega arith in rw e; no_padding = λ h p. absurd (omega arith) }
digits_of (suc k) n t = by (dec_lt n 10) (digits_of k (n / 10) ((48 + n % 10) ∷ t))
  where
    digit : (d : ℕ) → d < 10 → digits ((48 + d) ∷ t) ≡ digits t
    digit d h = rw (le-leb 48 (48 + d) (omega arith), le-leb (48 + d) 57 (omega arith))

    step : (m d : ℕ) → m * 10 + d ≡ n → value m ((48 + d) ∷ t) ≡ value n t
    step m d h = ap (λ (x : ℕ). value x t) (omega arith)

    by : Dec (n < 10) → Digits k (n / 10) (last_digits k (n / 10)) ((48 + n % 10) ∷ t) → Digits (suc k) n (last_digits (suc k) n) t
    by (yes l) ih =
        rw (lt-ltb n 10 l)
        record {
          all_digits = digit n l;
          its-value = λ h. step 0 n (omega arith);
          no_padding = λ h p. unpadded_first (48 + n) t (omega arith);
        }
    by (no l) ih =
        rw (le-ltb n 10 (omega arith))
        record {
          all_digits = rw append_assoc (ih.all_digits ∙ digit (n % 10) (omega arith));
          its-value = λ h. rw append_assoc (ih.its-value (tenth k n h) ∙ step (n / 10) (n % 10) (omega arith));
          no_padding = λ h p. rw append_assoc (ih.no_padding (tenth k n h) (omega arith));
        }

-- The text of a decimal holds only digits: each byte from 48 to 57.
pub decimal-digits : (n : ℕ) → digits (decimal_text n) ≡ true
unfolding decimal_text digits
decimal-digits n = rw append-nil at (digits_of 20 n []).all_digits

decimal-unpadded : (n : ℕ) → n < 2 ^ 64 → unpadded (decimal_text n) ≡ true
unfolding decimal_text last_digits unpadded
decimal-unpadded zero h = refl
decimal-unpadded (suc n) h = rw append-nil at ((digits_of 20 (suc n) []).no_padding (omega arith) (omega arith))

-- The text of a number up to max is read as that number.
pub decimal_back : (max n : ℕ) → n ≤ max → max < 2 ^ 64 → decimal max (decimal_text n) ≡ Some n
unfolding decimal_text value
decimal_back max n h l =
    let e : value 0 (decimal_text n) ≡ n = rw append-nil at ((digits_of 20 n []).its-value (omega arith)) in
    decimal_is max (decimal_text n) (decimal-unpadded n (omega arith)) (decimal-digits n) (omega arith) ∙ ap Some e

digits-without : (b : ℕ) (s : List ℕ) → is_digit b ≡ false → digits s ≡ true → count b s ≡ 0
unfolding digits count
digits-without b [] n h = refl
digits-without b (c ∷ s) n h =
    let p = both_true (is_digit c) (digits s) h in by (eqb c b) refl p.0 (digits-without b s n p.1)
  where
    by : (e : Bool) → eqb c b ≡ e → is_digit c ≡ true → count b s ≡ 0 → cond e (suc (count b s)) (count b s) ≡ 0
    by false e d ih = ih
    by true e d ih = let z : true ≡ false = cc (eqb-true c b e) in absurd (true≢false z)

-- A byte that is no digit stands in no decimal.
pub decimal-without : (b n : ℕ) → is_digit b ≡ false → count b (decimal_text n) ≡ 0
decimal-without b n h = digits-without b (decimal_text n) h (decimal-digits n)

-- A decimal is no word with a byte other than a digit: neither `any` nor `opaque`.
pub decimal_no_word : (b n : ℕ) (t : List ℕ) → is_digit b ≡ false → 0 < count b t → are_same_bytes (decimal_text n) t ≡ false
decimal_no_word b n t h l = differ b (decimal_text n) t (decimal-without b n h) l

octets_back : (a b c d : ℕ) → a ≤ 255 → b ≤ 255 → c ≤ 255 → d ≤ 255
    → address (decimal_text a ++ (dot ∷ (decimal_text b ++ (dot ∷ (decimal_text c ++ (dot ∷ decimal_text d))))))
    ≡ Some (((a * 256 + b) * 256 + c) * 256 + d)
unfolding address
octets_back a b c d p q r s =
    let w : (n : ℕ) → count dot (decimal_text n) ≡ 0 = λ n. decimal-without dot n refl in
    let o : (n : ℕ) → n ≤ 255 → decimal 255 (decimal_text n) ≡ Some n = λ n h. decimal_back 255 n h (omega arith) in
    rw (
      after_seam dot (decimal_text a) _ (w a),
      after_seam dot (decimal_text b) _ (w b),
      after_seam dot (decimal_text c) _ (w c),
      before_seam dot (decimal_text a) _ (w a),
      before_seam dot (decimal_text b) _ (w b),
      before_seam dot (decimal_text c) _ (w c),
      o a p,
      o b q,
      o c r,
      o d s,
    )

-- The text of an address is read as that address.
pub address_back : (n : ℕ) → n < 2 ^ 32 → address (address_text n) ≡ Some n
unfolding address_text dotted
address_back n h =
    let e : lower n ≡ n = omega arith in
    rw e
    (octets_back (n / 16777216) (n / 65536 % 256) (n / 256 % 256) (n % 256) (omega arith) (omega arith) (omega arith) (omega arith)
    ∙ ap Some (omega arith))

-- The bytes of an address are digits and dots.
pub address-without : (b n : ℕ) → is_digit b ≡ false → eqb dot b ≡ false → count b (address_text n) ≡ 0
unfolding address_text dotted count
address-without b n h d = simp (count-append, d, decimal-without)

-- It is at most 15 bytes.
pub address-length : (n : ℕ) → n < 2 ^ 32 → length (address_text n) ≤ 15
unfolding address_text
address-length n h = dotted-length 3 (lower n) (decimal-length 2 (lower n / 16777216) (omega arith))
