-- Laws of two-word values. Assumes nothing.
use Rattle.std.specs.Prelude.{ℕ, suc, ◌+◌, ◌*◌, ◌^◌, ◌-◌, ◌<◌, ◌≤◌, min, ◌≡◌, false, ltb, eqb}
use Rattle.std.proofs.Common.{arith, mul-le-mul_right, suc-mul, sym, ◌∙◌, lt-ltb, le-ltb, eq-eqb, ne_eqb}
use Rattle.std.proofs.Math.Decide.{dec_lt, ℕ_discrete}
use Rattle.std.proofs.Math.Nat.{min-eq_left, min-eq_right}
use Rattle.std.specs.Ordering.{nat_cmp}
use Rattle.selectors.specs.Value.{number}
use Rattle.selectors.specs.declared.Value.{Value}

-- Two digits u and l of a base B: the upper ones decide the order, and the lower ones where the upper are the same.
module _ (B : ℕ) where
  pub upper_first : (u l u' l' : ℕ) → l < B → u < u' → u * B + l < u' * B + l'
  upper_first u l u' l' h g =
      let m : suc u * B ≤ u' * B = mul-le-mul_right B g in
      omega (arith, suc-mul u B)

  upper_same : (u l u' l' : ℕ) → l < B → l' < B → u * B + l ≡ u' * B + l' → u ≡ u'
  upper_same u l u' l' h h' e = by (dec_lt u u') (dec_lt u' u)
    where
      by : Dec (u < u') → Dec (u' < u) → u ≡ u'
      by (yes g) d = absurd (omega (arith, upper_first u l u' l' h g))
      by (no n) (yes g) = absurd (omega (arith, upper_first u' l' u l h' g))
      by (no n) (no n') = omega arith

-- Two tests agree if each fact gives the other.
ltb_alike : (a b c d : ℕ) → (a < b → c < d) → (c < d → a < b) → ltb a b ≡ ltb c d
ltb_alike a b c d f g = by (dec_lt a b) (dec_lt c d)
  where
    by : Dec (a < b) → Dec (c < d) → ltb a b ≡ ltb c d
    by (yes h) e = rw (lt-ltb a b h, lt-ltb c d (f h))
    by (no h) (yes e) = absurd (h (g e))
    by (no h) (no e) = rw (le-ltb a b (omega arith), le-ltb c d (omega arith))

eqb_alike : (a b c d : ℕ) → (a ≡ b → c ≡ d) → (c ≡ d → a ≡ b) → eqb a b ≡ eqb c d
eqb_alike a b c d f g = by (ℕ_discrete a b)
  where
    by : Dec (a ≡ b) → eqb a b ≡ eqb c d
    by (yes h) = rw (eq-eqb a b h, eq-eqb c d (f h))
    by (no h) = rw (ne_eqb a b h, ne_eqb c d (λ e. h (g e)))

-- Both words are words.
pub record Words (v : Value) : Type 0 where
  pub upper_fits : v.upper < 2 ^ 64
  pub lower_fits : v.lower < 2 ^ 64

-- A value whose upper word is 0 is its lower word.
pub number-lower : (v : Value) → v.upper ≡ 0 → number v ≡ v.lower
unfolding number
number-lower v e = rw e (omega arith)

pub number_bound : (v : Value) → Words v → number v < 2 ^ 128
unfolding number
number_bound v w = upper_first (2 ^ 64) v.upper v.lower (2 ^ 64) 0 w.lower_fits w.upper_fits

-- The order of two values: by the upper words, and by the lower ones where those are the same.
pub less-lower : (a b : Value) → a.upper ≡ b.upper → ltb a.lower b.lower ≡ ltb (number a) (number b)
unfolding number
less-lower a b e = ltb_alike a.lower b.lower (number a) (number b) (λ h. omega arith) (λ h. omega arith)

pub less_upper : (a b : Value) → Words a → Words b → (a.upper ≡ b.upper → ⊥)
    → ltb a.upper b.upper ≡ ltb (number a) (number b)
unfolding number
less_upper a b wa wb n =
    ltb_alike a.upper b.upper _ _
    (upper_first (2 ^ 64) a.upper a.lower b.upper b.lower wa.lower_fits)
    (λ h. by (dec_lt a.upper b.upper) (dec_lt b.upper a.upper) h)
  where
    by : Dec (a.upper < b.upper) → Dec (b.upper < a.upper) → number a < number b → a.upper < b.upper
    by (yes g) d h = g
    by (no g) (yes g') h = absurd (omega (arith, h, upper_first (2 ^ 64) b.upper b.lower a.upper a.lower wb.lower_fits g'))
    by (no g) (no g') h = absurd (n (omega arith))

pub same-lower : (a b : Value) → a.upper ≡ b.upper → eqb a.lower b.lower ≡ eqb (number a) (number b)
unfolding number
same-lower a b e = eqb_alike a.lower b.lower (number a) (number b) (λ h. omega arith) (λ h. omega arith)

pub same_upper : (a b : Value) → Words a → Words b → (a.upper ≡ b.upper → ⊥) → eqb (number a) (number b) ≡ false
unfolding number
same_upper a b wa wb n =
    ne_eqb (number a) (number b)
    (λ e. n (upper_same (2 ^ 64) a.upper a.lower b.upper b.lower wa.lower_fits wb.lower_fits e))

-- Two values are one number just where their words are the same.
pub number-words : (a b : Value) → Words a → Words b → number a ≡ number b → (a.upper ≡ b.upper) × (a.lower ≡ b.lower)
unfolding number
number-words a b wa wb e =
    let u : a.upper ≡ b.upper = upper_same (2 ^ 64) a.upper a.lower b.upper b.lower wa.lower_fits wb.lower_fits e in
    (u, omega (arith, rw u at e))

-- One more below a limit M, and none at the last number below it.
one_more : (M n m : ℕ) → n ≡ m + 1 → n < M → n ≡ min (m + 1) (M - 1)
one_more M n m e h = e ∙ sym (min-eq_left (omega arith))

no_more : (M m : ℕ) → m + 1 ≡ M → m ≡ min (m + 1) (M - 1)
no_more M m e =
    let l : M - 1 ≤ m + 1 = omega arith in
    let k : m ≡ M - 1 = omega arith in
    k ∙ sym (min-eq_right l)

-- One more: in the lower word, in the upper word, or no more.
pub next-lower : (v : Value) → Words v → v.lower < 2 ^ 64 - 1
    → number (record { upper = v.upper; lower = v.lower + 1 }) ≡ min (number v + 1) (2 ^ 128 - 1)
unfolding number
next-lower v w h =
    one_more (2 ^ 128) (v.upper * 2 ^ 64 + (v.lower + 1)) (number v) (omega arith)
    (upper_first (2 ^ 64) v.upper (v.lower + 1) (2 ^ 64) 0 (omega arith) w.upper_fits)

pub next_upper : (v : Value) → Words v → 2 ^ 64 - 1 ≤ v.lower → v.upper < 2 ^ 64 - 1
    → number (record { upper = v.upper + 1; lower = 0 }) ≡ min (number v + 1) (2 ^ 128 - 1)
unfolding number
next_upper v w h g =
    one_more (2 ^ 128) ((v.upper + 1) * 2 ^ 64 + 0) (number v) (omega arith)
    (upper_first (2 ^ 64) (v.upper + 1) 0 (2 ^ 64) 0 (omega arith) (omega arith))

pub next_last : (v : Value) → Words v → 2 ^ 64 - 1 ≤ v.lower → 2 ^ 64 - 1 ≤ v.upper → number v ≡ min (number v + 1) (2 ^ 128 - 1)
unfolding number
next_last v w h g =
    let u : v.upper ≡ 18446744073709551615 = omega arith in
    let l : v.lower ≡ 18446744073709551615 = omega arith in
    no_more (2 ^ 128) (number v) (rw (u, l))

-- One less: in the lower word, in the upper word, or no less.
pub previous-lower : (v : Value) → 0 < v.lower → number (record { upper = v.upper; lower = v.lower - 1 }) ≡ number v - 1
unfolding number
previous-lower v h = omega arith

pub previous_upper : (v : Value) → v.lower ≤ 0 → 0 < v.upper
    → number (record { upper = v.upper - 1; lower = 18446744073709551615 }) ≡ number v - 1
unfolding number
previous_upper v h g = omega arith

pub previous_first : (v : Value) → v.lower ≤ 0 → v.upper ≤ 0 → number v ≡ number v - 1
unfolding number
previous_first v h g = omega arith

-- The order of two values is that of their numbers: by the lower words where the upper ones are the same, else by the upper ones.
pub cmp-lower : (a b : Value) → a.upper ≡ b.upper → nat_cmp a.lower b.lower ≡ nat_cmp (number a) (number b)
cmp-lower a b e = rw (less-lower a b e, same-lower a b e)

pub cmp_upper : (a b : Value) → Words a → Words b → (a.upper ≡ b.upper → ⊥) → nat_cmp a.upper b.upper ≡ nat_cmp (number a) (number b)
cmp_upper a b wa wb n = rw (less_upper a b wa wb n, ne_eqb a.upper b.upper n, same_upper a b wa wb n)
