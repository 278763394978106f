-- Ranges as words that hold values as words, field by field. Assumes nothing.
use Prim.Native.Nat.{ℕ, zero, suc, ◌+◌, ◌-◌, ◌*◌, ◌≤◌, ◌<◌}
use native.Mathlib.Omega.{arith}
use Rattle.std.specs.Prelude.{◌≡◌, refl, true, false, ◌&&◌, List, ◌∷◌, leb, length}
use Rattle.std.proofs.Common.{ap, ◌∙◌}
use Rattle.std.proofs.Math.Bool.{and-false}
use borrow.Author.Tests.{le-leb, lt-leb}
use Rattle.selectors.specs.Range.{contains, holds}
use Rattle.selectors.specs.Value.{number}
use Rattle.selectors.specs.Words.{field_count, range_words, ranges_words, value_at, range_at, ranges_at, ranges_from, value_of, values_from, values_of, held_at}
use Rattle.selectors.specs.declared.Value.{Value}

-- The fields from f to n, without n: the first of them and the rest, or none.
pub ranges-next : (ws : List ℕ) (i f n : ℕ) → f < n → ranges_from ws i f (n - f) ≡ range_at ws (i + 4 * f) ∷ ranges_from ws i (f + 1) (n - (f + 1))
unfolding ranges_from
ranges-next ws i f n h = let e : n - f ≡ suc (n - (f + 1)) = omega arith in ap (ranges_from ws i f) e

pub values-next : (vs : List ℕ) (f n : ℕ) → f < n → values_from vs f (n - f) ≡ value_of vs f ∷ values_from vs (f + 1) (n - (f + 1))
unfolding values_from
values-next vs f n h = let e : n - f ≡ suc (n - (f + 1)) = omega arith in ap (values_from vs f) e

module _ (ws vs : List ℕ) (i f n : ℕ) where
  holds-next : f < n
      → holds (ranges_from ws i f (n - f)) (values_from vs f (n - f))
      ≡ (contains (range_at ws (i + 4 * f)) (value_of vs f) && holds (ranges_from ws i (f + 1) (n - (f + 1))) (values_from vs (f + 1) (n - (f + 1))))
  unfolding holds
  holds-next h = rw (ranges-next ws i f n h, values-next vs f n h)

  pub holds_go : f < n → (v : Value) → v ≡ value_at vs (2 * f) → contains (range_at ws (i + 4 * f)) (number v) ≡ true
      → holds (ranges_from ws i f (n - f)) (values_from vs f (n - f)) ≡ holds (ranges_from ws i (f + 1) (n - (f + 1))) (values_from vs (f + 1) (n - (f + 1)))
  holds_go h v e t = holds-next h ∙ rw (rw e at t)

  pub holds_stop : f < n → (v : Value) → v ≡ value_at vs (2 * f) → contains (range_at ws (i + 4 * f)) (number v) ≡ false
      → holds (ranges_from ws i f (n - f)) (values_from vs f (n - f)) ≡ false
  holds_stop h v e t = holds-next h ∙ rw (rw e at t)

  pub holds_ended : n ≤ f → holds (ranges_from ws i f (n - f)) (values_from vs f (n - f)) ≡ true
  unfolding holds ranges_from values_from
  holds_ended h = let e : n - f ≡ zero = omega arith in rw e

-- The test of the first n fields: there are no more than five, their ranges are there, and they hold the values.
module _ (ws : List ℕ) (i : ℕ) (vs : List ℕ) (n : ℕ) where
  pub held_beyond : field_count < n → held_at ws i vs n ≡ false
  unfolding held_at
  held_beyond h = rw (lt-leb n field_count h)

  pub held_missing : length ws < i + range_words * n → held_at ws i vs n ≡ false
  unfolding held_at
  held_missing h = rw (lt-leb (i + range_words * n) (length ws) h) (and-false (leb n field_count))

  pub held_there : n ≤ field_count → i + range_words * n ≤ length ws → held_at ws i vs n ≡ holds (ranges_from ws i 0 n) (values_from vs 0 n)
  unfolding held_at
  held_there g h = rw (le-leb n field_count g, le-leb (i + range_words * n) (length ws) h)

-- All five.
pub all_ranges : (ws : List ℕ) (i : ℕ) → ranges_from ws i 0 field_count ≡ ranges_at ws i
unfolding ranges_from
all_ranges ws i = let e : i + 0 ≡ i = omega arith in rw e

pub all_values : (vs : List ℕ) → values_from vs 0 field_count ≡ values_of vs
unfolding values_from
all_values vs = refl

pub held_five : (ws : List ℕ) (i : ℕ) (vs : List ℕ) → i + ranges_words ≤ length ws → held_at ws i vs field_count ≡ holds (ranges_at ws i) (values_of vs)
held_five ws i vs h = held_there ws i vs field_count (omega arith) (omega arith) ∙ rw (all_ranges ws i, all_values vs)
