-- Laws of ranges. Assumes nothing.
use Rattle.std.specs.Prelude.{ℕ, zero, suc, ◌+◌, ◌-◌, ◌≤◌, ◌<◌, ◌≡◌, ◌↔◌, refl, Bool, true, false, not, ◌&&◌, List, [], ◌∷◌, leb, ltb, eqb, length, get_or}
use Rattle.std.proofs.Common.{arith, add-one, ap, le-leb, leb-true, lt-ltb, le-ltb, eq-eqb, ne_eqb, eqb-true}
use Rattle.std.proofs.Math.Decide.{dec_le, dec_lt, ℕ_discrete}
use Rattle.std.proofs.Math.Bool.{and-false}
use Rattle.std.proofs.lemmas.Bool.{false≢true, lt-leb}
use Rattle.std.proofs.Math.Dec.{leb-suc-suc}
use Rattle.selectors.specs.Range.{Range, range, contains, holds, in_field, same_range, full, opaque, absent, port_size}

-- Both of two tests that hold together hold.
pub both_true : (a b : Bool) → (a && b) ≡ true → (a ≡ true) × (b ≡ true)
both_true true b e = (refl, e)
both_true false b e = absurd (false≢true e)

-- A value is in a range, below it or above it.
pub contains_in : (r : Range) (v : ℕ) → r.low ≤ v → v ≤ r.high → contains r v ≡ true
unfolding contains
contains_in r v p q = rw (le-leb r.low v p, le-leb v r.high q)

pub contains_below : (r : Range) (v : ℕ) → v < r.low → contains r v ≡ false
unfolding contains
contains_below r v p = rw (lt-leb r.low v p)

pub contains_above : (r : Range) (v : ℕ) → r.high < v → contains r v ≡ false
unfolding contains
contains_above r v p = rw (lt-leb v r.high p) (and-false (leb r.low v))

-- A value that a range holds is from its low end to its high end.
pub contains_between : (r : Range) (v : ℕ) → contains r v ≡ true → (r.low ≤ v) × (v ≤ r.high)
unfolding contains
contains_between r v e = let p = both_true (leb r.low v) _ e in (leb-true _ _ p.0, leb-true _ _ p.1)

not-ltb : (a b : ℕ) → not (ltb a b) ≡ leb b a
not-ltb a b = by (dec_le b a)
  where
    by : Dec (b ≤ a) → not (ltb a b) ≡ leb b a
    by (yes h) = rw (le-ltb a b h, le-leb b a h)
    by (no h) = rw (lt-ltb a b (omega arith), lt-leb b a (omega arith))

-- A range by two tests of order: below its low end it holds nothing, and from there on what is not above its high end.
pub contains_not_below : (r : Range) (v : ℕ) → r.low ≤ v → not (ltb r.high v) ≡ contains r v
unfolding contains
contains_not_below r v p = rw (le-leb r.low v p) (not-ltb r.high v)

pub contains_from : (r : Range) (v : ℕ) → r.low ≤ v → leb v r.high ≡ contains r v
unfolding contains
contains_from r v p = rw (le-leb r.low v p)

-- A range of a field, by two tests of order.
pub in_field_reversed : (size : ℕ) (r : Range) → r.high < r.low → in_field size r ≡ false
unfolding in_field
in_field_reversed size r p = rw (lt-leb r.low r.high p)

-- The same of a field whose highest value is h.
pub in_field_ordered : (h : ℕ) (r : Range) → r.low ≤ r.high → not (ltb h r.high) ≡ in_field (h + 1) r
unfolding in_field
in_field_ordered h r p = rw (le-leb r.low r.high p, add-one, leb-suc-suc) (not-ltb h r.high)

pub in_field_beyond : (size : ℕ) (r : Range) → 0 < size → size - 1 < r.high → in_field size r ≡ false
unfolding in_field
in_field_beyond size r s p = rw (le-ltb r.high size (omega arith)) (and-false (leb r.low r.high))

pub in_field_within : (size : ℕ) (r : Range) → 0 < size → r.low ≤ r.high → r.high ≤ size - 1 → in_field size r ≡ true
unfolding in_field
in_field_within size r s p q = rw (le-leb r.low r.high p, lt-ltb r.high size (omega arith))

-- No range whose high end is a port number holds absent: it is not a number. A range holds absent exactly where it begins at absent or below
-- and ends at absent or beyond.
pub numbers_never_absent : (r : Range) → r.high ≤ 65535 → contains r absent ≡ false
numbers_never_absent r h = contains_above r absent (omega arith)

pub absent_held : (r : Range) → (contains r absent ≡ true) ↔ ((r.low ≤ absent) × (absent ≤ r.high))
absent_held r = (contains_between r absent, λ h. contains_in r absent h.0 h.1)

-- ANY holds every value of its field, the absent port too; 0 to 65,535 does not hold absent; OPAQUE holds absent alone.
pub full-holds : (size v : ℕ) → v < size → contains (full size) v ≡ true
full-holds size v h = contains_in (full size) v (omega arith) (omega arith)

pub any-holds-absent : contains (full port_size) absent ≡ true
any-holds-absent = full-holds port_size absent (omega arith)

pub numbers-without-absent : contains (range 0 65535) absent ≡ false
numbers-without-absent = contains_above (range 0 65535) absent (omega arith)

pub opaque_alone : (v : ℕ) → contains opaque v ≡ eqb v absent
opaque_alone v = by (ℕ_discrete v absent)
  where
    by : Dec (v ≡ absent) → contains opaque v ≡ eqb v absent
    by (yes e) = rw (eq-eqb v absent e) (contains_in opaque v (omega arith) (omega arith))
    by (no n) = rw (ne_eqb v absent n) (other (dec_lt v absent))
      where
        other : Dec (v < absent) → contains opaque v ≡ false
        other (yes h) = contains_below opaque v h
        other (no h) = contains_above opaque v (omega arith)

-- Two ranges with the same ends are one range.
pub same_range_true : (r q : Range) → same_range r q ≡ true → r ≡ q
unfolding same_range
same_range_true r q e =
    let p = both_true (eqb r.low q.low) _ e in
    let l : r.low ≡ q.low = eqb-true _ _ p.0 in
    let h : r.high ≡ q.high = eqb-true _ _ p.1 in
    λ i. record { low = l i; high = h i }

-- Ranges that hold values are as many as the values.
pub holds-length : (rs : List Range) (vs : List ℕ) → holds rs vs ≡ true → length rs ≡ length vs
unfolding holds
holds-length [] [] e = refl
holds-length [] (v ∷ vs) e = absurd (false≢true e)
holds-length (r ∷ rs) [] e = absurd (false≢true e)
holds-length (r ∷ rs) (v ∷ vs) e = ap suc (holds-length rs vs (both_true (contains r v) (holds rs vs) e).1)

-- And each holds the value of its own field.
pub holds_each : (rs : List Range) (vs : List ℕ) (i : ℕ) (r : Range) → holds rs vs ≡ true → i < length vs → contains (get_or rs i r) (get_or vs i 0) ≡ true
unfolding holds
holds_each [] [] i r e h = absurd (omega arith)
holds_each [] (v ∷ vs) i r e h = absurd (false≢true e)
holds_each (q ∷ rs) [] i r e h = absurd (omega arith)
holds_each (q ∷ rs) (v ∷ vs) zero r e h = (both_true (contains q v) (holds rs vs) e).0
holds_each (q ∷ rs) (v ∷ vs) (suc i) r e h = holds_each rs vs i r (both_true (contains q v) (holds rs vs) e).1 (omega arith)
