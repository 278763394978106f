-- Ranges whose ends have the same upper word. Assumes nothing.
use Rattle.std.specs.Prelude.{◌^◌, ◌<◌, ◌≤◌, ◌≡◌}
use Rattle.std.proofs.Common.{arith, ◌∙◌}
use Rattle.std.proofs.Math.Decide.{dec_le, dec_lt}
use Rattle.std.proofs.Math.Path.{sym}
use Rattle.std.proofs.Math.Bool.{false}
use Rattle.selectors.specs.Range.{range, contains}
use Rattle.selectors.proofs.RangeLaws.{contains_in, contains_below, contains_above}
use Rattle.selectors.specs.Ranges.{from_to}
use Rattle.selectors.specs.Value.{number}
use Rattle.selectors.proofs.ValueLaws.{Words, upper_first}
use Rattle.selectors.specs.declared.Value.{Value}

module _ (low high v : Value) (e : low.upper ≡ high.upper) where
  -- A value with that upper word too is held by its lower word.
  pub same_upper : v.upper ≡ low.upper → contains (range low.lower high.lower) v.lower ≡ contains (from_to low high) (number v)
  unfolding number
  same_upper f = by (dec_le low.lower v.lower) (dec_le v.lower high.lower)
    where
      by : Dec (low.lower ≤ v.lower) → Dec (v.lower ≤ high.lower) → contains (range low.lower high.lower) v.lower ≡ contains (from_to low high) (number v)
      by (yes p) (yes q) = contains_in _ _ p q ∙ sym (contains_in (from_to low high) (number v) (omega arith) (omega arith))
      by (no p) d = contains_below _ _ (omega arith) ∙ sym (contains_below (from_to low high) (number v) (omega arith))
      by (yes p) (no q) = contains_above _ _ (omega arith) ∙ sym (contains_above (from_to low high) (number v) (omega arith))

  -- A value with another is not held.
  pub other_upper : Words high → Words v → (v.upper ≡ low.upper → ⊥) → contains (from_to low high) (number v) ≡ false
  unfolding number
  other_upper wh wv n = by (dec_lt v.upper low.upper) (dec_lt high.upper v.upper)
    where
      by : Dec (v.upper < low.upper) → Dec (high.upper < v.upper) → contains (from_to low high) (number v) ≡ false
      by (yes p) d = contains_below _ _ (upper_first (2 ^ 64) v.upper v.lower low.upper low.lower wv.lower_fits p)
      by (no p) (yes q) = contains_above _ _ (upper_first (2 ^ 64) high.upper high.lower v.upper v.lower wh.lower_fits q)
      by (no p) (no q) = absurd (n (omega arith))
