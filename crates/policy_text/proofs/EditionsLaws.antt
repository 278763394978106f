-- Laws of the editions. Assumes nothing.
use Rattle.std.specs.Prelude.{ℕ, ◌≡◌, ◌↔◌, refl, true, List, length, map}
use Rattle.std.proofs.Common.{arith}
use Rattle.selectors.specs.Range.{full, holds}
use Rattle.selectors.specs.Words.{field_count}
use Rattle.normal_form.specs.Search.{Combination}
use Rattle.normal_form.proofs.ShapeLaws.{Fits, combination_any}
use Rattle.policy_text.specs.declared.Edition.{Edition}
use Rattle.policy_text.specs.declared.Edition.TheVariants.{One}
use Rattle.policy_text.specs.Editions.{edition_sizes}

-- Every edition has as many fields as a row of words.
pub five_fields : (e : Edition) → length (edition_sizes e) ≡ field_count
five_fields One = refl

-- There is one edition. What rests on this is particular to it: the code that reads and prints edition 1.
pub only_one : (e : Edition) → e ≡ One
only_one One = refl

-- Every field has values.
every_field : (e : Edition) → Fits (edition_sizes e) (map full (edition_sizes e))
unfolding Fits
every_field One = (omega arith, omega arith, (omega arith, omega arith, (omega arith, omega arith, (omega arith, omega arith, (omega arith, omega arith, tt)))))

-- 'A combination is one value for each of the five fields, any that the field's ANY holds.'
pub edition_combination : (e : Edition) (vs : List ℕ) → Combination (edition_sizes e) vs ↔ (holds (map full (edition_sizes e)) vs ≡ true)
edition_combination e vs = combination_any (edition_sizes e) vs (every_field e)
