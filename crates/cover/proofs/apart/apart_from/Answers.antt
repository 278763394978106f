-- `cover::apart::apart_from` meets its contract. Some field in which the ranges are apart. Assumes nothing.
use Rattle.std.specs.Bool.{⊤}
use Rattle.std.proofs.Common.{ℕ, ap, refl, rules, arith, ◌*◌}
use borrow.Author.Tests.{tests}
use Rattle.std.proofs.lemmas.Iterator.{cases_from_any, YieldsList-from_range}
use Rattle.selectors.specs.Ranges.{ends_range}
use Rattle.selectors.specs.Words.{field_count, range_words, range_at}
use Rattle.cover.specs.Boxes.{RangeApart}
use Rattle.cover.specs.BoxLaws.{any_field, field_parts}
use Rattle.cover.proofs.apart.apart_from.Goals as goal

pub returns : goal.returns
returns c = λ e.
    let P = λ (f : ℕ). RangeApart (range_at c.in-Some.row.now (range_words * f)) (range_at c.args.bounds.now.words (range_words * f)) in
    let t = any_field _ P _ _ (cases_from_any _ _ _ P (λ x. ⊤) c.any.ensures.ran (YieldsList-from_range _ field_count _ refl refl) (λ x q k. search (rules, tests)) (λ x q k. search (rules, tests))) e in
    field_parts _ _ _ _ t.0 (omega (arith, t.1, t.2)) t.2 (rw (ap ends_range (rw (c.table_of.ensures, c.row_of.ensures) at (c.in-Some.ensures t.0 t.2))) at t.3)
