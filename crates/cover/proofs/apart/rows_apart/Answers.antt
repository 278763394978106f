-- `cover::apart::rows_apart` meets its contract. Some field in which the ranges are apart. Assumes nothing.
use Rattle.std.specs.Bool.{⊤}
use Rattle.std.proofs.Common.{ℕ, ap, refl, rules, ◌-◌, ◌*◌}
use borrow.Author.Tests.{tests}
use Rattle.std.proofs.lemmas.Iterator.{cases_from_any, YieldsList-from_range}
use Rattle.selectors.specs.Ranges.{ends_range}
use Rattle.selectors.specs.Words.{field_count, range_words, range_at}
use Rattle.cover.specs.Boxes.{RangeApart}
use Rattle.cover.specs.BoxLaws.{any_field, rows_part}
use Rattle.cover.proofs.apart.rows_apart.Goals as goal

pub returns : goal.returns
returns c = λ e.
    let P = λ (f : ℕ). RangeApart (range_at c.in-Some.row.now (range_words * f)) (range_at c.in-Some-ranges_of.other.now (range_words * f)) in
    let t = any_field c.args.field P _ _ (cases_from_any _ _ _ P (λ x. ⊤) c.any.ensures.ran (YieldsList-from_range c.args.field field_count (field_count - c.args.field) refl refl) (λ x q k. search (rules, tests)) (λ x q k. search (rules, tests))) e in
    rows_part _ _ _ _ t.0 t.1 t.2 (rw (ap ends_range (rw c.wide.ensures at (c.in-Some.ensures t.0 t.2)), ap ends_range (rw c.wide-2.ensures at (c.in-Some-ranges_of.ensures t.0 t.2))) at t.3)
