-- `cover::rows::covers` meets its contract. Each field in which the row's range covers the box's. Assumes nothing.
use Rattle.std.specs.Bool.{⊤}
use Rattle.std.proofs.Common.{ℕ, ap, refl, rules, arith, ◌*◌}
use borrow.Author.Tests.{tests}
use Rattle.std.proofs.lemmas.Iterator.{cases_from_all, YieldsList-from_range}
use Rattle.selectors.specs.Ranges.{ends_range}
use Rattle.selectors.specs.Words.{field_count, range_words, range_at}
use Rattle.cover.specs.Boxes.{RangeCovers}
use Rattle.cover.specs.BoxLaws.{all_fields, covers_each}
use Rattle.cover.proofs.rows.covers.Goals as goal

pub returns : goal.returns
returns c = λ e.
    let P = λ (f : ℕ). RangeCovers (range_at c.in-Some.row.now (range_words * f)) (range_at c.args.bounds.now.words (range_words * f)) in
    let t = all_fields _ P _ _ (cases_from_all _ _ _ P (λ x. ⊤) c.all.ensures.ran (YieldsList-from_range _ field_count _ refl refl) (λ x q k. search (rules, tests)) (λ x q k. search (rules, tests))) e in
    covers_each _ _ _ _ (λ g l h. rw (ap ends_range (rw (c.table_of.ensures, c.row_of.ensures) at (c.in-Some.ensures g h))) at (t g (omega arith) h))
