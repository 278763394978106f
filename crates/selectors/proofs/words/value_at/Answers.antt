-- `words::value_at` meets its contract: two words, or one with 0 after it, or none. Assumes nothing.
use mathlib.Core.Path.{sym, refl, ◌∙◌}
use borrow.Author.Tests.{leb-true, leb-false}
use Rattle.selectors.proofs.WordsLaws.{value_short}
use Rattle.selectors.proofs.words.value_at.Goals as goal

pub value_in-requires : goal.value_in-requires
value_in-requires c = leb-true _ _ (sym c.has.ensures ∙ c.if-has.true)

pub returns : goal.returns
returns c = value_short _ _ (leb-false _ _ (sym c.has.ensures ∙ c.if-has.false)) _ c.word_at.ensures refl
