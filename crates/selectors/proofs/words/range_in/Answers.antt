-- `words::range_in` meets its contract. Assumes nothing.
use mathlib.Core.Path.{◌∙◌}
use Rattle.selectors.proofs.WordsLaws.{ends_hold}
use Rattle.selectors.proofs.words.range_in.Goals as goal

pub returns : goal.returns
returns c = c.hold.ensures ∙ ends_hold _ _ _ _ _ c.value_in-low.ensures c.value_in-high.ensures
