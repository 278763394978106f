-- `words::range_holds` meets its contract. Assumes nothing.
use mathlib.Core.Path.{◌∙◌}
use Rattle.selectors.proofs.words.range_holds.Goals as goal

pub returns : goal.returns
returns c = c.hold.ensures ∙ rw c.ends_at-ends.ensures
