-- `words::selectors_of` meets its contract. Assumes nothing.
use Rattle.selectors.specs.Words.{selectors_in}
use Rattle.selectors.proofs.words.selectors_of.Goals as goal

pub returns : goal.returns
unfolding selectors_in
returns c =
    rw (← c.value_of.ensures, ← c.value_of-2.ensures, ← c.value_of-3.ensures, ← c.value_of-4.ensures, ← c.value_of-5.ensures)
