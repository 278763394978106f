-- `words::value_of` meets its contract: the two words are read. Assumes nothing.
use Rattle.selectors.specs.Words.{value_at}
use borrow.Author.Rules.{rules}
use Rattle.selectors.proofs.words.value_of.Goals as goal

pub returns : goal.returns
unfolding value_at
returns c = search rules
