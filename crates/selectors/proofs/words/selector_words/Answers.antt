-- `words::selector_words` meets its contract. Assumes nothing.
use Rattle.selectors.specs.Words.{words_of_selectors}
use borrow.Author.Rules.{rules}
use Rattle.selectors.proofs.words.selector_words.Goals as goal

pub returns : goal.returns
unfolding words_of_selectors
returns c = search rules
