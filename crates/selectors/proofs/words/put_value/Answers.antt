-- `words::put_value` meets its contract. Assumes nothing.
use Rattle.selectors.specs.Words.{words_of_value}
use Rattle.selectors.specs.Value.{number}
use mathlib.Core.Path.{sym}
use native.Mathlib.Omega.{arith}
use lib.ListN.{length-set}
use Rattle.selectors.proofs.StoresLaws.{sets_out}
use Rattle.selectors.proofs.WordsLaws.{value-put, value-put_short}
use borrow.Author.Rules.{rules}
use Rattle.selectors.proofs.words.put_value.Goals as goal

pub returns-then-words-at : goal.returns-then-words-at
returns-then-words-at c = sym (sets_out c.args.words.now c.args.at (words_of_value (number c.args.value)) (omega arith))

pub overflow_sub-words : goal.overflow_sub-words
overflow_sub-words c = simp length-set (omega arith)

pub returns-then-words-at-lt-VALUE_WORDS : goal.returns-then-words-at-lt-VALUE_WORDS
returns-then-words-at-lt-VALUE_WORDS c = value-put_short c.args.words.now c.args.at c.args.value (search rules) (omega (arith, length-set c.args.words.now c.args.at c.args.value.upper))

pub returns : goal.returns
returns c = value-put c.args.words.now c.args.at c.args.value (search rules)
