-- `words::put_word` meets its contract. Assumes nothing.
use mathlib.Core.Path.{sym}
use native.Mathlib.Omega.{arith}
use lib.Seq.{set_out}
use Rattle.selectors.proofs.words.put_word.Goals as goal

pub returns-then-words-at : goal.returns-then-words-at
returns-then-words-at c = sym (set_out c.args.words.now c.args.at c.args.word (omega arith))
