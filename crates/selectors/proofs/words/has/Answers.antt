-- `words::has` meets its contract. Assumes nothing.
use lib.ListN.{length}
use Prim.Native.Nat.{◌+◌}
use mathlib.Core.Path.{sym}
use native.Mathlib.Omega.{arith}
use borrow.Author.Tests.{lt-leb}
use Rattle.selectors.proofs.WordsLaws.{leb_moved}
use Rattle.selectors.proofs.words.has.Goals as goal

pub returns-then-words-count : goal.returns-then-words-count
returns-then-words-count c = sym (lt-leb (c.args.at + c.args.count) (length c.args.words.now) (omega arith))

pub returns : goal.returns
returns c = leb_moved c.args.at c.args.count _ (omega arith)
