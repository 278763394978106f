-- `words::put_ends` meets its contract. Assumes nothing.
use Rattle.selectors.specs.Words.{words_of_value, words_of_range}
use Rattle.selectors.specs.Ranges.{ends_range}
use mathlib.Core.Path.{sym, ap, ◌∙◌}
use mathlib.Core.List.{List}
use Prim.Native.Nat.{ℕ, ◌+◌}
use lib.Seq.{sets}
use Rattle.selectors.specs.Value.{number}
use native.Mathlib.Omega.{arith}
use Rattle.selectors.proofs.StoresLaws.{sets_out}
use Rattle.selectors.proofs.WordsLaws.{range-put}
use Rattle.selectors.proofs.words.put_ends.Goals as goal

pub returns-then-words-at : goal.returns-then-words-at
returns-then-words-at c = sym (sets_out c.args.words.now c.args.at (words_of_range (ends_range c.args.ends)) (omega arith))

pub returns : goal.returns
returns c =
    let a = c.args in
    c.put_value-2.ensures
    ∙ ap (λ (ws : List ℕ). sets ws (a.at + 2) (words_of_value (number a.ends.high))) c.put_value.ensures
    ∙ range-put a.words.now a.at (number a.ends.low) (number a.ends.high)
