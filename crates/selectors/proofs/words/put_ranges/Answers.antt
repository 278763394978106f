-- `words::put_ranges` meets its contract: five runs of stores. Assumes nothing.
use Rattle.selectors.specs.Words.{words_of_range, words_of_ranges}
use Rattle.selectors.specs.Ranges.{ends_range, five_ranges}
use Prim.Native.Nat.{ℕ, ◌+◌}
use mathlib.Core.List.{List}
use lib.Seq.{sets}
use mathlib.Core.Path.{sym, ap, ◌∙◌}
use native.Mathlib.Omega.{arith}
use Rattle.selectors.proofs.StoresLaws.{sets_out}
use Rattle.selectors.proofs.WordsLaws.{ranges-put}
use Rattle.selectors.proofs.words.put_ranges.Goals as goal

pub returns-then-words-at : goal.returns-then-words-at
returns-then-words-at c = sym (sets_out c.args.words.now c.args.at (words_of_ranges (five_ranges c.args.ranges)) (omega arith))

pub returns : goal.returns
returns c =
    let a = c.args in
    c.put_ends-5.ensures
    ∙ ap (λ (l : List ℕ). sets l (a.at + 16) (words_of_range (ends_range a.ranges.remote_port)))
    (c.put_ends-4.ensures
    ∙ ap (λ (l : List ℕ). sets l (a.at + 12) (words_of_range (ends_range a.ranges.local_port)))
    (c.put_ends-3.ensures
    ∙ ap (λ (l : List ℕ). sets l (a.at + 8) (words_of_range (ends_range a.ranges.protocol)))
    (c.put_ends-2.ensures
    ∙ ap (λ (l : List ℕ). sets l (a.at + 4) (words_of_range (ends_range a.ranges.remote))) c.put_ends.ensures)))
    ∙ ranges-put a.words.now a.at a.ranges
