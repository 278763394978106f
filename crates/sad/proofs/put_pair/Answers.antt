-- `sad::put_pair` meets its contract: four words and five ranges. Assumes nothing.
use Prim.Native.Nat.{suc, ◌+◌}
use native.Mathlib.Omega.{arith}
use native.Mathlib.Numerals.{add-one}
use mathlib.Core.Path.{◌≡◌, ◌∙◌}
use Rattle.sad.specs.Pairs.{pair_words}
use Rattle.sad.proofs.put_pair.Goals as goal

pub returns : goal.returns
unfolding pair_words
returns c =
    let a = c.args in
    let e4 : a.at + 4 ≡ suc (suc (suc (suc a.at))) = omega arith in
    let e3 : a.at + 3 ≡ suc (suc (suc a.at)) = omega arith in
    let e2 : a.at + 2 ≡ suc (suc a.at) = omega arith in
    c.put_ranges.ensures
    ∙ rw (c.put_word-4.ensures, c.put_word-3.ensures, c.put_word-2.ensures, c.put_word.ensures, e4, e3, e2, add-one)
