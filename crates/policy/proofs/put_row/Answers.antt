-- `policy::put_row` meets its contract: two words and five ranges. Assumes nothing.
use Prim.Native.Nat.{suc, ◌+◌}
use native.Mathlib.Omega.{arith}
use native.Mathlib.Numerals.{add-one}
use Rattle.std.proofs.Common.{List}
use Rattle.std.proofs.lemmas.List.Edits.{sets}
use mathlib.Core.Path.{◌≡◌, ap, sym, ◌∙◌}
use Rattle.selectors.specs.Range.{Range}
use Rattle.selectors.specs.Words.{words_of_ranges}
use Rattle.selectors.proofs.StoresLaws.{sets_out}
use Rattle.policy.specs.Words.{words_of_record}
use Rattle.policy.proofs.put_row.Goals as goal

pub returns-then-rows-at : goal.returns-then-rows-at
returns-then-rows-at c = sym (sets_out c.args.rows.now c.args.at (words_of_record c.args.row) (omega arith))

pub returns : goal.returns
returns c =
    let a = c.args in
    let e : a.at + 2 ≡ suc (suc a.at) = omega arith in
    c.put_ranges.ensures
    ∙ ap (λ (rs : List Range). sets c.put_word-2.new.words (a.at + 2) (words_of_ranges rs)) c.ranges_of.ensures
    ∙ rw (c.put_word-2.ensures, c.put_word.ensures, e, add-one)
