-- `words::ends_at` meets its contract. Assumes nothing.
use Prim.Native.Nat.{◌+◌}
use lib.ListN.{length}
use Rattle.selectors.proofs.WordsLaws.{ends_are, value_missing}
use native.Mathlib.Omega.{arith}
use mathlib.Core.Path.{sym, ◌∙◌}
use borrow.Author.Tests.{leb-true}
use borrow.Author.Rules.{rules}
use Rattle.selectors.proofs.words.ends_at.Goals as goal

pub value_in-requires : goal.value_in-requires
value_in-requires c =
    let h = leb-true (c.args.at + 4) (length c.args.words.now) (sym c.has.ensures ∙ c.if-has.true) in
    omega arith

pub overflow_add-at : goal.overflow_add-at
overflow_add-at c =
    let h = leb-true (c.args.at + 4) (length c.args.words.now) (sym c.has.ensures ∙ c.if-has.true) in
    search rules

pub value_in-requires-then-has : goal.value_in-requires-then-has
value_in-requires-then-has c =
    let h = leb-true (c.args.at + 4) (length c.args.words.now) (sym c.has.ensures ∙ c.if-has.true) in
    omega arith

pub returns-then-has : goal.returns-then-has
returns-then-has c = ends_are _ _ _ c.value_in.ensures c.value_in-then-has.ensures

pub returns-then-words-at : goal.returns-then-words-at
returns-then-words-at c =
    let a = c.args in
    ends_are _ _ _ (value_missing a.words.now a.at (omega arith)) (value_missing a.words.now (a.at + 2) (omega arith))

pub returns : goal.returns
returns c = ends_are _ _ _ c.value_at.ensures c.value_at-2.ensures
