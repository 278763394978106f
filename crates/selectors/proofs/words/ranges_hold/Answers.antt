-- `words::ranges_hold` meets its contract: no more than five fields, whose ranges are there, are asked. Assumes nothing.
use Prim.Native.Nat.{◌+◌, ◌*◌}
use native.Mathlib.Omega.{arith}
use mathlib.Core.Path.{sym, ◌∙◌}
use lib.ListN.{length}
use borrow.Author.Rules.{rules}
use borrow.Author.Tests.{leb-true, leb-false, not-true, not-false}
use Rattle.selectors.proofs.HeldLaws.{held_beyond, held_missing, held_there}
use Rattle.selectors.proofs.words.ranges_hold.Goals as goal

pub returns-then-fields-gt-FIELDS : goal.returns-then-fields-gt-FIELDS
returns-then-fields-gt-FIELDS c = sym (held_beyond c.args.words.now c.args.at c.args.values.now c.args.fields (omega arith))

pub returns-then-not-has : goal.returns-then-not-has
returns-then-not-has c =
    let a = c.args in
    let h = leb-false (a.at + 4 * a.fields) (length a.words.now) (sym c.has.ensures ∙ not-true _ c.if-not-has.true-raw) in
    sym (held_missing a.words.now a.at a.values.now a.fields h)

pub all_hold-requires : goal.all_hold-requires
all_hold-requires c =
    let a = c.args in
    (search rules, leb-true (a.at + 4 * a.fields) (length a.words.now) (sym c.has.ensures ∙ not-false _ c.if-not-has.false-raw))

pub returns : goal.returns
returns c =
    let a = c.args in
    let h = leb-true (a.at + 4 * a.fields) (length a.words.now) (sym c.has.ensures ∙ not-false _ c.if-not-has.false-raw) in
    c.all_hold.ensures ∙ sym (held_there a.words.now a.at a.values.now a.fields (search rules) h)
