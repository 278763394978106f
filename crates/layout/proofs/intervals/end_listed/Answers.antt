-- `layout::intervals::end_listed` meets its contract. The loop's invariant: the rows of the list so far treat all values to `end` alike. Assumes nothing.
use Prim.Native.Nat.{◌<◌, ◌/◌}
use native.Mathlib.Omega.{arith}
use mathlib.Core.Path.{◌≡◌}
use lib.ListN.{length}
use Rattle.policy.specs.Words.{row_words}
use Rattle.layout.specs.ListsLaws.{listed_start, listed_more}
use borrow.Author.Rules.{rules}
use Rattle.layout.proofs.intervals.end_listed.Goals as goal

pub loop-row-init : goal.loop-row-init
loop-row-init c = listed_start _ _ _ _ _ c.args.span.ordered

pub range_end-end-requires : goal.range_end-end-requires
range_end-end-requires c =
    let row_in : c.from.result < length c.args.rows.now / row_words = omega (arith, c.from.ensures, c.requires.1.places c.loop-row.row-index c.loop-row-test.true) in
    let h = row_in in (search rules, search rules)

pub loop-row-preserved : goal.loop-row-preserved
loop-row-preserved c = listed_more _ _ _ _ _ _ _ _ c.loop-row.invariant (rw c.from.ensures at c.range_end-end.ensures)

pub returns : goal.returns
returns c = let e : c.loop-row.row-index ≡ length c.args.list.now = omega arith in rw e at c.loop-row.invariant
