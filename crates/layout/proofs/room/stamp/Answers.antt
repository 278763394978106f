-- `layout::room::stamp` meets its contract. The loop's invariant: the rows from a to `row` are stamped. Assumes nothing.
use native.Mathlib.Omega.{arith}
use mathlib.Core.Path.{◌≡◌}
use borrow.Author.Rules.{rules}
use Rattle.selectors.specs.Value.{number}
use Rattle.layout.specs.StepsLaws.{stamped_none, stamped_more}
use Rattle.layout.proofs.room.stamp.Goals as goal

pub loop-row-init : goal.loop-row-init
loop-row-init c = let a = c.args in
    (search rules, stamped_none a.field _ a.a (number a.low) (number a.high) a.room.now)

pub loop-row-preserved : goal.loop-row-preserved
loop-row-preserved c = (search rules, stamped_more _ _ _ _ _ _ _ _ _ (omega arith) (omega arith) c.loop-row.invariant.1 c.stamp_row.ensures)

pub returns : goal.returns
returns c = let e : c.loop-row.row ≡ c.args.b = omega arith in rw e at c.loop-row.invariant.1
