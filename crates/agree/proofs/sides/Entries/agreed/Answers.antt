-- `agree::sides::Entries::agreed` meets its contract. The loop's invariant: none of the entries before `row` that are on one side only makes a difference. Assumes nothing.
use Rattle.std.proofs.Common.{arith, ◌≡◌, length, below_more}
use Rattle.agree.specs.SidesLaws.{same_none, same_lone, sides_agree}
use Rattle.agree.proofs.sides.Entries.agreed.Goals as goal
use Rattle.agree.proofs.sides.Entries.agreed.Goals.{in-Some+else-not-harmless, in_default}

pub loop-row-preserved : goal.loop-row-preserved
loop-row-preserved c =
    below_more _ _ c.loop-row.invariant
    (elim c.match-lone.branch [
      | in-Some+else-not-harmless w ↦ same_lone _ _ _ c.loop-row-test.true _ c.lone.ensures _ w.in-Some.is (w.harmless.ensures.harmless w.if-not-harmless.false)
      | in_default w ↦ same_none _ _ _ c.loop-row-test.true _ c.lone.ensures w.in_default.is
    ])

pub returns : goal.returns
returns c = let e : c.loop-row.row ≡ length c.args.self.now.codes.now = omega arith in λ _. sides_agree _ _ (rw e at c.loop-row.invariant)
