-- `agree::sides::Entries::before` meets its contract. The loop's invariant: the listed codes are those of entries before j. Assumes nothing.
use Rattle.std.proofs.Common.{arith, []}
use Rattle.std.proofs.lemmas.List.{length-append}
use Rattle.agree.specs.SidesLaws.{before_none, before_passed, before_more}
use Rattle.agree.proofs.sides.Entries.before.Goals as goal
use Rattle.agree.proofs.sides.Entries.before.Goals.{then-comes_first+then-not-apart_from, else-comes_first}

pub loop-j-init : goal.loop-j-init
loop-j-init c = rw c.requires.1 (omega arith, before_none _ _ _ [])

pub loop-j-preserved : goal.loop-j-preserved
loop-j-preserved c =
    let i = c.loop-j.invariant in
    elim c.if-comes_first.branch [
      | then-comes_first+then-not-apart_from w ↦ rw (w.list-is, w.push.ensures.items) (
        rw (length-append c.loop-j.list.items _) (omega arith),
        before_more _ _ _ _ _ i.1 (c.comes_first.ensures w.if-comes_first.true),
      )
      | else-comes_first w ↦ rw w.list-is (omega arith, before_passed _ _ _ _ _ i.1)
    ]
