-- `sad::best_pair` meets its contract: a place that is better, one that is not, one whose ranges do not hold the values, and no more places. Assumes nothing.
use Rattle.std.proofs.Common.{arith, rules, sym, ◌∙◌, ne_eqb}
use Rattle.std.proofs.Math.Bool.{and-false}
use Rattle.selectors.specs.Words.{values_of}
use Rattle.sad.specs.Pairs.{pair_at}
use Rattle.sad.specs.PairsLaws.{best_better, best_passed-over, best_not-held, best_ended}
use Rattle.sad.proofs.best_pair.Goals.{then-is_better+then-holds_at, else-is_better, else-is_better-via-then-is_better+else-holds_at, else-is_better-via-else-is_better}
use Rattle.sad.proofs.best_pair.Goals as goal

pub loop-place-preserved-then-table-at : goal.loop-place-preserved-then-table-at
unfolding pair_at
loop-place-preserved-then-table-at c =
    let a = c.args in
    let l = c.loop-place in
    best_passed-over a.table.now a.number (values_of a.values.now) l.best l.place l.invariant (search rules)
    (rw (ne_eqb _ a.number c.if-table-at.true, and-false))

pub loop-place-preserved : goal.loop-place-preserved
unfolding pair_at
loop-place-preserved c =
    let a = c.args in
    let l = c.loop-place in
    elim c.if-is_better.branch [
      | then-is_better+then-holds_at w ↦
          rw w.best-is
          (best_better a.table.now a.number (values_of a.values.now) l.best l.place l.invariant (search rules) (sym c.is_better.ensures ∙ w.if-is_better.true) (sym w.holds_at.ensures ∙ w.if-holds_at.true))
      | else-is_better w ↦
          elim w.else-is_better.branch [
            | else-is_better-via-then-is_better+else-holds_at v ↦
                rw w.best-is (best_not-held a.table.now a.number (values_of a.values.now) l.best l.place l.invariant (search rules) (sym v.holds_at.ensures ∙ v.if-holds_at.false))
            | else-is_better-via-else-is_better v ↦
                rw w.best-is (best_passed-over a.table.now a.number (values_of a.values.now) l.best l.place l.invariant (search rules) (sym c.is_better.ensures ∙ v.if-is_better.false))
          ]
    ]

pub returns : goal.returns
returns c =
    let a = c.args in
    best_ended a.table.now a.number (values_of a.values.now) c.loop-place.best c.loop-place.place c.loop-place.invariant (omega arith)
