-- `agree::merging::cut_entries` meets its contract. The loop's invariant: the entries so far are those of the rows so far. Assumes nothing.
use Rattle.std.proofs.Common.{arith, [], ◌∷◌}
use Rattle.std.proofs.lemmas.List.{length-append}
use Rattle.agree.specs.EntriesLaws.{cut_more, cut_passed}
use Rattle.agree.proofs.merging.cut_entries.Goals as goal
use Rattle.agree.proofs.merging.cut_entries.Goals.{then-sides-gt0, else-sides-gt0}

pub loop-row-preserved : goal.loop-row-preserved
loop-row-preserved c =
    let i = c.loop-row.invariant in
    elim c.if-sides-gt0.branch [
      | then-sides-gt0 w ↦ rw (w.entries-is, w.push.ensures.items) (
        rw (length-append c.loop-row.entries.items (w.coded.result ∷ [])) (omega arith),
        cut_more _ _ _ _ _ _ _ i.1 c.loop-row-test.true _ (omega (arith, c.args.list.now.there.fits)) (rw c.sides_of-sides.ensures at w.coded.ensures),
      )
      | else-sides-gt0 w ↦ rw w.entries-is (omega arith, cut_passed _ _ _ _ _ _ _ i.1 c.loop-row-test.true 0 (omega (arith, c.sides_of-sides.ensures)))
    ]
