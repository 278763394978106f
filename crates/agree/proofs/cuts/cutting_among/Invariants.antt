-- `agree::cuts::cutting_among` meets its contract. The loop's invariant: the list has some of the rows so far, and all of them that do not discard or may be met by a listed row. Assumes nothing.
use Rattle.agree.specs.CuttingLaws.{Chosen, Idle}
use Rattle.agree.proofs.cuts.cutting_among.Given as goal

abbrev pub invariant-loop-row : goal.invariant-loop-row
invariant-loop-row l = Chosen (Idle l.rows l.field l.actors) l.list l.row-index l.cuts.items
