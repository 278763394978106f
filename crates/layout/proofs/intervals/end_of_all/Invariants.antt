-- `layout::intervals::end_of_all` meets its contract. The loop's invariant: the rows before `row` treat all values to `end` alike. Assumes nothing.
use Rattle.selectors.specs.Value.{number}
use Rattle.layout.specs.Steps.{IntervalEnd, AlikeAmong}
use Rattle.selectors.specs.Words.{values_from}
use Rattle.layout.proofs.intervals.end_of_all.Given as goal

abbrev pub invariant-loop-row : goal.invariant-loop-row
invariant-loop-row l =
    IntervalEnd (number l.from) (number l.initial.end) (number l.end) (AlikeAmong l.direction l.rows l.row l.field (values_from l.point.words 0 l.field) (number l.from) (number l.end))
