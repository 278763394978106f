-- `layout::intervals::end_listed` meets its contract. The loop's invariant: the rows of the list so far treat all values to `end` alike. Assumes nothing.
use Rattle.selectors.specs.Value.{number}
use Rattle.layout.specs.Steps.{IntervalEnd}
use Rattle.layout.specs.Lists.{AlikeListed}
use Rattle.layout.proofs.intervals.end_listed.Given as goal

abbrev pub invariant-loop-row : goal.invariant-loop-row
invariant-loop-row l =
    IntervalEnd (number l.from) (number l.initial.end) (number l.end) (AlikeListed l.rows l.list l.row-index l.field (number l.from) (number l.end))
