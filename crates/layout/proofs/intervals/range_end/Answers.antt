-- `layout::intervals::range_end` meets its contract: the range is that of the row's words. Assumes nothing.
use Rattle.layout.specs.StepsLaws.{ends-range}
use Rattle.layout.proofs.intervals.range_end.Goals as goal

pub returns : goal.returns
returns c = ends-range _ _ _ _ _ _ c.row_range.ensures c.alike_to.ensures
