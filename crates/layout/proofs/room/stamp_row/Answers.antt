-- `layout::room::stamp_row` meets its contract: both ends are written. Assumes nothing.
use native.Mathlib.Omega.{arith}
use Rattle.layout.specs.StepsLaws.{stamp-row}
use Rattle.layout.proofs.room.stamp_row.Goals as goal

pub returns : goal.returns
returns c = stamp-row _ _ _ _ _ _ _ (omega arith) (omega arith) c.put_ends.ensures
