-- `selectors::PortRange::is_opaque` meets its contract: both ends are the absent port. Assumes nothing.
use Rattle.selectors.specs.Range.{same_range}
use Rattle.selectors.specs.Value.{number}
use Rattle.selectors.proofs.ranges.PortRange.is_opaque.Goals as goal

pub returns : goal.returns
unfolding same_range number
returns c = c.eq.ensures
