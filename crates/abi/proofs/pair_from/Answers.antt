-- `abi::pair_from` meets its contract: the ranges are read from their words. Assumes nothing.
use Rattle.abi.specs.Words.{pair_from}
use Rattle.abi.proofs.pair_from.Goals as goal

pub returns : goal.returns
unfolding pair_from
returns c = rw c.ranges_at.ensures
