-- `abi::trigger_part` meets its contract: the part is no longer than what ends where it ends. Assumes nothing.
use Rattle.abi.specs.WordsLaws.{trigger-length}
use Rattle.abi.proofs.trigger_part.Goals as goal

pub overflow_sub-result : goal.overflow_sub-result
overflow_sub-result c =
    let a = c.args in
    rw c.trigger-header.ensures (trigger-length a.bytes.now a.packet.upper a.packet.end)

pub returns : goal.returns
returns c = rw c.trigger-header.ensures
