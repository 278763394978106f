-- `layout::room::same_block` meets its contract: the counts, and then the rows. Assumes nothing.
use Rattle.layout.specs.DecodeLaws.{never, blocks_apart}
use Rattle.layout.proofs.room.same_block.Goals as goal

pub returns-then-next-last : goal.returns-then-next-last
returns-then-next-last c = never (blocks_apart _ _ _ _ _ _ _ c.if-next-last.true)

pub returns : goal.returns
returns c = rw c.if-next-last.false c.same_rows.ensures
