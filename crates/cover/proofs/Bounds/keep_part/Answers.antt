-- `cover::Bounds::keep_part` meets its contract. By the side that is asked for. Assumes nothing.
use Rattle.std.proofs.Common.{rules}
use Rattle.cover.specs.BoxLaws.{written_high, written_low, part_upper, part-lower}
use Rattle.cover.proofs.Bounds.keep_part.Goals as goal

pub returns-then-upper : goal.returns-then-upper
returns-then-upper c =
    let cut = c.args.cut.now in
    rw c.if-upper.true (part_upper _ _ _ _ (written_low c.args.self.now.words _ cut.field _ (search rules) (search rules) c.put_value.ensures))

pub returns-else-upper : goal.returns-else-upper
returns-else-upper c =
    let cut = c.args.cut.now in
    rw c.if-upper.false (part-lower _ _ _ _ _ c.previous.ensures (written_high c.args.self.now.words _ cut.field _ (search rules) (search rules) c.put_value-else-upper.ensures))
