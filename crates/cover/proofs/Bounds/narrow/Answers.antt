-- `cover::Bounds::narrow` meets its contract. Each end is written, or stays as it is. Assumes nothing.
use Rattle.std.proofs.Common.{rules, ap, ◌∙◌}
use Rattle.cover.specs.declared.Bounds.{Bounds}
use Rattle.cover.specs.BoxLaws.{written_high, written_low, raised_none, lowered_none, narrowed}
use Rattle.cover.proofs.Bounds.narrow.Goals as goal
use Rattle.cover.proofs.Bounds.narrow.Goals.{then-lt, else-lt}

pub returns-then-lt-2 : goal.returns-then-lt-2
returns-then-lt-2 c =
    narrowed _ _ _ c.if-lt.self.words _
    (elim c.if-lt.branch [
      | then-lt w ↦ written_low c.args.self.now.words _ c.args.field _ c.requires (search rules) (ap (λ (b : Bounds). b.words) w.self-is ∙ w.put_value.ensures)
      | else-lt w ↦ rw w.self-is (raised_none _ _ _)
    ])
    (written_high c.if-lt.self.words _ c.args.field _ c.requires (search rules) c.put_value-then-lt-2.ensures)

pub returns-else-lt-2 : goal.returns-else-lt-2
returns-else-lt-2 c =
    narrowed _ _ _ c.if-lt.self.words _
    (elim c.if-lt.branch [
      | then-lt w ↦ written_low c.args.self.now.words _ c.args.field _ c.requires (search rules) (ap (λ (b : Bounds). b.words) w.self-is ∙ w.put_value.ensures)
      | else-lt w ↦ rw w.self-is (raised_none _ _ _)
    ])
    (lowered_none _ _ _)
