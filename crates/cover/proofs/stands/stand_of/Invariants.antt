-- `cover::stands::stand_of` meets its contract. The loop's invariant: the row is not outside of the box so far, and holds the box's values in the fields from `field` on and before `f` if it is said to cover it. Assumes nothing.
use Rattle.std.proofs.Common.{◌≡◌, ◌≢◌}
use Rattle.cover.specs.Boxes.{row_of, ranges_word, table_of}
use Rattle.cover.specs.BoxLaws.{CoversTo}
use Rattle.cover.specs.declared.standing.Stand.TheVariants.{Outside, Covering}
use Rattle.cover.proofs.stands.stand_of.Given as goal

abbrev pub invariant-loop-f : goal.invariant-loop-f
invariant-loop-f l =
    (l.s ≢ Outside) × (l.s ≡ Covering → CoversTo (table_of l.policies.first.now l.policies.second.now l.code) (ranges_word (row_of l.code)) l.field l.bounds.words l.f)
