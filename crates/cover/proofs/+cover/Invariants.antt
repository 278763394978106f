-- `cover::+cover` meets its contract. The measure is the depth. The loop's invariant: what no listed row holds in the box is in the rest; no more parts are left than there were. Its measure is the parts left. Assumes nothing.
use Rattle.std.proofs.Common.{◌≤◌}
use Rattle.cover.specs.BoxLaws.{Rest}
use Rattle.cover.proofs.+cover.Given as goal

abbrev pub decreases-cover : goal.decreases-cover
decreases-cover l = l.depth

abbrev pub invariant-loop-left : goal.invariant-loop-left
invariant-loop-left l =
    (l.left ≤ l.initial.left) × Rest l.policies.first.now l.policies.second.now l.list l.field l.bounds.words l.rest.words

abbrev pub decreases-loop-left : goal.decreases-loop-left
decreases-loop-left l = l.left
