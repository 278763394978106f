-- `cover::parts::common` meets its contract. The loop's invariant: all that the box and the row have in common is still in the box `shared`. Assumes nothing.
use Rattle.cover.specs.Boxes.{row_of, ranges_word, table_of, Common}
use Rattle.cover.proofs.parts.common.Given as goal

abbrev pub invariant-loop-f : goal.invariant-loop-f
invariant-loop-f l = Common (table_of l.policies.first.now l.policies.second.now l.code) (ranges_word (row_of l.code)) l.field l.bounds.words l.shared.words
