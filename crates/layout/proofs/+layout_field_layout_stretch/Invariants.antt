-- `layout::layout_field` and `layout::layout_stretch`: the measure falls with the fields left; a stretch has one less than its field. The loop's
-- invariant: the rows so far are the loop's progress at `from` (specs/ProgressLaws.antt), within the limit. Its measure is what is left of the field.
use Rattle.std.proofs.Common.{◌-◌, ◌*◌, ◌≤◌, ◌≡◌, length}
use Rattle.selectors.specs.Value.{number}
use Rattle.selectors.specs.Words.{values_from}
use Rattle.layout.specs.ProgressLaws.{Progress}
use Rattle.layout.proofs.+layout_field_layout_stretch.Given as goal

abbrev pub decreases-layout_field : goal.decreases-layout_field
decreases-layout_field l = 11 - 2 * l.branch.now.field

abbrev pub decreases-layout_stretch : goal.decreases-layout_stretch
decreases-layout_stretch l = 10 - 2 * l.branch.now.field

abbrev pub invariant-layout_field-loop-laid : goal.invariant-layout_field-loop-laid
invariant-layout_field-loop-laid l = record {
  whole : length l.room ≡ length l.fn.room;
  few : l.kept.next ≤ l.limit;
  in_range : number l.from ≤ number l.top;
  progress : Progress l.branch.first.now l.branch.second.now l.branch.task.now (values_from l.branch.point.words 0 l.branch.field) l.branch.field l.room l.kept (number l.from);
}

abbrev pub decreases-layout_field-loop-laid : goal.decreases-layout_field-loop-laid
decreases-layout_field-loop-laid l = number l.top - number l.from
