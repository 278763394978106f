-- `layout::intervals::interval_end` meets its contract: one policy after the other. Assumes nothing.
use Rattle.layout.specs.StepsLaws.{ends_both}
use Rattle.layout.proofs.intervals.interval_end.Goals as goal

pub end_among-requires : goal.end_among-requires
end_among-requires c = record { field_lt_field_count = c.requires.field_lt_field_count; cuts_at = c.requires.cuts_at_2 }

pub returns : goal.returns
returns c = ends_both _ _ _ _ _ _ _ _ c.end_among-last.ensures c.end_among.ensures
