-- `layout::intervals::end_among` meets its contract: the rows that may part values, or all rows. Assumes nothing.
use native.Mathlib.Omega.{arith}
use Rattle.layout.specs.FormLaws.{search-among, values_length}
use Rattle.layout.proofs.intervals.end_among.Goals as goal

pub end_listed-requires : goal.end_listed-requires
end_listed-requires c = (c.requires.field_lt_field_count, c.requires.cuts_at.within)

pub returns-then-rows-le-LIMIT : goal.returns-then-rows-le-LIMIT
returns-then-rows-le-LIMIT c =
    let e = c.end_listed.ensures in
    record { reaches = e.reaches; within = e.within; alike = c.requires.cuts_at.alike (omega arith) _ _ e.alike }

pub returns : goal.returns
returns c =
    let e = c.end_of_all.ensures in
    record { reaches = e.reaches; within = e.within; alike = search-among _ _ _ _ (values_length _ 0 _) c.requires.field_lt_field_count _ _ e.alike }
