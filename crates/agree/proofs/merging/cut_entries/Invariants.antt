-- `agree::merging::cut_entries` meets its contract. The loop's invariant: the entries so far are those of the rows so far. Assumes nothing.
use Rattle.std.proofs.Common.{◌≤◌, length}
use Rattle.selectors.specs.Value.{number}
use Rattle.agree.specs.EntriesLaws.{Cut}
use Rattle.agree.specs.Sides.{range_of}
use Rattle.agree.proofs.merging.cut_entries.Given as goal

abbrev pub invariant-loop-row : goal.invariant-loop-row
invariant-loop-row l =
    (length l.entries.items ≤ l.row-index)
    × Cut l.list.rows.now (λ i. range_of l.list.rows.now i l.field) (number l.one) (number l.other) l.list.places.now l.row-index l.entries.items
