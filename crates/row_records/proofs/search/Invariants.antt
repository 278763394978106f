-- `row_records::search` meets its contract: no record before the index matches, so the search from it on gives the answer. Assumes nothing.
use Rattle.std.proofs.Common.{◌≡◌, drop}
use Rattle.selectors.specs.Value.{combination}
use Rattle.row_records.specs.SearchLaws.{searched}
use Rattle.row_records.proofs.search.Given as goal

abbrev pub invariant-loop-row : goal.invariant-loop-row
invariant-loop-row l =
    searched l.direction (combination l.selectors) l.rows ≡ searched l.direction (combination l.selectors) (drop l.row-index l.rows)
