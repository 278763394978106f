-- `row_records::search` meets its contract: the record at hand is the match, or is passed over, or there is none. Assumes nothing.
use Rattle.std.proofs.Common.{sym, ◌∙◌}
use Rattle.selectors.specs.Value.{combination}
use Rattle.row_records.specs.SearchLaws.{match-found, match_passed, match_ended}
use Rattle.row_records.proofs.search.Goals as goal

pub returns-then-row_matches : goal.returns-then-row_matches
returns-then-row_matches c =
    c.from.ensures
    ∙ match-found c.args.direction (combination c.args.selectors) c.args.rows.now c.loop-row.row-index c.loop-row.invariant c.loop-row-test.true (sym c.row_matches.ensures ∙ c.if-row_matches.true)

pub loop-row-preserved : goal.loop-row-preserved
loop-row-preserved c =
    match_passed c.args.direction (combination c.args.selectors) c.args.rows.now c.loop-row.row-index c.loop-row.invariant c.loop-row-test.true (sym c.row_matches.ensures ∙ c.if-row_matches.false)

pub returns : goal.returns
returns c = match_ended c.args.direction (combination c.args.selectors) c.args.rows.now c.loop-row.row-index c.loop-row.invariant c.loop-row-test.false
