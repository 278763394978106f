-- `policy_parse::parse` meets its contract: the rows of a file that is taken are written if they fit. Assumes nothing.
use Rattle.std.proofs.Common.{sym, ◌∙◌, arith}
use Rattle.policy_parse.specs.FileLaws.{parsed_fits, of_edition_1}
use Rattle.policy_parse.proofs.parse.Goals as goal

pub returns-clause-rows_after : goal.returns-clause-rows_after
returns-clause-rows_after c =
    let a = c.args in
    let h = c.in_ok-policy.ensures in
    let q = parsed_fits a.limit a.bytes.now h.0.0 (of_edition_1 h.0.1.0) a.rows.now c.in_ok-policy.policy.count h.0.1.1 (omega arith) in
    c.put_rows.ensures ∙ rw h.1 (sym q.1)
