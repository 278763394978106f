-- `policy_print::print` meets its contract: the first run gives the length, the second stores the text. Assumes nothing.
use Rattle.std.proofs.Common.{sym, ◌∙◌}
use Rattle.policy.specs.Words.{policy_rows}
use Rattle.policy_print.specs.Printing.{printed}
use Rattle.policy_print.specs.PrintingLaws.{printed_fits}
use Rattle.policy_print.proofs.print.Goals as goal

pub returns-clause-out_after : goal.returns-clause-out_after
returns-clause-out_after c =
    let a = c.args in
    let q = printed_fits a.out.now (printed a.edition a.direction (policy_rows a.rows.now)) _ c.store-n.ensures.all c.if-out-n.false in
    c.store.ensures.bytes ∙ sym q.1
