-- `normal_form_file::normalise` meets its contract: the rows of a file that is taken are laid out and printed. Assumes nothing.
use Rattle.policy.specs.Words.{row_limit}
use Rattle.policy_parse.specs.TakenLaws.{taken}
use Rattle.normal_form_file.proofs.normalise.Goals as goal

pub returns : goal.returns
returns c =
    let p = c.parse_policy.ensures in
    let file = taken row_limit c.args.bytes.now _ _ _ p.value p.rows_after c.in_ok-parsed.parsed c.in_ok-parsed.was in
    let done = rw c.first_rows-rows.ensures at c.print_form.ensures in
    rw file.is done
