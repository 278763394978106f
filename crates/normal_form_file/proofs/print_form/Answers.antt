-- `normal_form_file::print_form` meets its contract: the words of the normal form are printed. Assumes nothing.
use Rattle.std.proofs.Common.{arith, sym, ◌∙◌}
use Rattle.std.proofs.lemmas.Result.{err_from_is_err_and}
use Rattle.policy.specs.Words.{policy_rows, row_limit}
use Rattle.policy_text.specs.Editions.{rules}
use Rattle.decorrelate.specs.RoomLaws.{held}
use Rattle.normal_form_file.specs.StepsLaws.{print_done}
use Rattle.normal_form_file.proofs.print_form.Goals as goal

pub returns-in_err-bytes : goal.returns-in_err-bytes
returns-in_err-bytes c =
    let a = c.args in
    let f = c.form_of.ensures in
    let rs = rules a.edition (policy_rows a.policy.now) in
    let own = held row_limit row_limit (omega arith) a.direction rs c.in-Ok.count _ _ (sym f.value ∙ c.in-Ok.is) f.form_after in
    let e = c.print.ensures in
    let done = print_done row_limit a.direction rs a.out.now (omega (arith, own.few, own.rows)) _ (c.first_rows-rows.ensures ∙ own.front) _ _ e.value e.out_after in
    let p = err_from_is_err_and c.from_residual.result c.from_residual.ensures.1 in
    record { value = rw (p.1, p.2) (rw c.in_err-bytes.was at done.0); out_after = done.1 }

pub returns : goal.returns
returns c =
    let a = c.args in
    let f = c.form_of.ensures in
    let rs = rules a.edition (policy_rows a.policy.now) in
    let own = held row_limit row_limit (omega arith) a.direction rs c.in-Ok.count _ _ (sym f.value ∙ c.in-Ok.is) f.form_after in
    let e = c.print.ensures in
    let done = print_done row_limit a.direction rs a.out.now (omega (arith, own.few, own.rows)) _ (c.first_rows-rows.ensures ∙ own.front) _ _ e.value e.out_after in
    record { value = rw c.in_ok-bytes.was at done.0; out_after = done.1 }
