-- `decorrelate::normal_form` meets its contract: a normal form is the difference from the policy without rows. Assumes nothing.
use native.Mathlib.Omega.{arith}
use borrow.Author.Rules.{rules}
use Rattle.policy.specs.Words.{row_limit}
use Rattle.decorrelate.specs.FormLaws.{form_outcome}
use Rattle.decorrelate.proofs.normal_form.Goals as goal

pub returns : goal.returns
returns c =
    let a = c.args in
    let fits = c.slice_known-2-1.given in
    form_outcome row_limit a.direction a.edition a.rows.now _ a.room.now _ _ (λ i. omega (arith, fits i)) (search rules) c.layout.ensures c.highest-top.ensures
