-- `acceptance::load` meets its contract: both normal forms are within the limit. Assumes nothing.
use Rattle.std.proofs.Common.{arith, sym, ◌∙◌}
use Rattle.selectors.specs.declared.Direction.TheVariants.{Out, In}
use Rattle.policy.specs.Words.{policy_rows, row_limit}
use Rattle.policy_text.specs.Editions.{rules}
use Rattle.decorrelate.specs.RoomLaws.{held}
use Rattle.acceptance.proofs.StepsLaws.{accepted}
use Rattle.acceptance.proofs.load.Goals as goal

pub returns : goal.returns
returns c =
    let a = c.args in
    let f = c.form_of.ensures in
    let g = c.form_of-2.ensures in
    let rs = rules a.edition (policy_rows a.policy.now) in
    let outbound = held row_limit row_limit (omega arith) Out rs c.in-Ok.out_count _ _ (sym f.value ∙ c.in-Ok.is) f.form_after in
    let inbound = held row_limit row_limit (omega arith) In rs c.in-Ok-form_of.in_count _ _ (sym g.value ∙ c.in-Ok-form_of.is) g.form_after in
    let p = accepted row_limit row_limit a.caches.now a.words.now rs _ _ _ _ outbound inbound in
    record { value = p.0; words_after = c.write.ensures ∙ p.1; caches_after = c.empty.ensures ∙ p.2 }
