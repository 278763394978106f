-- `policy_fields::masked` meets its contract: by the definition's tests, in its order. Assumes nothing.
use Rattle.std.proofs.Common.{◌≡◌, true, ◌∙◌, rules}
use Rattle.selectors.specs.Range.{address_size}
use Rattle.selectors.specs.Ranges.{address_of}
use Rattle.policy_text.specs.Edition1.{is_mask}
use Rattle.policy_fields.specs.AnswerLaws.{new_small}
use Rattle.policy_fields.proofs.masked.Goals as goal

pub returns : goal.returns
returns c =
    let m : is_mask c.args.mask ≡ true = search rules in
    rw (m, c.if-address-size-ne0.false) (c.new.ensures ∙ rw (c.small.ensures, c.small-2.ensures) (new_small address_size address_of _ _))
