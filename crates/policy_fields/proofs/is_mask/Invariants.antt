-- `policy_fields::is_mask` meets its contract. The loop's invariant: no mask with fewer zeros was met. Assumes nothing.
use Rattle.std.proofs.Common.{◌≡◌, false}
use Rattle.policy_text.specs.Edition1.{mask_below}
use Rattle.policy_fields.proofs.is_mask.Given as goal

abbrev pub invariant-loop-zeros : goal.invariant-loop-zeros
invariant-loop-zeros l = mask_below l.zeros l.m ≡ false
