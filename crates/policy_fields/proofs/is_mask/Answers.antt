-- `policy_fields::is_mask` meets its contract. The loop's invariant: no mask with fewer zeros was met. Assumes nothing.
use Rattle.std.proofs.Common.{◌≡◌, ℕ, ◌<◌, ◌≤◌, ◌*◌, ◌%◌, ◌^◌, refl, sym, arith, lit<}
use Rattle.std.proofs.Math.Nat.{pow-le-pow_right}
use Rattle.policy_text.specs.Edition1.{mask_below}
use Rattle.policy_text.proofs.FormatLaws.{mask-found, mask_missed}
use Rattle.policy_fields.proofs.is_mask.Goals as goal

-- What 1 shifted by the zeros is.
power : (z : ℕ) → z < 33 → 1 * 2 ^ z % 2 ^ 64 ≡ 2 ^ z
power z h = let p : 2 ^ z ≤ 4294967296 = pow-le-pow_right (lit< tt) {i = z} {j = 32} (omega arith) in omega arith

pub loop-zeros-init : goal.loop-zeros-init
unfolding mask_below
loop-zeros-init c = refl

pub returns-then-m-zeros : goal.returns-then-m-zeros
returns-then-m-zeros c =
    let l = c.loop-zeros in
    sym (mask-found c.args.m l.zeros 33 (omega arith) (rw (power l.zeros (omega arith)) at c.if-m-zeros.true))

pub loop-zeros-preserved : goal.loop-zeros-preserved
loop-zeros-preserved c =
    let l = c.loop-zeros in
    mask_missed c.args.m l.zeros (rw (power l.zeros (omega arith)) at c.if-m-zeros.false) l.invariant
