-- `acceptance::write` meets its contract: each room is copied to its place. Assumes nothing.
use Rattle.std.proofs.Common.{refl, ap, ◌∙◌, rules}
use mathlib.Core.List.{List}
use Prim.Native.Nat.{ℕ}
use lib.Seq.{paste}
use Rattle.std.proofs.lemmas.Slice.{put_mid-paste}
use Rattle.selectors.specs.declared.Direction.TheVariants.{In}
use Rattle.policy.specs.Words.{policy_words, row_limit}
use Rattle.spd.specs.Words.{rows_at}
use Rattle.acceptance.proofs.StoreLaws.{held-written}
use Rattle.acceptance.proofs.write.Goals as goal

pub returns : goal.returns
returns c =
    let a = c.args in
    put_mid-paste (rows_at row_limit In) policy_words _ _ a.inbound.now policy_words c.copy_from_slice-2.ensures.after refl (search rules)
    ∙ ap (λ (t : List ℕ). paste t (rows_at row_limit In) a.inbound.now policy_words)
    (put_mid-paste 3 policy_words _ _ a.outbound.now policy_words c.copy_from_slice.ensures.after refl (search rules))
    ∙ held-written row_limit a.words.now a.address a.out_count a.in_count a.outbound.now a.inbound.now (search rules) (search rules) (search rules)
