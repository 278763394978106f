-- `layout::stretches::joined` meets its contract: where both lists agree behind the two values, so do the layouts. Assumes nothing.
use Prim.Native.Nat.{◌<◌}
use native.Mathlib.Omega.{arith}
use mathlib.Core.Path.{sym, ◌∙◌}
use Rattle.std.proofs.lemmas.Bool.{eqb-false}
use Rattle.selectors.specs.Value.{number}
use Rattle.layout.specs.AlikeLaws.{alike_joined}
use Rattle.layout.specs.FormLaws.{values_length}
use Rattle.layout.specs.Stretches.{Joins}
use Rattle.layout.proofs.stretches.joined.Goals as goal

pub returns-then-same_behind : goal.returns-then-same_behind
unfolding Joins number
returns-then-same_behind c e =
    let b = c.args.branch.now in
    let few = c.all_listed.ensures c.if-not-all_listed.false in
    let v = c.previous-below.ensures in
    let apart = eqb-false (number c.args.from) 0 (sym c.eq.ensures ∙ c.if-eq.false) in
    let more : 0 < number c.args.from = omega arith in
    (more, rw v at (alike_joined _ _ b.task.now _ _ (values_length _ 0 _) _ c.box_of-bounds.ensures few.0 few.1 _ _ b.listed.of-first b.listed.of-second (omega (arith, c.requires)) _ _ (c.same_behind.ensures c.if-same_behind.true) (c.same_behind-then-same_behind.ensures e)))
