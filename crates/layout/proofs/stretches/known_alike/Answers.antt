-- `layout::stretches::known_alike` meets its contract: where the lists agree, the layout has no rows. Assumes nothing.
use Rattle.layout.specs.AlikeLaws.{alike_empty}
use Rattle.layout.specs.FormLaws.{values_length}
use Rattle.layout.proofs.stretches.known_alike.Goals as goal

pub returns : goal.returns
returns c e =
    let b = c.args.branch.now in
    let few = c.all_listed.ensures c.if-not-all_listed.false in
    alike_empty _ _ b.task.now _ _ (values_length _ 0 _) _ c.box_of-bounds.ensures few.0 few.1 _ _ b.listed.of-first b.listed.of-second b.in_range (c.agree.ensures e)
