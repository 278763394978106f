-- `layout::layout` meets its contract: the room is measured, and the first field laid out unless the policies are known to agree. Assumes
-- nothing.
use native.Mathlib.Omega.{arith}
use mathlib.Core.Path.{refl, ◌∙◌}
use Rattle.layout.specs.LaidLaws.{all_words, no_room, laid_all}
use Rattle.layout.specs.ListsLaws.{branch_start}
use Rattle.layout.specs.StretchesLaws.{laid_empty}
use Rattle.layout.proofs.layout.Goals as goal

pub returns-then-room-limit : goal.returns-then-room-limit
returns-then-room-limit c = no_room _ _ c.args.room.now (omega arith)

pub invariant_of-branch : goal.invariant_of-branch
invariant_of-branch c = record {
  in_range = omega arith;
  listed = branch_start _ _ _ _ _ _ refl (c.deref.ensures.0 ∙ c.rows_for.ensures) (c.deref-2.ensures.0 ∙ c.rows_for-2.ensures);
}

pub returns-then-known_alike : goal.returns-then-known_alike
returns-then-known_alike c =
    let a = c.args in
    laid_all _ _ (record { direction = a.direction; highest = a.highest; limit = a.limit }) _ a.room.now _ _ (omega arith) (laid_empty _ _ _ _ _ (c.known_alike.ensures c.if-known_alike.true))

pub layout_field-requires-clause-field_in_bounds : goal.layout_field-requires-clause-field_in_bounds
layout_field-requires-clause-field_in_bounds c = rw (all_words c.args.limit) (omega arith)

pub returns : goal.returns
returns c =
    let a = c.args in
    laid_all _ _ (record { direction = a.direction; highest = a.highest; limit = a.limit }) _ a.room.now _ _ (omega arith) c.layout_field.ensures
