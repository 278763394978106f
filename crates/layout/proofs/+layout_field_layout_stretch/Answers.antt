-- `layout::layout_field` and `layout::layout_stretch` meet their contracts. Assumes nothing.
use Prim.Native.Nat.{◌<◌, ◌-◌, ◌*◌, ◌+◌, ◌^◌}
use native.Mathlib.Omega.{arith}
use mathlib.Core.Path.{◌≡◌, refl, sym, ◌∙◌, ap}
use lib.ListN.{length}
use Rattle.std.specs.Prelude.{Ok}
use Rattle.std.proofs.lemmas.Result.{err_from_is_err_and}
use Rattle.std.proofs.lemmas.Bool.{eqb-true, eqb-false}
use borrow.Rule.Slice.PartMut.{same_len_mid}
use Rattle.selectors.proofs.ValueLaws.{Words, number_bound}
use Rattle.selectors.specs.Value.{number}
use Rattle.selectors.specs.Words.{values_from}
use Rattle.policy.specs.Words.{row_words}
use Rattle.layout.specs.AlikeLaws.{cuts_at}
use Rattle.layout.specs.FormLaws.{values_length}
use Rattle.layout.specs.StepsLaws.{words-next}
use Rattle.layout.specs.ListsLaws.{lists_within, branch-next}
use Rattle.layout.specs.ProgressLaws.{progress_start, over-behind, over_so_far, laid_out, laid_last, laid-field, value-form, room_for, turned, one_more}
use Rattle.layout.specs.StretchesLaws.{stretch_empty, stretch_rows, stretch_over, stretch_fits}
use Rattle.layout.proofs.+layout_field_layout_stretch.Goals as goal

pub layout_field-loop-laid-init : goal.layout_field-loop-laid-init
unfolding number
layout_field-loop-laid-init t c = record { whole = refl; few = omega arith; in_range = omega arith; progress = progress_start _ _ _ _ _ _ _ _ refl refl refl }

pub layout_field-interval_end-end-requires-clause-cuts_at : goal.layout_field-interval_end-end-requires-clause-cuts_at
layout_field-interval_end-end-requires-clause-cuts_at t c =
    let b = c.args.branch.now in
    rw c.deref.ensures.0 (cuts_at _ _ _ _ (values_length _ 0 _) c.requires.field_lt_field_count _ b.listed.of-first _ (c.cutting.ensures (lists_within _ _ _ _ _ b.listed.of-first).fits c.requires.field_lt_field_count))

pub layout_field-interval_end-end-requires-clause-cuts_at_2 : goal.layout_field-interval_end-end-requires-clause-cuts_at_2
layout_field-interval_end-end-requires-clause-cuts_at_2 t c =
    let b = c.args.branch.now in
    rw c.deref-in-loop-laid.ensures.0 (cuts_at _ _ _ _ (values_length _ 0 _) c.requires.field_lt_field_count _ b.listed.of-second _ (c.cutting-2.ensures (lists_within _ _ _ _ _ b.listed.of-second).fits c.requires.field_lt_field_count))

pub layout_field-overflow_mul-base : goal.layout_field-overflow_mul-base
layout_field-overflow_mul-base t c =
    let r = room_for _ _ _ _ _ c.requires.field_lt_field_count c.loop-laid.invariant.few c.requires.field_in_bounds c.loop-laid.invariant.whole in
    omega (arith, r.start, c.loop-laid.invariant.whole, c.well_formed.1.0.0)

pub layout_field-offset_bounds-room-base : goal.layout_field-offset_bounds-room-base
layout_field-offset_bounds-room-base t c =
    let r = room_for _ _ _ _ _ c.requires.field_lt_field_count c.loop-laid.invariant.few c.requires.field_in_bounds c.loop-laid.invariant.whole in
    omega (arith, r.start, c.loop-laid.invariant.whole, c.well_formed.1.0.1)

pub layout_field-slice_bounds-layout_stretch-count : goal.layout_field-slice_bounds-layout_stretch-count
layout_field-slice_bounds-layout_stretch-count t c =
    let r = room_for _ _ _ _ _ c.requires.field_lt_field_count c.loop-laid.invariant.few c.requires.field_in_bounds c.loop-laid.invariant.whole in
    omega (arith, r.start)

pub layout_field-slice_bounds-layout_stretch-start : goal.layout_field-slice_bounds-layout_stretch-start
layout_field-slice_bounds-layout_stretch-start t c =
    let r = room_for _ _ _ _ _ c.requires.field_lt_field_count c.loop-laid.invariant.few c.requires.field_in_bounds c.loop-laid.invariant.whole in
    omega (arith, r.start)

pub layout_field-layout_stretch-requires : goal.layout_field-layout_stretch-requires
layout_field-layout_stretch-requires t c =
    let r = room_for _ _ _ _ _ c.requires.field_lt_field_count c.loop-laid.invariant.few c.requires.field_in_bounds c.loop-laid.invariant.whole in
    (omega (arith, c.decreases, c.requires.field_lt_field_count), (c.requires.field_lt_field_count, r.behind))

pub layout_field-returns-in_err-laid : goal.layout_field-returns-in_err-laid
layout_field-returns-in_err-laid t c =
    let p = err_from_is_err_and c.from_residual.result c.from_residual.ensures.1 in
    let b = c.args.branch.now in
    let over = c.layout_stretch.ensures.over _ c.in_err-laid.was in
    rw (p.1, p.2, over.0)
    (over-behind b.first.now b.second.now b.task.now (values_from b.point.words 0 b.field) b.field c.requires.field_lt_field_count
    b.task.now.limit (number c.loop-laid.from) (omega (arith, c.loop-laid.invariant.in_range, ap number c.value_at-top.ensures)) over.1 _)

pub layout_field-place_stretch-kept-requires-clause-by_index : goal.layout_field-place_stretch-kept-requires-clause-by_index
layout_field-place_stretch-kept-requires-clause-by_index t c =
    let r = room_for _ _ _ _ _ c.requires.field_lt_field_count c.loop-laid.invariant.few c.requires.field_in_bounds c.loop-laid.invariant.whole in
    let back = same_len_mid (c.loop-laid.kept.next * row_words) (length c.loop-laid.room - c.loop-laid.kept.next * row_words) c.loop-laid.room c.layout_stretch.new.room c.layout_stretch.auto.room in
    λ k e. rw back (stretch_fits _ _ _ _ _ _ _ c.layout_stretch.ensures c.loop-laid.kept.next _ (omega (arith, r.start)) k (c.in_ok-laid.was ∙ ap Ok e))

pub layout_field-returns-then-limit-next : goal.layout_field-returns-then-limit-next
layout_field-returns-then-limit-next t c =
    let r = room_for _ _ _ _ _ c.requires.field_lt_field_count c.loop-laid.invariant.few c.requires.field_in_bounds c.loop-laid.invariant.whole in
    let placed = turned c.requires.field_lt_field_count c.interval_end-end.ensures c.loop-laid.invariant.progress r c.layout_stretch.auto.room c.in_ok-laid.was c.layout_stretch.ensures c.place_stretch-kept.ensures in
    over_so_far _ _ _ _ _ c.requires.field_lt_field_count _ _ _ _ placed (omega (arith, c.interval_end-end.ensures.within, ap number c.value_at-top.ensures)) c.if-limit-next.true _

pub layout_field-stamp-requires : goal.layout_field-stamp-requires
layout_field-stamp-requires t c =
    let r = room_for _ _ _ _ _ c.requires.field_lt_field_count c.loop-laid.invariant.few c.requires.field_in_bounds c.loop-laid.invariant.whole in
    let placed = turned c.requires.field_lt_field_count c.interval_end-end.ensures c.loop-laid.invariant.progress r c.layout_stretch.auto.room c.in_ok-laid.was c.layout_stretch.ensures c.place_stretch-kept.ensures in
    let back = same_len_mid (c.loop-laid.kept.next * row_words) (length c.loop-laid.room - c.loop-laid.kept.next * row_words) c.loop-laid.room c.layout_stretch.new.room c.layout_stretch.auto.room in
    (c.requires.field_lt_field_count, (placed.ordered, omega (arith, r.start, c.if-limit-next.false, c.place_stretch-kept.auto.room, back)))

pub layout_field-returns-then-eq : goal.layout_field-returns-then-eq
layout_field-returns-then-eq t c =
    let r = room_for _ _ _ _ _ c.requires.field_lt_field_count c.loop-laid.invariant.few c.requires.field_in_bounds c.loop-laid.invariant.whole in
    let placed = turned c.requires.field_lt_field_count c.interval_end-end.ensures c.loop-laid.invariant.progress r c.layout_stretch.auto.room c.in_ok-laid.was c.layout_stretch.ensures c.place_stretch-kept.ensures in
    let q = eqb-true (number c.interval_end-end.result) (number c.value_at-top.result) (sym c.eq.ensures ∙ c.if-eq.true) in
    laid_out _ _ _ _ _ c.requires.field_lt_field_count _ _ _ _ _ (ap number c.value_at-top.ensures) (rw q at placed) c.if-limit-next.false c.stamp.ensures

pub layout_field-loop-laid-smaller : goal.layout_field-loop-laid-smaller
layout_field-loop-laid-smaller t c =
    let v = c.value_at-top in
    let b : Words v.result = record { upper_fits = omega (arith, v.type_inv); lower_fits = omega (arith, v.type_inv) } in
    let w = number_bound v.result b in
    let g : number c.interval_end-end.result < number v.result = omega (arith, c.interval_end-end.ensures.within, eqb-false (number c.interval_end-end.result) (number v.result) (sym c.eq.ensures ∙ c.if-eq.false)) in
    let f : number c.next-from.result ≡ number c.interval_end-end.result + 1 = one_more (2 ^ 128) _ _ _ c.next-from.ensures g w in
    omega (arith, f, g, c.interval_end-end.ensures.reaches)

pub layout_field-loop-laid-preserved : goal.layout_field-loop-laid-preserved
layout_field-loop-laid-preserved t c =
    let r = room_for _ _ _ _ _ c.requires.field_lt_field_count c.loop-laid.invariant.few c.requires.field_in_bounds c.loop-laid.invariant.whole in
    let placed = turned c.requires.field_lt_field_count c.interval_end-end.ensures c.loop-laid.invariant.progress r c.layout_stretch.auto.room c.in_ok-laid.was c.layout_stretch.ensures c.place_stretch-kept.ensures in
    let back = same_len_mid (c.loop-laid.kept.next * row_words) (length c.loop-laid.room - c.loop-laid.kept.next * row_words) c.loop-laid.room c.layout_stretch.new.room c.layout_stretch.auto.room in
    let v = c.value_at-top in
    let k : Words v.result = record { upper_fits = omega (arith, v.type_inv); lower_fits = omega (arith, v.type_inv) } in
    let w = number_bound v.result k in
    let g : number c.interval_end-end.result < number v.result = omega (arith, c.interval_end-end.ensures.within, eqb-false (number c.interval_end-end.result) (number v.result) (sym c.eq.ensures ∙ c.if-eq.false)) in
    let f : number c.next-from.result ≡ number c.interval_end-end.result + 1 = one_more (2 ^ 128) _ _ _ c.next-from.ensures g w in
    record { whole = c.place_stretch-kept.auto.room ∙ back ∙ c.loop-laid.invariant.whole; few = c.if-limit-next.false; in_range = omega (arith, f, g); progress = rw f placed }

pub layout_stretch-narrow-requires : goal.layout_stretch-narrow-requires
layout_stretch-narrow-requires t c = (c.requires.field_lt_field_count, lists_within _ _ _ _ _ c.args.branch.now.listed.of-first)

pub layout_stretch-narrow-requires-2 : goal.layout_stretch-narrow-requires-2
layout_stretch-narrow-requires-2 t c = (c.requires.field_lt_field_count, lists_within _ _ _ _ _ c.args.branch.now.listed.of-second)

pub layout_stretch-invariant_of-inner : goal.layout_stretch-invariant_of-inner
layout_stretch-invariant_of-inner t c =
    record { in_range = omega arith; listed = branch-next _ _ _ _ _ _ _ _ _ _ _ c.requires.field_lt_field_count c.args.branch.now.listed c.with_value.ensures (c.deref.ensures.0 ∙ c.narrow.ensures) (c.deref-2.ensures.0 ∙ c.narrow-2.ensures) }

pub layout_stretch-leaf-requires-clause-room_fits : goal.layout_stretch-leaf-requires-clause-room_fits
layout_stretch-leaf-requires-clause-room_fits t c =
    let w = words-next c.args.branch.now.task.now.limit c.args.branch.now.field c.requires.field_lt_field_count in
    omega (arith, w, c.requires.field_in_bounds)

pub layout_stretch-returns-in_err-leaf : goal.layout_stretch-returns-in_err-leaf
layout_stretch-returns-in_err-leaf t c =
    let p = err_from_is_err_and c.from_residual.result c.from_residual.ensures.1 in
    rw (p.1, p.2)
    (stretch_over _ _ _ _ _ _ _
    (rw c.in_err-leaf.was at (laid_last _ _ c.args.branch.now.task.now _ _ _ _ c.args.branch.now.listed.sized c.requires.field_lt_field_count c.with_value.ensures _ _ _ c.if-inner-eq-FIELDS.true c.leaf.ensures)))

pub layout_stretch-returns-then-inner-eq-FIELDS : goal.layout_stretch-returns-then-inner-eq-FIELDS
layout_stretch-returns-then-inner-eq-FIELDS t c =
    stretch_rows _ _ _ _ _ _ _
    (rw c.in_ok-leaf.was at (laid_last _ _ c.args.branch.now.task.now _ _ _ _ c.args.branch.now.listed.sized c.requires.field_lt_field_count c.with_value.ensures _ _ _ c.if-inner-eq-FIELDS.true c.leaf.ensures))

pub layout_stretch-invariant_of-inner-2 : goal.layout_stretch-invariant_of-inner-2
layout_stretch-invariant_of-inner-2 t c =
    record { in_range = omega arith; listed = branch-next _ _ _ _ _ _ _ _ _ _ _ c.requires.field_lt_field_count c.args.branch.now.listed c.with_value.ensures (c.deref.ensures.0 ∙ c.narrow.ensures) (c.deref-2.ensures.0 ∙ c.narrow-2.ensures) }

pub layout_stretch-returns-then-known_alike : goal.layout_stretch-returns-then-known_alike
layout_stretch-returns-then-known_alike t c =
    stretch_empty _ _ _ _ _ _ (sym (value-form _ _ c.args.branch.now.task.now _ _ _ _ c.args.branch.now.listed.sized c.requires.field_lt_field_count c.with_value.ensures) ∙ c.known_alike.ensures c.if-known_alike.true)

pub layout_stretch-returns-in_err-layout_field : goal.layout_stretch-returns-in_err-layout_field
layout_stretch-returns-in_err-layout_field t c =
    let p = err_from_is_err_and c.from_residual-in_err-layout_field.result c.from_residual-in_err-layout_field.ensures.1 in
    rw (p.1, p.2)
    (stretch_over _ _ _ _ _ _ _
    (rw c.in_err-layout_field.was at (laid-field _ _ c.args.branch.now.task.now _ _ _ _ c.args.branch.now.listed.sized c.requires.field_lt_field_count c.with_value.ensures _ _ _ c.layout_field.ensures)))

pub layout_stretch-returns : goal.layout_stretch-returns
layout_stretch-returns t c =
    stretch_rows _ _ _ _ _ _ _
    (rw c.in_ok-layout_field.was at (laid-field _ _ c.args.branch.now.task.now _ _ _ _ c.args.branch.now.listed.sized c.requires.field_lt_field_count c.with_value.ensures _ _ _ c.layout_field.ensures))
