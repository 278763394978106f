-- `layout::lists::rows_for` meets its contract. The loop's invariant: the list has those of the rows before `row` that are for the direction. Assumes
-- nothing.
use native.Mathlib.Omega.{arith}
use mathlib.Core.Path.{ap, refl, sym, ◌∙◌}
use mathlib.Core.List.{[]}
use mathlib.Core.Logic.{inl, inr}
use lib.ListN.{length}
use Rattle.std.specs.Prelude.{ℕ}
use Rattle.selectors.specs.Words.{values_from}
use Rattle.layout.specs.Decode.{active}
use Rattle.layout.specs.Lists.{up_from}
use Rattle.layout.specs.ListsLaws.{filter_fits, up_from-length, rows_next}
use Rattle.layout.proofs.lists.rows_for.Goals as goal
use Rattle.layout.proofs.lists.rows_for.Goals.{then-active, else-active}

pub loop-row-init : goal.loop-row-init
unfolding up_from
loop-row-init c = c.clear.ensures

pub push-requires : goal.push-requires
push-requires c =
    let l = c.loop-row in
    let kept = filter_fits (λ (i : ℕ). active c.args.direction c.args.rows.now i 0 []) (up_from 0 l.row) in
    omega (arith, ap length l.invariant, kept, up_from-length 0 l.row, c.min-listed.ensures)

pub loop-row-preserved : goal.loop-row-preserved
unfolding values_from
loop-row-preserved c =
    rows_next _ c.loop-row.row _ _ c.loop-row.invariant
    (elim c.if-active.branch [ then-active w ↦ inl (sym c.active.ensures ∙ w.if-active.true, rw w.list-is w.push.ensures.items) | else-active w ↦ inr (sym c.active.ensures ∙ w.if-active.false, rw w.list-is refl) ])
