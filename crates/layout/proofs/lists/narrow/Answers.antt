-- `layout::lists::narrow` meets its contract. The loop's invariant: the list has those of the rows so far whose ranges hold the value. Assumes nothing.
use native.Mathlib.Omega.{arith}
use mathlib.Core.Path.{ap}
use lib.ListN.{length, length-take}
use Rattle.std.specs.Prelude.{ℕ, take}
use Rattle.selectors.specs.Range.{contains}
use Rattle.selectors.specs.Value.{number}
use Rattle.agree.specs.Sides.{range_of}
use Rattle.layout.specs.ListsLaws.{filter_fits}
use Rattle.layout.proofs.lists.narrow.Goals as goal

pub push-requires : goal.push-requires
push-requires c =
    let l = c.loop-row in
    let kept = filter_fits (λ (r : ℕ). contains (range_of c.args.rows.now r c.args.field) (number c.args.value)) (take l.row-index c.args.old.now) in
    omega (arith, ap length l.invariant, kept, length-take l.row-index c.args.old.now, c.requires.1.fits)
