-- `words::all_hold` meets its contract. The loop's invariant: the ranges hold the values if those from the field f on do.
-- Assumes nothing.
use Prim.Native.Nat.{◌-◌}
use mathlib.Core.Path.{◌≡◌}
use Rattle.selectors.specs.Range.{holds}
use Rattle.selectors.specs.Words.{values_from, ranges_from}
use Rattle.selectors.proofs.words.all_hold.Given as goal

abbrev pub invariant-loop-f : goal.invariant-loop-f
invariant-loop-f l =
    holds (ranges_from l.words l.at 0 l.fields) (values_from l.values 0 l.fields)
    ≡ holds (ranges_from l.words l.at l.f (l.fields - l.f)) (values_from l.values l.f (l.fields - l.f))
