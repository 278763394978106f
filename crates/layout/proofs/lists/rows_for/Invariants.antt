-- `layout::lists::rows_for` meets its contract. The loop's invariant: the list has those of the rows before `row` that are for the direction. Assumes
-- nothing.
use mathlib.Core.Path.{◌≡◌}
use mathlib.Core.List.{[]}
use Rattle.std.specs.Prelude.{filter}
use Rattle.layout.specs.Decode.{active}
use Rattle.layout.specs.Lists.{up_from}
use Rattle.layout.proofs.lists.rows_for.Given as goal

abbrev pub invariant-loop-row : goal.invariant-loop-row
invariant-loop-row l = l.list.items ≡ filter (λ i. active l.direction l.rows i 0 []) (up_from 0 l.row)
