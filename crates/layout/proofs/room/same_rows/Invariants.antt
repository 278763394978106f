-- `layout::room::same_rows` meets its contract. The loop's invariant: the rows are the same if those from i on are. Assumes nothing.
use Prim.Native.Nat.{◌-◌, ◌+◌}
use mathlib.Core.Path.{◌≡◌}
use mathlib.Core.Logic.{◌↔◌}
use Rattle.selectors.specs.Words.{field_count}
use Rattle.layout.specs.Decode.{part_rows}
use Rattle.layout.proofs.room.same_rows.Given as goal

abbrev pub invariant-loop-i : goal.invariant-loop-i
invariant-loop-i l =
    (part_rows l.field (field_count - l.field) l.room l.a l.count ≡ part_rows l.field (field_count - l.field) l.room l.b l.count)
    ↔ (part_rows l.field (field_count - l.field) l.room (l.a + l.i) (l.count - l.i) ≡ part_rows l.field (field_count - l.field) l.room (l.b + l.i) (l.count - l.i))
