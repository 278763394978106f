-- `agree::merging::merge` meets its contract. The loop's invariant: the entries so far are those of the first i and j rows of the lists. Assumes nothing.
use Rattle.std.proofs.Common.{◌+◌, ◌-◌, ◌≤◌, length, take}
use Rattle.agree.specs.Sides.{SideRows}
use Rattle.agree.proofs.merging.merge.Given as goal

abbrev pub invariant-loop-i : goal.invariant-loop-i
invariant-loop-i l =
    (l.i ≤ length l.first.places.now)
    × ((l.j ≤ length l.second.places.now) × ((length l.entries.items ≤ l.i + l.j) × SideRows l.first.rows.now l.second.rows.now (take l.i l.first.places.now) (take l.j l.second.places.now) l.entries.items))

abbrev pub decreases-loop-i : goal.decreases-loop-i
decreases-loop-i l = length l.first.places.now + length l.second.places.now - (l.i + l.j)
