-- `agree::sides::Entries::agreed` meets its contract. The loop's invariant: none of the entries before `row` that are on one side only makes a difference. Assumes nothing.
use Rattle.std.proofs.Common.{ℕ, ◌<◌}
use Rattle.agree.specs.Sides.{sides_in, SameSides}
use Rattle.agree.proofs.sides.Entries.agreed.Given as goal

abbrev pub invariant-loop-row : goal.invariant-loop-row
invariant-loop-row l = (d : ℕ) → d < l.row → SameSides (sides_in l.self) d l.bounds.words
