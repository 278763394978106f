-- `sad::best_pair` meets its contract. The loop's invariant: the best of all pairs is the best of `best` and the pairs of the places from `place` on.
-- Assumes nothing.
use Rattle.selectors.specs.Words.{values_of}
use Rattle.sad.specs.PairsLaws.{BestSoFar}
use Rattle.sad.proofs.best_pair.Given as goal

abbrev pub invariant-loop-place : goal.invariant-loop-place
invariant-loop-place l = BestSoFar l.table l.number (values_of l.values) l.place l.best
