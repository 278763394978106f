-- `agree::row_list::RowList::of` meets its contract. The loop's invariant: the places so far are those of rows. Assumes nothing.
use Rattle.std.proofs.Common.{ℕ, ◌<◌, ◌/◌, length, get_or}
use Rattle.policy.specs.Words.{row_words}
use Rattle.agree.proofs.row_list.RowList.of.Given as goal

abbrev pub invariant-loop-place : goal.invariant-loop-place
invariant-loop-place l = (k : ℕ) → k < l.place-index → get_or l.places k 0 < length l.rows / row_words
