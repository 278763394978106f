-- `agree::merging::same_row` meets its contract. The words from the action on are the same. Assumes nothing.
use Rattle.std.proofs.Common.{sym, ◌∙◌}
use Rattle.std.proofs.lemmas.Slice.Eq.{bytes_eq-Decides}
use Rattle.agree.specs.EntriesLaws.{row_equal}
use Rattle.agree.proofs.merging.same_row.Goals as goal

pub returns : goal.returns
returns c = λ e. row_equal _ _ _ _ (sym c.row.ensures ∙ (bytes_eq-Decides _ _).0 (sym c.eq.ensures ∙ e) ∙ c.row-2.ensures)
