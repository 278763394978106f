-- `agree::same_behind` meets its contract. The rows behind the two values are the sides of entries, which agree. Assumes nothing.
use Rattle.std.proofs.Common.{sym, ◌∙◌, eqb-true}
use Rattle.agree.specs.EntriesLaws.{alike_of, alike_empty}
use Rattle.agree.proofs.same_behind.Goals as goal

pub returns-then-is_empty : goal.returns-then-is_empty
returns-then-is_empty c = λ e. alike_empty _ _ _ _ _ _ (eqb-true _ _ (sym c.is_empty.ensures ∙ c.if-is_empty.true))

pub returns : goal.returns
returns c = λ e. let a = c.in-Some.ensures in alike_of _ _ _ _ _ _ _ (rw (a.0, a.1) at c.cut_entries.ensures) (rw c.deref.ensures.0 at (c.agreed.ensures e))
