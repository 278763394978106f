-- `agree::agree` meets its contract. The two lists are the sides of entries, which agree. Assumes nothing.
use Rattle.agree.specs.EntriesLaws.{alike_of}
use Rattle.agree.proofs.agree.Goals as goal

pub returns : goal.returns
returns c = λ e.
    let a = c.in-Some.ensures in
    let b = c.in-Some-of.ensures in
    alike_of _ _ _ _ _ _ _ (rw (a.0, a.1, b.0, b.1) at c.merge.ensures) (rw c.deref.ensures.0 at (c.agreed.ensures e))
