-- `agree::sides::Entries::after` meets its contract. The entry hides all behind it, or the next are looked at. Assumes nothing.
use Rattle.std.proofs.Common.{add-one}
use Rattle.agree.specs.SidesLaws.{peace-behind}
use Rattle.agree.proofs.sides.Entries.after.Goals as goal

pub returns-then-cover : goal.returns-then-cover
returns-then-cover c = peace-behind _ _ _ _ _ _ (cc) (c.cover.ensures c.if-cover.true)

pub returns : goal.returns
returns c = rw add-one at c.conflict.ensures
