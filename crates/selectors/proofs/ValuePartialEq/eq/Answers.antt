-- `selectors::Value`'s `eq` meets its contract: two values are the same where both words are. Assumes nothing.
use mathlib.Core.Path.{sym}
use borrow.Author.Rules.{rules}
use Rattle.selectors.proofs.ValueLaws.{same-lower, same_upper}
use Rattle.selectors.proofs.ValuePartialEq.eq.Goals as goal

pub returns-then-own-other : goal.returns-then-own-other
returns-then-own-other c = same-lower _ _ c.if-own-other.true

pub returns : goal.returns
returns c =
    let a = c.args in
    sym (same_upper a.self.now a.other.now (search rules) (search rules) c.if-own-other.false)
