-- `selectors::Value::order` meets its contract: the upper words decide, and the lower ones where those are the same. Assumes nothing.
use mathlib.Core.Path.{◌∙◌}
use borrow.Author.Rules.{rules}
use Rattle.selectors.proofs.ValueLaws.{cmp-lower, cmp_upper}
use Rattle.selectors.proofs.Value.order.Goals as goal

pub returns-then-self-other : goal.returns-then-self-other
returns-then-self-other c = c.cmp.ensures ∙ cmp-lower _ _ c.if-self-other.true

pub returns : goal.returns
returns c =
    let a = c.args in
    c.cmp-2.ensures ∙ cmp_upper a.self a.other (search rules) (search rules) c.if-self-other.false
