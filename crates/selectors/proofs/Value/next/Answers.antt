-- `selectors::Value::next` meets its contract: one more in the lower word, in the upper word, or no more. Assumes nothing.
use borrow.Author.Rules.{rules}
use Rattle.selectors.proofs.ValueLaws.{next-lower, next_upper, next_last}
use Rattle.selectors.proofs.Value.next.Goals as goal

pub returns-then-self-lt-LAST : goal.returns-then-self-lt-LAST
returns-then-self-lt-LAST c = next-lower c.args.self (search rules) (search rules)

pub returns-then-self-lt-LAST-2 : goal.returns-then-self-lt-LAST-2
returns-then-self-lt-LAST-2 c = next_upper c.args.self (search rules) (search rules) (search rules)

pub returns : goal.returns
returns c = next_last c.args.self (search rules) (search rules) (search rules)
