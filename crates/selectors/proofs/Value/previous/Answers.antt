-- `selectors::Value::previous` meets its contract: one less in the lower word, in the upper word, or no less. Assumes nothing.
use borrow.Author.Rules.{rules}
use Rattle.selectors.proofs.ValueLaws.{previous-lower, previous_upper, previous_first}
use Rattle.selectors.proofs.Value.previous.Goals as goal

pub returns-then-self-gt0 : goal.returns-then-self-gt0
returns-then-self-gt0 c = previous-lower c.args.self (search rules)

pub returns-then-self-gt0-2 : goal.returns-then-self-gt0-2
returns-then-self-gt0-2 c = previous_upper c.args.self (search rules) (search rules)

pub returns : goal.returns
returns c = previous_first c.args.self (search rules) (search rules)
