-- `agree::sides::Entries::harmless` meets its contract. No conflict is found, or entries before hide the row, or none is seen. Assumes nothing.
use Rattle.std.proofs.Common.{arith}
use Rattle.agree.specs.SidesLaws.{peace_then, hidden_peace, harmless_own}
use Rattle.agree.proofs.sides.Entries.harmless.Goals as goal

pub returns-in_default-clause-harmless : goal.returns-in_default-clause-harmless
returns-in_default-clause-harmless c = λ _. harmless_own _ _ _ _ _ c.common-own.ensures _ _ (omega arith) c.in_default.ensures

pub returns-then-hidden-clause-harmless : goal.returns-then-hidden-clause-harmless
returns-then-hidden-clause-harmless c = λ _. harmless_own _ _ _ _ _ c.common-own.ensures _ _ (omega arith) (hidden_peace _ _ _ _ (c.hidden.ensures.hidden c.if-hidden.true) _)

pub returns-else-hidden-clause-harmless : goal.returns-else-hidden-clause-harmless
returns-else-hidden-clause-harmless c = λ e. harmless_own _ _ _ _ _ c.common-own.ensures _ _ (omega arith) (peace_then _ _ _ _ _ _ c.in-Some.ensures.1.1 _ (c.conflicts_hidden.ensures.peace e))
