-- `agree::sides::Entries::step` meets its contract. By the tests of the entry. Assumes nothing.
use Rattle.std.proofs.Common.{sym, ◌∙◌}
use Rattle.agree.specs.SidesLaws.{passed_off, passed_same, passed_apart, ended}
use Rattle.agree.proofs.sides.Entries.step.Goals as goal

pub returns-then-not-on-clause-past : goal.returns-then-not-on-clause-past
returns-then-not-on-clause-past c = λ _. passed_off _ _ _ _ _ (rw c.other.ensures at (sym c.on.ensures ∙ c.if-not-on.true))

pub returns-then-cover-clause-end : goal.returns-then-cover-clause-end
returns-then-cover-clause-end c = λ _. ended _ _ _ _ _ (rw c.other.ensures at (sym c.on.ensures ∙ c.if-not-on.false)) (c.cover.ensures c.if-cover.true) (sym c.action.ensures ∙ c.if-action.true ∙ c.requires)

pub returns-then-action-clause-past : goal.returns-then-action-clause-past
returns-then-action-clause-past c = λ _. passed_same _ _ _ _ _ (sym c.action.ensures ∙ c.if-action.true ∙ c.requires)

pub returns-then-apart-clause-past : goal.returns-then-apart-clause-past
returns-then-apart-clause-past c = λ _. passed_apart _ _ _ _ _ (c.apart.ensures c.if-apart.true)
