-- `cover::stands::survey` meets its contract. A row that covers the box, or none. Assumes nothing.
use Rattle.cover.specs.BoxLaws.{surveyed_covering, surveyed_none}
use Rattle.cover.proofs.stands.survey.Goals as goal

pub returns-in-Covering : goal.returns-in-Covering
returns-in-Covering c = surveyed_covering _ _ _ _ _ c.loop-code.code-index c.loop-code-test.true (c.stand_of.ensures.covers c.in-Covering.is)

pub returns-in-Some : goal.returns-in-Some
returns-in-Some c = surveyed_none _ _ _ _ _ _ (λ e. absurd cc)

pub returns-in-None : goal.returns-in-None
returns-in-None c = surveyed_none _ _ _ _ _ _ (λ e. absurd cc)
