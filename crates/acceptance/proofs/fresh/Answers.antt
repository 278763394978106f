-- `acceptance::fresh` meets its contract: the normal form of no rows has none. Assumes nothing.
use mathlib.Core.Path.{◌∙◌}
use Rattle.policy.specs.Words.{row_limit}
use Rattle.acceptance.proofs.SpdLaws.{empty-words}
use Rattle.acceptance.proofs.fresh.Goals as goal

pub returns : goal.returns
returns c = (c.empty.ensures, c.write.ensures ∙ empty-words row_limit c.args.address)
