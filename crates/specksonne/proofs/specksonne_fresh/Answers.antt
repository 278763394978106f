-- `specksonne::specksonne_fresh` meets its contract: no word of zeros is live. Assumes nothing.
use mathlib.Core.Path.{refl}
use Rattle.specksonne.specs.FreshLaws.{fresh-pairs}
use Rattle.specksonne.proofs.specksonne_fresh.Goals as goal

pub returns-clause-table_after : goal.returns-clause-table_after
returns-clause-table_after c = (refl, fresh-pairs)
