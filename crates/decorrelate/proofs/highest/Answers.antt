-- `decorrelate::highest` meets its contract: there is one edition. Assumes nothing.
use mathlib.Core.Path.{refl, sym, ap, ◌∙◌}
use Rattle.policy_text.specs.Editions.{edition_sizes}
use Rattle.policy_text.proofs.EditionsLaws.{only_one}
use Rattle.decorrelate.specs.FormLaws.{ipv4_highest}
use Rattle.decorrelate.proofs.highest.Goals as goal

pub returns : goal.returns
returns c = ipv4_highest _ refl ∙ ap edition_sizes (sym (only_one c.args.edition))
