-- `policy::RowDirection::applies_to` meets its contract: the direction inside `Only` is compared. Assumes nothing.
use Rattle.std.proofs.Common.{◌≡◌, refl, sym, ap, ◌∙◌}
use denote.Enum.Bare.{sameb}
use Rattle.selectors.specs.contracts.Direction.{the_type}
use Rattle.selectors.specs.declared.Direction.{Direction}
use Rattle.selectors.specs.declared.Direction.TheVariants.{Out, In}
use Rattle.policy.specs.Policy.{applies_to}
use Rattle.policy.specs.declared.RowDirection.{RowDirection}
use Rattle.policy.specs.declared.RowDirection.TheVariants.{Only}
use Rattle.policy.proofs.RowDirection.applies_to.Goals as goal

compared : (own d : Direction) → sameb the_type own d ≡ applies_to (Only own) d
compared Out Out = refl
compared Out In = refl
compared In Out = refl
compared In In = refl

pub returns-in-Only : goal.returns-in-Only
returns-in-Only c = c.eq.ensures ∙ compared c.in-Only.own c.args.direction ∙ ap (λ (x : RowDirection). applies_to x c.args.direction) (sym c.in-Only.is)
