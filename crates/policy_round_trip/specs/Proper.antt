-- The actions that edition 1 can write. Assumes nothing: these are definitions.
use Rattle.std.specs.Prelude.{◌≤◌}
use Rattle.policy.specs.declared.Action.{Action}
use Rattle.policy.specs.declared.Action.TheVariants.{Discard, Bypass, Protect}

-- 'N from 1 to 255'.
abbrev pub Proper : Action → Type 0
Proper Discard = Unit
Proper Bypass = Unit
Proper (Protect n) = (1 ≤ n) × (n ≤ 255)
