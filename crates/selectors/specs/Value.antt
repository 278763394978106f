-- A value of a field in two words. Assumes nothing: these are definitions.
use Rattle.std.specs.Prelude.{ℕ, ◌+◌, ◌*◌, ◌^◌, List, [], ◌∷◌}
use Rattle.selectors.specs.declared.Value.{Value}
use Rattle.selectors.specs.declared.Fields.{Fields}

unfoldable pub number : Value → ℕ
number v = v.upper * 2 ^ 64 + v.lower

-- The combination (document 01) that a packet shows: one value for each field.
abbrev pub combination : Fields Value → List ℕ
combination s = number s.local ∷ number s.remote ∷ number s.protocol ∷ number s.local_port ∷ number s.remote_port ∷ []
