-- When two policies are the same to every packet. Assumes nothing: these are definitions.
use Rattle.std.specs.Prelude.{ℕ, ◌≡◌, List}
use Rattle.selectors.specs.declared.Direction.{Direction}
use Rattle.normal_form.specs.Search.{Combination}
use Rattle.policy.specs.Policy.{PolicyRow, ordered_search}

-- 'The ordered search for that way gives every combination the same action under both.'
abbrev pub Agree : List ℕ → Direction → List PolicyRow → List PolicyRow → Type 0
Agree sizes d ps qs = (vs : List ℕ) → Combination sizes vs → ordered_search d ps vs ≡ ordered_search d qs vs
