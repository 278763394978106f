-- Where two policies part: the leaf of a difference report, of which a normal form is the case without a second policy.
-- Assumes nothing: these are definitions.
use Rattle.std.specs.Prelude.{ℕ, ◌≡◌, cond, List, eqb}
use Rattle.std.proofs.Math.Decide.{ℕ_discrete}
use Rattle.selectors.specs.declared.Direction.{Direction}
use Rattle.normal_form.specs.Search.{Row}
use Rattle.normal_form.specs.NormalForm.{normal_form}
use Rattle.policy.specs.Policy.{PolicyRow, ordered_search}
use Rattle.policy.specs.Words.{action_word}

-- The words of the actions under a first and a second policy.
pub record Parting : Type 0 where
  pub first : ℕ
  pub second : ℕ

abbrev pub parting : ℕ → ℕ → Parting
parting a b = record { first = a; second = b }

unfoldable pub parting-≟ : Discrete Parting
parting-≟ p q = both (ℕ_discrete p.first q.first) (ℕ_discrete p.second q.second)
  where
    both : Dec (p.first ≡ q.first) → Dec (p.second ≡ q.second) → Dec (p ≡ q)
    both (yes a) (yes b) = yes (λ i. parting (a i) (b i))
    both (yes a) (no n) = no (λ e. n (λ i. (e i).second))
    both (no n) d = no (λ e. n (λ i. (e i).first))

-- Agreement, whatever the action: it makes no row.
abbrev pub agreed : Parting
agreed = parting 0 0

-- Two actions as a leaf: all agreement counts as one and the same.
abbrev pub parted : ℕ → ℕ → Parting
parted a b = cond (eqb a b) agreed (parting a b)

unfoldable pub parting_at : Direction → List PolicyRow → List PolicyRow → List ℕ → Parting
parting_at d first second vs = parted (action_word (ordered_search d first vs)) (action_word (ordered_search d second vs))

-- The difference of two policies for one direction, over fields of these sizes.
abbrev pub difference_form : List ℕ → Direction → List PolicyRow → List PolicyRow → List (Row Parting)
difference_form sizes d first second = normal_form parting-≟ agreed sizes (parting_at d first second)
