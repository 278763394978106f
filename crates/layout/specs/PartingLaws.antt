-- A normal form is the difference from the policy without rows. Assumes nothing.
use Rattle.std.specs.Prelude.{ℕ, ◌≡◌, List, [], map}
use Rattle.std.proofs.Math.Decide.{ℕ_discrete}
use Rattle.std.proofs.Common.{sym, ◌∙◌, ap, ne_eqb}
use Rattle.selectors.specs.declared.Direction.{Direction}
use Rattle.normal_form.proofs.Laws.{normal_form_ext}
use Rattle.normal_form.proofs.MapLaws.{map_leaf, normal_form-map}
use Rattle.policy.specs.ActionLaws.{action-≟}
use Rattle.policy.specs.Policy.{PolicyRow, ordered_search, policy_normal_form}
use Rattle.policy.specs.Words.{action_of_word, action_word}
use Rattle.policy.proofs.WordsLaws.{word_action}
use Rattle.policy.specs.declared.Action.{Action}
use Rattle.policy.specs.declared.Action.TheVariants.{Discard}
use Rattle.layout.specs.Parting.{Parting, parting, parting-≟, agreed, parted, parting_at, difference_form}

-- An action as a leaf: discard is agreement with the policy without rows.
abbrev pub action_leaf : Action → Parting
action_leaf a = parting (action_word a) 0

action_leaf_inj : (a b : Action) → action_leaf a ≡ action_leaf b → a ≡ b
action_leaf_inj a b e = sym (word_action a) ∙ ap action_of_word (λ i. (e i).first) ∙ word_action b

parted_none : (a : ℕ) → parting a 0 ≡ parted a 0
parted_none a = by (ℕ_discrete a 0)
  where
    by : Dec (a ≡ 0) → parting a 0 ≡ parted a 0
    by (yes e) = rw e
    by (no n) = rw (ne_eqb a 0 n)

pub difference_empty : (sizes : List ℕ) (d : Direction) (rows : List PolicyRow)
    → map (map_leaf action_leaf) (policy_normal_form sizes d rows) ≡ difference_form sizes d rows []
unfolding parting_at ordered_search
difference_empty sizes d rows =
    normal_form-map action_leaf action_leaf_inj action-≟ parting-≟ Discard sizes (ordered_search d rows)
    ∙ normal_form_ext parting-≟ agreed sizes _ _ (λ vs ok. parted_none (action_word (ordered_search d rows vs)))
