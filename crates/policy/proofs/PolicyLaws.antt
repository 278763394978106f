-- Laws of the ordered search of a policy and of its normal form. Assumes nothing.
use Rattle.std.specs.Prelude.{ℕ, ◌≡◌, refl, Bool, true, false, cond, ◌&&◌, List, [], ◌∷◌, map, ◌↔◌}
use Rattle.std.proofs.Common.{◌∙◌, ap}
use Rattle.selectors.specs.declared.Direction.{Direction}
use Rattle.selectors.specs.declared.Direction.TheVariants.{Out, In}
use Rattle.selectors.specs.Range.{holds}
use Rattle.normal_form.specs.Search.{Row, row, Combination, find}
use Rattle.normal_form.proofs.Laws.{search-normal_form, normal_form_canonical}
use Rattle.policy.specs.declared.Action.{Action}
use Rattle.policy.specs.declared.Action.TheVariants.{Discard}
use Rattle.policy.specs.declared.RowDirection.TheVariants.{Only}
use Rattle.policy.specs.ActionLaws.{action-≟}
use Rattle.policy.specs.Policy.{PolicyRow, applies_to, matches, ordered_search, policy_normal_form, as_policy, for_both_ways}

-- The first row either gives the answer or is passed over.
pub search_hit : (d : Direction) (r : PolicyRow) (rs : List PolicyRow) (vs : List ℕ) → matches d r vs ≡ true
    → ordered_search d (r ∷ rs) vs ≡ r.action
unfolding ordered_search
search_hit d r rs vs e = rw e

pub search_miss : (d : Direction) (r : PolicyRow) (rs : List PolicyRow) (vs : List ℕ) → matches d r vs ≡ false
    → ordered_search d (r ∷ rs) vs ≡ ordered_search d rs vs
unfolding ordered_search
search_miss d r rs vs e = rw e

-- The rows for one direction, and the search as a search of those.
unfoldable pub rows_for : Direction → List PolicyRow → List (Row Action)
rows_for d [] = []
rows_for d (r ∷ rs) = cond (applies_to r.direction d) (row r.ranges r.action ∷ rows_for d rs) (rows_for d rs)

pub search-find : (d : Direction) (rows : List PolicyRow) (vs : List ℕ) → ordered_search d rows vs ≡ find Discard (rows_for d rows) vs
unfolding ordered_search matches rows_for find
search-find d [] vs = refl
search-find d (r ∷ rs) vs = by (applies_to r.direction d) refl (search-find d rs vs)
  where
    by : (b : Bool) → applies_to r.direction d ≡ b → ordered_search d rs vs ≡ find Discard (rows_for d rs) vs
        → cond (applies_to r.direction d && holds r.ranges vs) r.action (ordered_search d rs vs)
        ≡ find Discard (cond (applies_to r.direction d) (row r.ranges r.action ∷ rows_for d rs) (rows_for d rs)) vs
    by true e ih = rw e (ap (cond (holds r.ranges vs) r.action) ih)
    by false e ih = rw e ih

own_direction : (d : Direction) → applies_to (Only d) d ≡ true
own_direction Out = refl
own_direction In = refl

-- The ordered search of rows read as a policy is the search of the rows.
pub search-as_policy : (d : Direction) (rows : List (Row Action)) (vs : List ℕ) → ordered_search d (as_policy d rows) vs ≡ find Discard rows vs
unfolding ordered_search matches find
search-as_policy d [] vs = refl
search-as_policy d (r ∷ rs) vs = rw (own_direction d) (ap (cond (holds r.ranges vs) r.leaf) (search-as_policy d rs vs))

-- The ordered search of rows for both directions, in whichever direction is asked, is the search of the rows.
search-both_ways : (asked : Direction) (rows : List (Row Action)) (vs : List ℕ) → ordered_search asked (map for_both_ways rows) vs ≡ find Discard rows vs
unfolding ordered_search matches find
search-both_ways asked [] vs = refl
search-both_ways asked (r ∷ rs) vs = ap (cond (holds r.ranges vs) r.leaf) (search-both_ways asked rs vs)

module _ (sizes : List ℕ) (d : Direction) where
  -- So searching the words of a normal form, in whichever direction is asked, is searching the policy in the direction of the normal form.
  pub searching-both_ways : (rows : List PolicyRow) (asked : Direction) (vs : List ℕ) → Combination sizes vs
      → ordered_search asked (map for_both_ways (policy_normal_form sizes d rows)) vs ≡ ordered_search d rows vs
  searching-both_ways rows asked vs ok =
      search-both_ways asked (policy_normal_form sizes d rows) vs ∙ search-normal_form action-≟ Discard sizes (ordered_search d rows) vs ok

  -- Demand 3 for rows. 'For every combination, searching either normal form for that way gives the action that searching its own policy gives.'
  pub searching-normal_form : (rows : List PolicyRow) (vs : List ℕ) → Combination sizes vs
      → ordered_search d (as_policy d (policy_normal_form sizes d rows)) vs ≡ ordered_search d rows vs
  searching-normal_form rows vs ok =
      search-as_policy d (policy_normal_form sizes d rows) vs ∙ search-normal_form action-≟ Discard sizes (ordered_search d rows) vs ok

  -- 'Equal exactly when the ordered search for that way gives every combination the same action under both.'
  pub same-normal_form : (ps qs : List PolicyRow)
      → (policy_normal_form sizes d ps ≡ policy_normal_form sizes d qs)
      ↔ ((vs : List ℕ) → Combination sizes vs → ordered_search d ps vs ≡ ordered_search d qs vs)
  same-normal_form ps qs = normal_form_canonical action-≟ Discard sizes (ordered_search d ps) (ordered_search d qs)

  -- 'Normalising either normal-form file again for that way gives the same file.'
  pub normalising_again : (rows : List PolicyRow)
      → policy_normal_form sizes d (as_policy d (policy_normal_form sizes d rows)) ≡ policy_normal_form sizes d rows
  normalising_again rows = (same-normal_form _ rows).1 (searching-normal_form rows)
