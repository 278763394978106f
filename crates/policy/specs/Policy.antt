-- Policies: rows, the ordered search, and the normal form for one direction (document 01; docs/RULES.md). Assumes nothing: these are definitions.
use Rattle.std.specs.Prelude.{ℕ, suc, Option, Some, None, Bool, true, false, cond, ◌&&◌, List, [], ◌∷◌, map}
use Rattle.selectors.specs.Range.{Range, holds}
use Rattle.selectors.specs.declared.Direction.{Direction}
use Rattle.selectors.specs.declared.Direction.TheVariants.{Out, In}
use Rattle.normal_form.specs.Search.{Row as LeafRow}
use Rattle.normal_form.specs.NormalForm.{normal_form}
use Rattle.policy.specs.declared.Action.{Action}
use Rattle.policy.specs.declared.Action.TheVariants.{Discard}
use Rattle.policy.specs.declared.RowDirection.{RowDirection}
use Rattle.policy.specs.declared.RowDirection.TheVariants.{Only, Both}
use Rattle.policy.specs.ActionLaws.{action-≟}

-- A row of a policy: its way (`out`, `in` or `both`), its action, and a range for each field.
pub record PolicyRow : Type 0 where
  pub direction : RowDirection
  pub action : Action
  pub ranges : List Range

-- 'Whose way is the asked way or `both`'.
abbrev pub applies_to : RowDirection → Direction → Bool
applies_to (Only Out) Out = true
applies_to (Only Out) In = false
applies_to (Only In) Out = false
applies_to (Only In) In = true
applies_to Both d = true

-- A row for the asked direction whose ranges all hold the values.
unfoldable pub matches : Direction → PolicyRow → List ℕ → Bool
matches d r vs = applies_to r.direction d && holds r.ranges vs

-- 'The ordered search takes the first row, top down, whose way is the asked way or `both` and whose five ranges all hold the values.
-- Its action is the answer; no such row means discard.'
unfoldable pub ordered_search : Direction → List PolicyRow → List ℕ → Action
ordered_search d [] vs = Discard
ordered_search d (r ∷ rs) vs = cond (matches d r vs) r.action (ordered_search d rs vs)

-- The place of that row, counted from n, where there is one.
unfoldable pub match_from : ℕ → Direction → List PolicyRow → List ℕ → Option ℕ
match_from n d [] vs = None
match_from n d (r ∷ rs) vs = cond (matches d r vs) (Some n) (match_from (suc n) d rs vs)

-- The normal form of a policy for one direction, over fields of these sizes: discard makes no row.
abbrev pub policy_normal_form : List ℕ → Direction → List PolicyRow → List (LeafRow Action)
policy_normal_form sizes d rows = normal_form action-≟ Discard sizes (ordered_search d rows)

-- 'Searching a normal form is the ordered search of its rows, read as a policy': each row is one for that direction.
abbrev pub as_row : Direction → LeafRow Action → PolicyRow
as_row d r = record { direction = Only d; action = r.leaf; ranges = r.ranges }

abbrev pub as_policy : Direction → List (LeafRow Action) → List PolicyRow
as_policy d rows = map (as_row d) rows

-- A row of a normal form as a row for both directions, as the words of a normal form are read.
abbrev pub for_both_ways : LeafRow Action → PolicyRow
for_both_ways r = record { direction = Both; action = r.leaf; ranges = r.ranges }
