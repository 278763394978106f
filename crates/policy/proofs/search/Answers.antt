-- `policy::search` meets its contract: the action of the first match, if there is one. Assumes nothing.
use Rattle.std.proofs.Common.{ℕ, ◌<◌, ◌/◌, ◌≡◌, List, Option, Some, length, arith, rules, sym, ◌∙◌, ap}
use Rattle.selectors.specs.declared.Direction.{Direction}
use Rattle.selectors.specs.Value.{combination}
use Rattle.policy.specs.Policy.{match_from}
use Rattle.policy.specs.Words.{policy_rows, row_words}
use Rattle.policy.proofs.WordsLaws.{action_found, search_match, match_bound}
use Rattle.policy.proofs.search.Goals as goal

pub returns-in_default : goal.returns-in_default
unfolding action_found
returns-in_default c =
    sym (search_match c.args.direction c.args.rows.now (combination c.args.selectors) 0 _
    ∙ ap (action_found c.args.rows.now) (sym c.first_match.ensures ∙ c.in_default.is))

-- The first match is one of the rows.
row_there : (d : Direction) (rows vs : List ℕ) (found : Option ℕ) (row : ℕ) → found ≡ match_from 0 d (policy_rows rows) vs → found ≡ Some row
    → row < length rows / row_words
row_there d rows vs found row e is = omega (arith, match_bound d rows vs 0 _ _ (sym e ∙ is))

pub overflow_mul-row : goal.overflow_mul-row
overflow_mul-row c = let h = row_there _ _ _ _ _ c.first_match.ensures c.in-Some.is in search rules

pub overflow_add-row : goal.overflow_add-row
overflow_add-row c = let h = row_there _ _ _ _ _ c.first_match.ensures c.in-Some.is in search rules

pub offset_bounds-rows-row : goal.offset_bounds-rows-row
offset_bounds-rows-row c = let h = row_there _ _ _ _ _ c.first_match.ensures c.in-Some.is in search rules

pub bounds-rows-row : goal.bounds-rows-row
bounds-rows-row c = let h = row_there _ _ _ _ _ c.first_match.ensures c.in-Some.is in search rules

pub returns : goal.returns
unfolding action_found
returns c =
    c.from.ensures
    ∙ sym (search_match c.args.direction c.args.rows.now (combination c.args.selectors) 0 _
    ∙ ap (action_found c.args.rows.now) (sym c.first_match.ensures ∙ c.in-Some.is))
