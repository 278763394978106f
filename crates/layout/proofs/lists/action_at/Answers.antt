-- `layout::lists::action_at` meets its contract: the action of the first listed row; without one, and where all rows are listed, discard; else the
-- action of the first match. Assumes nothing.
use Prim.Native.Nat.{ℕ, ◌<◌, ◌/◌}
use native.Mathlib.Omega.{arith}
use mathlib.Core.Path.{◌≡◌, sym, ◌∙◌}
use mathlib.Core.List.{List}
use lib.ListN.{length}
use Rattle.std.specs.Prelude.{Option, Some}
use Rattle.selectors.specs.Value.{combination}
use Rattle.selectors.specs.declared.Direction.{Direction}
use Rattle.selectors.specs.declared.Fields.{Fields}
use Rattle.selectors.specs.declared.Value.{Value}
use Rattle.policy.specs.Policy.{match_from}
use Rattle.policy.specs.Words.{policy_rows, row_words}
use Rattle.policy.proofs.WordsLaws.{match_bound}
use Rattle.layout.specs.DecodeLaws.{point_values, action-found, action_missing}
use Rattle.layout.specs.ListsLaws.{lists_within, lists-found, lists_none}
use borrow.Author.Rules.{rules}
use Rattle.layout.proofs.lists.action_at.Goals as goal

found-row : (d : Direction) (ws : List ℕ) (s : Fields Value) (found : Option ℕ) (i : ℕ) → found ≡ match_from 0 d (policy_rows ws) (combination s) → found ≡ Some i
    → i < length ws / row_words
found-row d ws s found i m e = omega (arith, match_bound d ws (combination s) 0 _ i (sym m ∙ e))

pub bounds-rows-from : goal.bounds-rows-from
bounds-rows-from c =
    let listed-row : c.from.result < length c.args.rows.now / row_words = omega (arith, c.from.ensures, (lists_within _ _ _ _ _ c.requires).places 0 (omega arith)) in
    let h = listed-row in search rules

pub returns-in-len1-up : goal.returns-in-len1-up
returns-in-len1-up c = rw c.from.ensures (lists-found _ _ _ _ c.requires (omega arith))

pub returns-then-rows-le-LIMIT : goal.returns-then-rows-le-LIMIT
returns-then-rows-le-LIMIT c = lists_none _ _ _ _ c.requires (omega arith) c.if-rows-le-LIMIT.true

pub overflow_mul-result-in-Some : goal.overflow_mul-result-in-Some
overflow_mul-result-in-Some c = let h = found-row _ _ _ _ _ c.first_match.ensures c.in-Some.is in search rules

pub overflow_add-result-in-Some : goal.overflow_add-result-in-Some
overflow_add-result-in-Some c = let h = found-row _ _ _ _ _ c.first_match.ensures c.in-Some.is in search rules

pub offset_bounds-rows-row : goal.offset_bounds-rows-row
offset_bounds-rows-row c = let h = found-row _ _ _ _ _ c.first_match.ensures c.in-Some.is in search rules

pub bounds-rows-row : goal.bounds-rows-row
bounds-rows-row c = let h = found-row _ _ _ _ _ c.first_match.ensures c.in-Some.is in search rules

pub returns-in-Some : goal.returns-in-Some
returns-in-Some c = action-found c.args.direction c.args.rows.now _ _ _ (point_values _ _ c.selectors_of.ensures) c.first_match.ensures _ c.in-Some.is

pub returns-in-None : goal.returns-in-None
returns-in-None c = action_missing c.args.direction c.args.rows.now _ _ _ (point_values _ _ c.selectors_of.ensures) c.first_match.ensures c.in-None.is
