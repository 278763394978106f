-- Laws of rows as words. Assumes nothing.
use Prim.Native.Nat.{ℕ, zero, suc, ◌+◌, ◌-◌, ◌*◌, ◌≤◌, ◌<◌}
use native.Mathlib.Omega.{arith}
use Rattle.std.proofs.Math.Decide.{ℕ_discrete}
use Rattle.std.proofs.Common.{add-one, ap, ◌∙◌, ne_eqb}
use Rattle.std.specs.Prelude.{◌≡◌, Bool, Option, Some, None, List, ◌∷◌, get_or}
use Rattle.std.proofs.Math.Path.{refl}
use Rattle.std.proofs.Math.Bool.{true, false, cond}
use Rattle.std.proofs.lemmas.Option.{none-some, same_Some}
use Rattle.selectors.specs.declared.Direction.{Direction}
use Rattle.policy.specs.Policy.{matches, ordered_search, match_from}
use Rattle.policy.specs.declared.Action.{Action}
use Rattle.policy.specs.declared.Action.TheVariants.{Discard, Bypass, Protect}
use Rattle.policy.specs.Words.{action_of_word, action_word, row_at, rows_from, row_words}

-- Actions and words are the same thing twice.
pub action-word : (n : ℕ) → action_word (action_of_word n) ≡ n
action-word n = by (ℕ_discrete n 0) (ℕ_discrete n 1)
  where
    by : Dec (n ≡ 0) → Dec (n ≡ 1) → action_word (action_of_word n) ≡ n
    by (yes e) d = rw e
    by (no p) (yes e) = rw e
    by (no p) (no q) = rw (ne_eqb n 0 p, ne_eqb n 1 q) (omega arith)

pub word_action : (a : Action) → action_of_word (action_word a) ≡ a
word_action Discard = refl
word_action Bypass = refl
word_action (Protect n) =
    let e : n + 2 - 2 ≡ n = omega arith in
    rw (ne_eqb (n + 2) 0 (λ h. omega arith), ne_eqb (n + 2) 1 (λ h. omega arith), e)

-- The first of the rows that are left, and the rows after it.
rows_from-next : (ws : List ℕ) (i count : ℕ) → i < count
    → rows_from ws i (count - i) ≡ row_at ws (i * row_words) ∷ rows_from ws (i + 1) (count - (i + 1))
unfolding rows_from
rows_from-next ws i count h =
    let e : count - i ≡ suc (count - (i + 1)) = omega arith in
    ap (rows_from ws i) e ∙ rw add-one

-- The search of the rows that are left: the first one is the match, or is passed over, or there is none.
module _ (d : Direction) (ws : List ℕ) (vs : List ℕ) (i count : ℕ) where
  pub match-found : i < count → matches d (row_at ws (i * row_words)) vs ≡ true → match_from i d (rows_from ws i (count - i)) vs ≡ Some i
  unfolding match_from
  match-found h e = rw (rows_from-next ws i count h, e)

  pub match_passed : i < count → matches d (row_at ws (i * row_words)) vs ≡ false
      → match_from i d (rows_from ws i (count - i)) vs ≡ match_from (i + 1) d (rows_from ws (i + 1) (count - (i + 1))) vs
  unfolding match_from
  match_passed h e = rw (rows_from-next ws i count h, e, add-one)

  pub match_ended : count ≤ i → match_from i d (rows_from ws i (count - i)) vs ≡ None
  unfolding match_from rows_from
  match_ended h = let e : count - i ≡ zero = omega arith in rw e

-- A match is one of the rows, and its action is the answer; without a match the answer is discard.
unfoldable pub action_found : List ℕ → Option ℕ → Action
action_found ws (Some j) = action_of_word (get_or ws (j * row_words + 1) 0)
action_found ws None = Discard

module _ (d : Direction) (ws : List ℕ) (vs : List ℕ) where
  pub search_match : (i n : ℕ) → ordered_search d (rows_from ws i n) vs ≡ action_found ws (match_from i d (rows_from ws i n) vs)
  unfolding rows_from ordered_search match_from action_found row_at
  search_match i zero = refl
  search_match i (suc n) = by (matches d (row_at ws (i * row_words)) vs) refl (search_match (suc i) n)
    where
      by : (b : Bool) → matches d (row_at ws (i * row_words)) vs ≡ b
          → ordered_search d (rows_from ws (suc i) n) vs ≡ action_found ws (match_from (suc i) d (rows_from ws (suc i) n) vs)
          → cond (matches d (row_at ws (i * row_words)) vs) (row_at ws (i * row_words)).action (ordered_search d (rows_from ws (suc i) n) vs)
          ≡ action_found ws (cond (matches d (row_at ws (i * row_words)) vs) (Some i) (match_from (suc i) d (rows_from ws (suc i) n) vs))
      by true e ih = rw e
      by false e ih = rw e ih

  pub match_bound : (i n j : ℕ) → match_from i d (rows_from ws i n) vs ≡ Some j → j < i + n
  unfolding rows_from match_from
  match_bound i zero j e = absurd (none-some j e)
  match_bound i (suc n) j e = by (matches d (row_at ws (i * row_words)) vs) refl (match_bound (suc i) n j)
    where
      by : (b : Bool) → matches d (row_at ws (i * row_words)) vs ≡ b
          → (match_from (suc i) d (rows_from ws (suc i) n) vs ≡ Some j → j < suc i + n) → j < i + suc n
      by true h ih = let k : i ≡ j = same_Some i j (rw h at e) in omega arith
      by false h ih = omega (arith, ih (rw h at e))
