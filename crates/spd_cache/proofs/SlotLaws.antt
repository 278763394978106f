-- What a lookup does to the slots, and why it answers as the search. Assumes nothing.
use Prim.Native.Nat.{ℕ, zero, suc, ◌+◌, ◌-◌, ◌*◌, ◌<◌, ◌≤◌, min, max}
use native.Mathlib.Omega.{arith}
use Rattle.std.proofs.Common.{add-zero, sym, ◌∙◌, length-drop, take-append-drop, get_or-drop}
use Rattle.std.proofs.Math.Nat.{sub-zero, zero-sub}
use Rattle.std.proofs.Math.Numerals.{add-one}
use Rattle.std.proofs.Math.Path.{◌≡◌, refl, ap}
use Rattle.std.specs.Prelude.{Bool, Option, Some, None, ◌⊎◌, length, take, drop}
use Rattle.std.proofs.Math.Bool.{true, false}
use mathlib.Core.List.Memᴰ
use mathlib.Core.List.{List, [], ◌∷◌, ◌++◌, Memᴰ}
use Rattle.std.proofs.Math.Logic.{inl, inr, ⊎_elim}
use Rattle.std.proofs.lemmas.List.{length-replicate}
use Rattle.std.proofs.lemmas.List.Edits.{length-paste}
use Rattle.selectors.specs.declared.Direction.{Direction}
use Rattle.selectors.proofs.StoresLaws.{paste-before, paste_in, paste-after}
use Rattle.policy.specs.Policy.{PolicyRow, matches, ordered_search, match_from}
use Rattle.policy.specs.Words.{row_at, rows_from, row_words, policy_rows}
use Rattle.policy.proofs.WordsLaws.{action_found, search_match}
use Rattle.policy.proofs.RowsLaws.{row_same, rows_same, front_rows}
use Rattle.spd_cache.specs.declared.Cache.{Cache}
use Rattle.spd_cache.specs.declared.Looked.{Looked}
use Rattle.spd_cache.specs.Cache.{slot_count, slots_words, empty_cache, in_use, cached, turn, put, stored, looked_up, replaced}
use Rattle.spd_cache.proofs.CacheLaws.{row_bound, lookup_hit, lookup_miss, lookup_none}

-- The rows from one place on, in pieces.
take_rows : (ws : List ℕ) (i n k : ℕ) → k ≤ n → take k (rows_from ws i n) ≡ rows_from ws i k
unfolding rows_from
take_rows ws i n zero h = refl
take_rows ws i zero (suc k) h = absurd (omega arith)
take_rows ws i (suc n) (suc k) h = ap (◌∷◌ (row_at ws (i * row_words))) (take_rows ws (suc i) n k (omega arith))

drop_rows : (ws : List ℕ) (i n k : ℕ) → drop k (rows_from ws i n) ≡ rows_from ws (i + k) (n - k)
unfolding rows_from
drop_rows ws i n zero = rw (add-zero, sub-zero)
drop_rows ws i zero (suc k) = rw zero-sub
drop_rows ws i (suc n) (suc k) =
    let e : suc i + k ≡ i + suc k = omega arith in
    let f : n - k ≡ suc n - suc k = omega arith in
    drop_rows ws (suc i) n k ∙ rw (e, f)

split_rows : (ws : List ℕ) (i n m : ℕ) → rows_from ws i (n + m) ≡ rows_from ws i n ++ rows_from ws (i + n) m
unfolding rows_from
split_rows ws i zero m = let e : zero + m ≡ m = omega arith in rw (e, add-zero)
split_rows ws i (suc n) m =
    let e : suc n + m ≡ suc (n + m) = omega arith in
    let f : suc i + n ≡ i + suc n = omega arith in
    ap (rows_from ws i) e ∙ ap (◌∷◌ (row_at ws (i * row_words))) (split_rows ws (suc i) n m ∙ rw f)

-- The slots are filled from the first on: those in use are the first `count`, and the turn is at one of them or at the next.
pub record Filled (c : Cache) : Type 0 where
  pub size : length c.words ≡ slots_words
  pub limit : c.count ≤ slot_count
  pub turn_below : c.next < slot_count
  pub turn-next : c.next ≤ c.count

pub empty_filled : Filled empty_cache
empty_filled = record { size = length-replicate {A = ℕ} (slots_words) 0; limit = omega arith; turn_below = omega arith; turn-next = omega arith }

pub empty-cached : cached empty_cache ≡ []
unfolding rows_from
empty-cached = refl

replaced_mem : (rs : List PolicyRow) (slot : ℕ) (q r : PolicyRow) → Memᴰ r (replaced rs slot q) → Memᴰ r rs ⊎ (r ≡ q)
replaced_mem rs slot q r m =
    ⊎_elim
    (λ (a : Memᴰ r (take slot rs)). inl (rw take-append-drop at (Memᴰ.append_left (drop slot rs) a)))
    (λ b. ⊎_elim inr (λ (a : Memᴰ r (drop (slot + 1) rs)). inl (rw take-append-drop at (Memᴰ.append_right (take (slot + 1) rs) a))) (Memᴰ.cases_cons b))
    (Memᴰ.append_cases (take slot rs) m)

module _ (c : Cache) (rows : List ℕ) (j : ℕ) (f : Filled c) (h : j * row_words + row_words ≤ length rows) where
  room : turn c * row_words + row_words ≤ length c.words
  room = omega (arith, f.turn_below, f.size)

  source : row_words ≤ length (drop (j * row_words) rows)
  source = simp length-drop (omega arith)

  pub stored_filled : Filled (stored c rows j)
  stored_filled =
      record {
        size = length-paste c.words (turn c * row_words) (drop (j * row_words) rows) row_words room source ∙ f.size;
        limit = omega arith;
        turn_below = omega arith;
        turn-next = omega arith;
      }

  rows_before : rows_from (put c.words (turn c) rows j) 0 (turn c) ≡ rows_from c.words 0 (turn c)
  rows_before =
      rows_same _ _ 0 (turn c)
      (λ k p q. row_same _ _ (k * row_words) (k * row_words)
      (λ x l. paste-before c.words (drop (j * row_words) rows) (turn c * row_words) row_words room source (k * row_words + x) (omega arith)))

  row_in : row_at (put c.words (turn c) rows j) (turn c * row_words) ≡ row_at rows (j * row_words)
  row_in =
      row_same _ _ (turn c * row_words) (j * row_words)
      (λ x l. paste_in c.words (drop (j * row_words) rows) (turn c * row_words) row_words room source x l ∙ get_or-drop (j * row_words) rows x 0)

  rows-after : (n : ℕ) → rows_from (put c.words (turn c) rows j) (turn c + 1) n ≡ rows_from c.words (turn c + 1) n
  rows-after n =
      rows_same _ _ (turn c + 1) n
      (λ k p q. row_same _ _ (k * row_words) (k * row_words)
      (λ x l. paste-after c.words (drop (j * row_words) rows) (turn c * row_words) row_words room source (k * row_words + x) (omega arith)))

  rows_split : (n : ℕ) → rows_from (put c.words (turn c) rows j) 0 (turn c + suc n)
      ≡ rows_from c.words 0 (turn c) ++ row_at rows (j * row_words) ∷ rows_from c.words (turn c + 1) n
  unfolding rows_from
  rows_split n =
      let z : 0 + turn c ≡ turn c = omega arith in
      split_rows (put c.words (turn c) rows j) 0 (turn c) (suc n) ∙ rw (z, rows_before, row_in, ← add-one (turn c), rows-after n)

  -- A store replaces the row of the slot whose turn it is by the row j.
  pub stored_rows : cached (stored c rows j) ≡ replaced (cached c) (turn c) (row_at rows (j * row_words))
  stored_rows =
      let n : ℕ = min c.count slot_count in
      let m : ℕ = min (max n (turn c + 1)) slot_count in
      let e : m ≡ turn c + suc (n - (turn c + 1)) = omega (arith, f.turn-next, f.limit) in
      let z : 0 + (turn c + 1) ≡ turn c + 1 = omega arith in
      front_rows (put c.words (turn c) rows j) m (omega (arith, stored_filled.size))
      ∙ ap (rows_from (put c.words (turn c) rows j) 0) e
      ∙ rows_split (n - (turn c + 1))
      ∙ sym (ap (λ rs. replaced rs (turn c) (row_at rows (j * row_words))) (front_rows c.words n (omega (arith, f.size)))
      ∙ rw (take_rows c.words 0 n (turn c) (omega arith), drop_rows c.words 0 n (turn c + 1), z))

  pub stored_mem : (r : PolicyRow) → Memᴰ r (cached (stored c rows j)) → Memᴰ r (cached c) ⊎ (r ≡ row_at rows (j * row_words))
  stored_mem r m = replaced_mem (cached c) (turn c) (row_at rows (j * row_words)) r (rw stored_rows at m)

-- A match is one of the rows, and it matches.
module _ (d : Direction) (ws : List ℕ) (vs : List ℕ) where
  Matched : ℕ → ℕ → ℕ → Type 0
  Matched i n j = Memᴰ (row_at ws (j * row_words)) (rows_from ws i n) × (matches d (row_at ws (j * row_words)) vs ≡ true)

  matched : (i n j : ℕ) → match_from i d (rows_from ws i n) vs ≡ Some j → Matched i n j
  unfolding rows_from match_from Matched
  matched i zero j e = let z : ◌≡◌ {A = ℕ} 0 1 = cc in absurd (omega arith)
  matched i (suc n) j e = by (matches d (row_at ws (i * row_words)) vs) refl (matched (suc i) n j)
    where
      by : (b : Bool) → matches d (row_at ws (i * row_words)) vs ≡ b
          → (match_from (suc i) d (rows_from ws (suc i) n) vs ≡ Some j → Matched (suc i) n j) → Matched i (suc n) j
      by true h ih = let k : Some i ≡ Some j = rw h at e in let l : i ≡ j = cc in rw (← l) (Memᴰ.head refl, h)
      by false h ih = let m = ih (rw h at e) in (Memᴰ.tail m.0, m.1)

-- A lookup in filled slots: they stay filled, and a cached row afterwards is an old one or a row of `rows`.
module _ (c : Cache) (rows : List ℕ) (d : Direction) (vs : List ℕ) where
  pub lookup_filled : Filled c → Filled (looked_up c rows d vs).cache
  lookup_filled f = by (match_from 0 d (cached c) vs) refl (match_from 0 d (policy_rows rows) vs) refl
    where
      by : (slot : Option ℕ) → match_from 0 d (cached c) vs ≡ slot → (found : Option ℕ) → match_from 0 d (policy_rows rows) vs ≡ found
          → Filled (looked_up c rows d vs).cache
      by (Some i) e found g = rw (lookup_hit c rows d vs i e) f
      by None e (Some j) g = rw (lookup_miss c rows d vs j e g) (stored_filled c rows j f (row_bound rows d vs j g))
      by None e None g = rw (lookup_none c rows d vs e g) f

  pub lookup_mem : Filled c → (r : PolicyRow) → Memᴰ r (cached (looked_up c rows d vs).cache) → Memᴰ r (cached c) ⊎ Memᴰ r (policy_rows rows)
  unfolding Matched
  lookup_mem f r m = by (match_from 0 d (cached c) vs) refl (match_from 0 d (policy_rows rows) vs) refl
    where
      by : (slot : Option ℕ) → match_from 0 d (cached c) vs ≡ slot → (found : Option ℕ) → match_from 0 d (policy_rows rows) vs ≡ found
          → Memᴰ r (cached c) ⊎ Memᴰ r (policy_rows rows)
      by (Some i) e found g = inl (rw (lookup_hit c rows d vs i e) at m)
      by None e (Some j) g =
          ⊎_elim inl (λ q. inr (rw q (matched d rows vs 0 _ j g).0))
          (stored_mem c rows j f (row_bound rows d vs j g) r (rw (lookup_miss c rows d vs j e g) at m))
      by None e None g = inl (rw (lookup_none c rows d vs e g) at m)

  -- A lookup answers as the ordered search of `rows` does, if each cached row that matches has that action.
  pub lookup_action : ((r : PolicyRow) → Memᴰ r (cached c) → matches d r vs ≡ true → r.action ≡ ordered_search d (policy_rows rows) vs)
      → (looked_up c rows d vs).action ≡ ordered_search d (policy_rows rows) vs
  unfolding Matched row_at action_found
  lookup_action h = by (match_from 0 d (cached c) vs) refl (match_from 0 d (policy_rows rows) vs) refl
    where
      by : (slot : Option ℕ) → match_from 0 d (cached c) vs ≡ slot → (found : Option ℕ) → match_from 0 d (policy_rows rows) vs ≡ found
          → (looked_up c rows d vs).action ≡ ordered_search d (policy_rows rows) vs
      by (Some i) e found g =
          let m = matched d (in_use c) vs 0 _ i e in
          ap (λ (l : Looked). l.action) (lookup_hit c rows d vs i e) ∙ h (row_at (in_use c) (i * row_words)) m.0 m.1
      by None e (Some j) g = rw (lookup_miss c rows d vs j e g, search_match d rows vs 0 _, g)
      by None e None g = rw (lookup_none c rows d vs e g, search_match d rows vs 0 _, g)
