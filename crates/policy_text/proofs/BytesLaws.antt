-- Laws of cuts: one step of a walk over a text from the front, and what std's words say of them. Assumes nothing.
use Rattle.std.specs.Prelude.{ℕ, zero, suc, ◌+◌, ◌-◌, ◌≤◌, ◌<◌, ◌≡◌, refl, Bool, true, false, cond, ◌&&◌, ◌||◌, List, [], ◌∷◌, eqb, ltb, length, get_or, take, drop, Some, None, unwrap_or}
use Rattle.std.specs.List.{position_or_len, count_by, list_any}
use Rattle.std.specs.Cmp.Lexicographic.{pointwise}
use Rattle.std.proofs.lemmas.List.Recursion.{is_position_or_len, is_count_by}
use Rattle.std.proofs.Common.{arith, ap, sym, ◌∙◌, add-one, length-drop, drop_of_length-le, drop-cons, take_all}
use Rattle.std.proofs.Math.Decide.{dec_lt, dec_le}
use Rattle.std.proofs.Math.Dec.{leb}
use Rattle.std.proofs.lemmas.Bool.{false≢true}
use Rattle.std.proofs.lemmas.Bool.Decides.{nat_tests}
use borrow.Author.Tests.{lt-ltb, le-ltb, le-leb, lt-leb, eq-eqb, ne_eqb, eqb-true}
use Rattle.selectors.proofs.RangeLaws.{both_true}
use Rattle.policy_text.specs.Bytes.{index, has, count, are_same_bytes}

-- What is left of a text from i on: its first byte and what is left from i + 1 on, or nothing.
pub left_more : (s : List ℕ) (i : ℕ) → i < length s → drop i s ≡ get_or s i 0 ∷ drop (i + 1) s
left_more s i h = rw (add-one, drop-cons s i 0 h)

pub left_none : (s : List ℕ) (i : ℕ) → length s ≤ i → drop i s ≡ []
left_none s i h = drop_of_length-le s h

-- One step of a search from the front, and of a count.
module _ (b : ℕ) (s : List ℕ) (i : ℕ) where
  pub index-here : i < length s → get_or s i 0 ≡ b → index b (drop i s) ≡ zero
  unfolding index
  index-here h e = rw (left_more s i h, eq-eqb (get_or s i 0) b e)

  pub index-next : i < length s → (get_or s i 0 ≡ b → ⊥) → index b (drop i s) ≡ suc (index b (drop (i + 1) s))
  unfolding index
  index-next h n = rw (left_more s i h, ne_eqb (get_or s i 0) b n)

  pub count-here : i < length s → get_or s i 0 ≡ b → count b (drop i s) ≡ suc (count b (drop (i + 1) s))
  unfolding count
  count-here h e = rw (left_more s i h, eq-eqb (get_or s i 0) b e)

  pub count_next : i < length s → (get_or s i 0 ≡ b → ⊥) → count b (drop i s) ≡ count b (drop (i + 1) s)
  unfolding count
  count_next h n = rw (left_more s i h, ne_eqb (get_or s i 0) b n)

  pub count_none : length s ≤ i → count b (drop i s) ≡ zero
  unfolding count
  count_none h = rw (left_none s i h)

-- One step of a comparison from the front.
module _ (s t : List ℕ) (i : ℕ) where
  pub same_next : i < length s → i < length t → get_or s i 0 ≡ get_or t i 0
      → are_same_bytes (drop i s) (drop i t) ≡ are_same_bytes (drop (i + 1) s) (drop (i + 1) t)
  unfolding are_same_bytes
  same_next h g e = rw (left_more s i h, left_more t i g, eq-eqb (get_or s i 0) (get_or t i 0) e)

  pub same_differ : i < length s → i < length t → (get_or s i 0 ≡ get_or t i 0 → ⊥) → are_same_bytes (drop i s) (drop i t) ≡ false
  unfolding are_same_bytes
  same_differ h g n = rw (left_more s i h, left_more t i g, ne_eqb (get_or s i 0) (get_or t i 0) n)

  pub same_longer : i < length s → length t ≤ i → are_same_bytes (drop i s) (drop i t) ≡ false
  unfolding are_same_bytes
  same_longer h g = rw (left_more s i h, left_none t i g)

  -- At the end of the one, the texts are the same just if the other is at its end.
  pub same_ended : length s ≤ i → leb (length t) i ≡ are_same_bytes (drop i s) (drop i t)
  unfolding are_same_bytes
  same_ended h = by (dec_le (length t) i)
    where
      by : Dec (length t ≤ i) → leb (length t) i ≡ are_same_bytes (drop i s) (drop i t)
      by (yes g) = rw (le-leb (length t) i g, left_none s i h, left_none t i g)
      by (no g) = rw (lt-leb (length t) i (omega arith), left_none s i h, left_more t i (omega arith))

-- At the end of a text no byte is found.
pub index_none : (b : ℕ) (s : List ℕ) (i : ℕ) → length s ≤ i → index b (drop i s) ≡ zero
unfolding index
index_none b s i h = rw (left_none s i h)

-- Where a byte stands, as std's words say it.
pub index_position : (b : ℕ) (s : List ℕ) → index b s ≡ position_or_len (λ x. eqb x b) s
unfolding index
index_position b s = is_position_or_len (index b) (λ x. eqb x b) refl (λ x t. ap (cond (eqb x b) 0) (omega arith)) s

pub index_most : (b : ℕ) (s : List ℕ) → index b s ≤ length s
unfolding index
index_most b [] = omega arith
index_most b (x ∷ s) = by (eqb x b) (index_most b s)
  where
    by : (e : Bool) → index b s ≤ length s → cond e zero (suc (index b s)) ≤ suc (length s)
    by true h = omega arith
    by false h = omega arith

-- How often a byte stands, as std's words say it.
pub count_counts : (b : ℕ) (s : List ℕ) → count b s ≡ count_by (λ x. eqb x b) s
unfolding count
count_counts b s = is_count_by (count b) (λ x. eqb x b) refl (λ x t. ap (λ (n : ℕ). cond (eqb x b) n (count b t)) (omega arith)) s

-- A place that is found before the end, or else the length.
pub found_or_length : (p n : ℕ) → p ≤ n → unwrap_or (cond (ltb p n) (Some p) None) n ≡ p
found_or_length p n h = by (dec_lt p n)
  where
    by : Dec (p < n) → unwrap_or (cond (ltb p n) (Some p) None) n ≡ p
    by (yes g) = rw (lt-ltb p n g)
    by (no g) = rw (le-ltb p n (omega arith)) (omega arith)

-- The part of a text from k to its end is what is left from k on.
pub part_rest : (s : List ℕ) (k : ℕ) → take (length s - k) (drop k s) ≡ drop k s
part_rest s k = take_all (length s - k) (drop k s) (simp length-drop (omega arith))

ltb_suc : (a b : ℕ) → ltb a b ≡ ltb (suc a) (suc b)
ltb_suc a b = grind (arith, nat_tests)

-- Whether a text has a byte, as std's words say it.
pub has_any : (b : ℕ) (s : List ℕ) → has b s ≡ list_any (λ x. eqb x b) s
unfolding has index
has_any b [] = refl
has_any b (x ∷ s) = by (eqb x b) (has_any b s)
  where
    by : (e : Bool) → ltb (index b s) (length s) ≡ list_any (λ y. eqb y b) s
        → ltb (cond e zero (suc (index b s))) (suc (length s)) ≡ (e || list_any (λ y. eqb y b) s)
    by true h = lt-ltb zero (suc (length s)) (omega arith)
    by false h = sym (ltb_suc (index b s) (length s)) ∙ h

-- Whether a text has a byte, by where it was looked for.
module _ (b : ℕ) (s : List ℕ) (i : ℕ) (e : i ≡ index b s) where
  pub has_there : i < length s → has b s ≡ true
  unfolding has
  has_there h = lt-ltb (index b s) (length s) (rw e at h)

  pub has_not : length s ≤ i → has b s ≡ false
  unfolding has
  has_not h = le-ltb (index b s) (length s) (rw e at h)

-- Whether two texts are the same, as std's `==` says it.
pub same_pointwise : (s t : List ℕ) → pointwise eqb s t ≡ are_same_bytes s t
unfolding are_same_bytes
same_pointwise [] [] = refl
same_pointwise [] (y ∷ t) = refl
same_pointwise (x ∷ s) [] = refl
same_pointwise (x ∷ s) (y ∷ t) = ap (λ e. eqb x y && e) (same_pointwise s t)

-- Texts with the same bytes are one text.
pub same_bytes : (s t : List ℕ) → are_same_bytes s t ≡ true → s ≡ t
unfolding are_same_bytes
same_bytes [] [] e = refl
same_bytes [] (y ∷ t) e = absurd (false≢true e)
same_bytes (x ∷ s) [] e = absurd (false≢true e)
same_bytes (x ∷ s) (y ∷ t) e =
    let p = both_true (eqb x y) (are_same_bytes s t) e in
    let first : x ≡ y = eqb-true x y p.0 in
    let rest : s ≡ t = same_bytes s t p.1 in
    cc

pub same_self : (s : List ℕ) → are_same_bytes s s ≡ true
unfolding are_same_bytes
same_self [] = refl
same_self (x ∷ s) = rw (eq-eqb x x refl) (same_self s)
