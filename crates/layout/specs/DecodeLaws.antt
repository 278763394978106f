-- Laws of decoding. Assumes nothing.
use Prim.Native.Nat.{ℕ, zero, suc, ◌+◌, ◌-◌, ◌*◌, ◌/◌, ◌≤◌, ◌<◌}
use native.Mathlib.Omega.{arith}
use Rattle.std.specs.Prelude.{◌≡◌, Bool, true, false, ◌↔◌, List, ◌∷◌, ◌++◌, eqb, length, get_or, take, drop, [], Option, Some, None}
use Rattle.std.proofs.Math.Path.{refl, sym, ap}
use Rattle.std.proofs.Common.{◌∙◌, eq-eqb, get_or-take, get_or-drop, drop-cons}
use Rattle.std.proofs.lemmas.Bool.{false≢true}
use Rattle.selectors.proofs.HeldLaws.{ranges-next, all_ranges, all_values}
use Rattle.selectors.specs.Range.{Range, same_range}
use Rattle.selectors.proofs.RangeLaws.{same_range_true}
use Rattle.selectors.specs.Value.{number, combination}
use Rattle.selectors.specs.Words.{field_count, range_words, ends_at, range_at, ranges_from, values_from, selectors_in, words_of_ranges}
use Rattle.selectors.proofs.WordsLaws.{AllWords, ranges_exact, selectors_values}
use Rattle.selectors.specs.declared.Direction.{Direction}
use Rattle.selectors.specs.declared.ranges.Ends.{Ends}
use Rattle.selectors.specs.declared.Fields.{Fields}
use Rattle.selectors.specs.declared.Value.{Value}
use Rattle.normal_form.specs.Search.{row}
use Rattle.policy.specs.Policy.{matches, ordered_search, match_from}
use Rattle.policy.specs.Words.{action_word, row_at, policy_rows, row_words}
use Rattle.policy.proofs.WordsLaws.{action-word, action_found, search_match}
use Rattle.cover.specs.Boxes.{ranges_word}
use Rattle.cover.specs.RangesLaws.{ranges_moved}
use Rattle.agree.specs.Sides.{range_of}
use Rattle.layout.specs.Parting.{parting}
use Rattle.layout.specs.Decode.{row_ranges, active, part_row, part_rows}

-- A row is the same at two places whose words are the same.
module _ (ws ws' : List ℕ) where
  -- The word k of the row i' there is the word k of the row i here.
  abbrev pub Same : ℕ → ℕ → ℕ → Type 0
  Same i i' k = get_or ws' (i' * row_words + k) 0 ≡ get_or ws (i * row_words + k) 0

  module _ (i i' : ℕ) where
    word_moved : (k j j' : ℕ) → j ≡ i * row_words + k → j' ≡ i' * row_words + k → Same i i' k → get_or ws' j' 0 ≡ get_or ws j 0
    word_moved k j j' e e' s = rw (e, e') s

    pub row_ranges_moved : (f n : ℕ) → f + n ≤ field_count → ((k : ℕ) → 2 + range_words * f ≤ k → k < row_words → Same i i' k) → row_ranges ws' i' f n ≡ row_ranges ws i f n
    row_ranges_moved f n h s =
        ranges_moved ws ws' (ranges_word i) (ranges_word i') f n
        (λ k p q. word_moved (2 + k) _ _ (omega arith) (omega arith) (s (2 + k) (omega arith) (omega arith)))

    -- A row needs its first two words and those of its fields.
    pub row_moved : (f n : ℕ) → f + n ≤ field_count → Same i i' 0 → Same i i' 1 → ((k : ℕ) → 2 + range_words * f ≤ k → k < row_words → Same i i' k)
        → part_row f n ws' i' ≡ part_row f n ws i
    unfolding part_row
    row_moved f n h s0 s1 s =
        rw (
          row_ranges_moved f n h s,
          word_moved 0 (i * row_words) (i' * row_words) (omega arith) (omega arith) s0,
          word_moved 1 (i * row_words + 1) (i' * row_words + 1) (omega arith) (omega arith) s1,
        )

  pub rows_moved : (f n : ℕ) → f + n ≤ field_count → (i i' c : ℕ) → ((k : ℕ) → k < c * row_words → Same i i' k) → part_rows f n ws' i' c ≡ part_rows f n ws i c
  unfolding part_rows
  rows_moved f n h i i' zero s = refl
  rows_moved f n h i i' (suc c) s =
      rw (
        row_moved i i' f n h (s 0 (omega arith)) (s 1 (omega arith)) (λ k p q. s k (omega arith)),
        rows_moved f n h (i + 1) (i' + 1) c
            (λ k p. word_moved i i' (row_words + k) _ _ (omega arith) (omega arith) (s (row_words + k) (omega arith))),
      )

-- Rows in two parts.
pub rows_split : (f n : ℕ) (ws : List ℕ) (i c c' : ℕ) → part_rows f n ws i (c + c') ≡ part_rows f n ws i c ++ part_rows f n ws (i + c) c'
unfolding part_rows
rows_split f n ws i zero c' = let e : i + 0 ≡ i = omega arith in let z : 0 + c' ≡ c' = omega arith in rw (e, z)
rows_split f n ws i (suc c) c' =
    let e : i + 1 + c ≡ i + suc c = omega arith in
    let z : suc c + c' ≡ suc (c + c') = omega arith in
    ap (part_rows f n ws i) z ∙ ap (part_row f n ws i ∷◌) (rows_split f n ws (i + 1) c c' ∙ ap (λ (j : ℕ). part_rows f n ws (i + 1) c ++ part_rows f n ws j c') e)

pub rows-length : (f n : ℕ) (ws : List ℕ) (i c : ℕ) → length (part_rows f n ws i c) ≡ c
unfolding part_rows
rows-length f n ws i zero = refl
rows-length f n ws i (suc c) = ap suc (rows-length f n ws (i + 1) c)

-- Two ranges of four words by their ends: the same if the low ends are and the high ends are.
module _ (ws : List ℕ) (a b : ℕ) (own other : Ends) (e : own ≡ ends_at ws a) (e' : other ≡ ends_at ws b) where
  pub ranges_low : eqb (number own.low) (number other.low) ≡ false → same_range (range_at ws a) (range_at ws b) ≡ false
  unfolding same_range
  ranges_low h = rw (rw (e, e') at h)

  pub ranges_high : eqb (number own.low) (number other.low) ≡ true → eqb (number own.high) (number other.high) ≡ same_range (range_at ws a) (range_at ws b)
  unfolding same_range
  ranges_high h = rw (rw (e, e') at h, e, e')

same_range_refl : (r : Range) → same_range r r ≡ true
unfolding same_range
same_range_refl r = rw (eq-eqb r.low r.low refl, eq-eqb r.high r.high refl)

-- A test that comes out one way or the other.
pub always : {P : Type 0} → P → (true ≡ true) ↔ P
always p = (λ e. p, λ q. refl)

pub never : {P : Type 0} → (P → ⊥) → (false ≡ true) ↔ P
never n = (λ e. absurd (false≢true e), λ p. absurd (n p))

-- Two lists are the same where their heads are and their tails are.
cons_same : {A : Type 0} (x y : A) (xs ys : List A) → x ≡ y → (x ∷ xs ≡ y ∷ ys) ↔ (xs ≡ ys)
cons_same x y xs ys e = (λ h. cc, λ h. cc)

-- The ranges of two rows from a field on, one field at a time.
module _ (ws : List ℕ) (a b f : ℕ) where
  pub same_ranges_go : f < field_count → same_range (range_of ws a f) (range_of ws b f) ≡ true
      → (row_ranges ws a f (field_count - f) ≡ row_ranges ws b f (field_count - f)) ↔ (row_ranges ws a (f + 1) (field_count - (f + 1)) ≡ row_ranges ws b (f + 1) (field_count - (f + 1)))
  same_ranges_go h e = rw (ranges-next ws (ranges_word a) f field_count h, ranges-next ws (ranges_word b) f field_count h) (cons_same _ _ _ _ (same_range_true _ _ e))

  pub same_ranges_stop : f < field_count → same_range (range_of ws a f) (range_of ws b f) ≡ false → row_ranges ws a f (field_count - f) ≡ row_ranges ws b f (field_count - f) → ⊥
  same_ranges_stop h e p =
      let q : range_of ws a f ∷ row_ranges ws a (f + 1) (field_count - (f + 1)) ≡ range_of ws b f ∷ row_ranges ws b (f + 1) (field_count - (f + 1)) =
      sym (ranges-next ws (ranges_word a) f field_count h) ∙ p ∙ ranges-next ws (ranges_word b) f field_count h in
      let r : range_of ws a f ≡ range_of ws b f = cc in
      false≢true (sym e ∙ rw r (same_range_refl (range_of ws b f)))

  pub same_ranges_end : field_count ≤ f → row_ranges ws a f (field_count - f) ≡ row_ranges ws b f (field_count - f)
  unfolding ranges_from
  same_ranges_end h = let e : field_count - f ≡ zero = omega arith in rw e

-- Two rows are the same where their first two words are and their ranges are.
module _ (f n : ℕ) (ws : List ℕ) (a b : ℕ) where
  pub same-row_first : (get_or ws (a * row_words) 0 ≡ get_or ws (b * row_words) 0 → ⊥) → part_row f n ws a ≡ part_row f n ws b → ⊥
  unfolding part_row
  same-row_first d e = d (λ i. (e i).leaf.second)

  pub same-row_second : (get_or ws (a * row_words + 1) 0 ≡ get_or ws (b * row_words + 1) 0 → ⊥) → part_row f n ws a ≡ part_row f n ws b → ⊥
  unfolding part_row
  same-row_second d e = d (λ i. (e i).leaf.first)

  pub same-row_ranges : (r : Bool) → get_or ws (a * row_words) 0 ≡ get_or ws (b * row_words) 0 → get_or ws (a * row_words + 1) 0 ≡ get_or ws (b * row_words + 1) 0
      → (r ≡ true) ↔ (row_ranges ws a f n ≡ row_ranges ws b f n) → (r ≡ true) ↔ (part_row f n ws a ≡ part_row f n ws b)
  unfolding part_row
  same-row_ranges r p q s =
      (λ t. let u = s.0 t in λ i. row (u i) (parting (q i) (p i)), λ t. s.1 (λ i. (t i).ranges))

-- Two words, and the words of parts that are the same.
two_words : (ws : List ℕ) (i : ℕ) → i + 2 ≤ length ws → take 2 (drop i ws) ≡ get_or ws i 0 ∷ get_or ws (i + 1) 0 ∷ []
two_words ws i h =
    let e0 : suc i ≡ i + 1 = omega arith in
    let d0 : drop i ws ≡ get_or ws i 0 ∷ drop (i + 1) ws = rw e0 at (drop-cons ws i 0 (omega arith)) in
    let d1 : drop (i + 1) ws ≡ get_or ws (i + 1) 0 ∷ drop (suc (i + 1)) ws = drop-cons ws (i + 1) 0 (omega arith) in
    ap (λ (l : List ℕ). take 2 l) (d0 ∙ ap (λ (l : List ℕ). get_or ws i 0 ∷ l) d1)

part_word : (ws : List ℕ) (i j m k : ℕ) → take m (drop i ws) ≡ take m (drop j ws) → k < m → get_or ws (i + k) 0 ≡ get_or ws (j + k) 0
part_word ws i j m k e h =
    sym (get_or-take m (drop i ws) k 0 h ∙ get_or-drop i ws k 0)
    ∙ ap (λ (l : List ℕ). get_or l k 0) e
    ∙ get_or-take m (drop j ws) k 0 h
    ∙ get_or-drop j ws k 0

-- Two rows are the same from a field on where their first two words are and those of the fields.
module _ (f : ℕ) (h : f ≤ field_count) (ws : List ℕ) (a b : ℕ) where
  pub same-row_heads : a * row_words + row_words ≤ length ws → b * row_words + row_words ≤ length ws
      → part_row f (field_count - f) ws a ≡ part_row f (field_count - f) ws b → take 2 (drop (a * row_words) ws) ≡ take 2 (drop (b * row_words) ws)
  unfolding part_row
  same-row_heads p q e =
      let first : get_or ws (a * row_words) 0 ≡ get_or ws (b * row_words) 0 = λ i. (e i).leaf.second in
      let second : get_or ws (a * row_words + 1) 0 ≡ get_or ws (b * row_words + 1) 0 = λ i. (e i).leaf.first in
      rw (two_words ws (a * row_words) (omega arith), two_words ws (b * row_words) (omega arith), first, second)

  pub same-row_fields : AllWords ws → a * row_words + row_words ≤ length ws → b * row_words + row_words ≤ length ws
      → part_row f (field_count - f) ws a ≡ part_row f (field_count - f) ws b
      → take (4 * (field_count - f)) (drop (ranges_word a + 4 * f) ws) ≡ take (4 * (field_count - f)) (drop (ranges_word b + 4 * f) ws)
  unfolding part_row
  same-row_fields fit p q e =
      let ranges : row_ranges ws a f (field_count - f) ≡ row_ranges ws b f (field_count - f) = λ i. (e i).ranges in
      sym (ranges_exact ws fit (ranges_word a) f (field_count - f) (omega arith))
      ∙ ap words_of_ranges ranges
      ∙ ranges_exact ws fit (ranges_word b) f (field_count - f) (omega arith)

  pub same-row : take 2 (drop (a * row_words) ws) ≡ take 2 (drop (b * row_words) ws)
      → take (4 * (field_count - f)) (drop (ranges_word a + 4 * f) ws) ≡ take (4 * (field_count - f)) (drop (ranges_word b + 4 * f) ws)
      → part_row f (field_count - f) ws a ≡ part_row f (field_count - f) ws b
  same-row p q =
      row_moved ws ws b a f (field_count - f) (omega arith)
      (part_word ws (a * row_words) (b * row_words) 2 0 p (omega arith))
      (part_word ws (a * row_words) (b * row_words) 2 1 p (omega arith))
      (λ k u v.
      let e : ranges_word a + 4 * f + (k - (2 + 4 * f)) ≡ a * row_words + k = omega arith in
      let e' : ranges_word b + 4 * f + (k - (2 + 4 * f)) ≡ b * row_words + k = omega arith in
      rw (e, e') at (part_word ws (ranges_word a + 4 * f) (ranges_word b + 4 * f) (4 * (field_count - f)) (k - (2 + 4 * f)) q (omega arith)))

-- Rows from two places on, one row at a time.
module _ (f n : ℕ) (ws : List ℕ) (a b i c : ℕ) where
  rows_next : (j : ℕ) → i < c → part_rows f n ws (j + i) (c - i) ≡ part_row f n ws (j + i) ∷ part_rows f n ws (j + (i + 1)) (c - (i + 1))
  unfolding part_rows
  rows_next j h =
      let e : c - i ≡ suc (c - (i + 1)) = omega arith in
      let g : j + i + 1 ≡ j + (i + 1) = omega arith in
      ap (part_rows f n ws (j + i)) e ∙ rw g

  pub same_rows_start : (part_rows f n ws a c ≡ part_rows f n ws b c) ↔ (part_rows f n ws (a + 0) (c - 0) ≡ part_rows f n ws (b + 0) (c - 0))
  same_rows_start =
      let e : a + 0 ≡ a = omega arith in
      let g : b + 0 ≡ b = omega arith in
      let k : c - 0 ≡ c = omega arith in
      rw (e, g, k) (λ p. p, λ p. p)

  pub same_rows_go : i < c → part_row f n ws (a + i) ≡ part_row f n ws (b + i)
      → (part_rows f n ws (a + i) (c - i) ≡ part_rows f n ws (b + i) (c - i))
      ↔ (part_rows f n ws (a + (i + 1)) (c - (i + 1)) ≡ part_rows f n ws (b + (i + 1)) (c - (i + 1)))
  same_rows_go h e = rw (rows_next a h, rows_next b h) (cons_same _ _ _ _ e)

  pub same_rows_stop : i < c → (part_row f n ws (a + i) ≡ part_row f n ws (b + i) → ⊥)
      → part_rows f n ws (a + i) (c - i) ≡ part_rows f n ws (b + i) (c - i) → ⊥
  same_rows_stop h d p =
      let q : part_row f n ws (a + i) ∷ part_rows f n ws (a + (i + 1)) (c - (i + 1)) ≡ part_row f n ws (b + i) ∷ part_rows f n ws (b + (i + 1)) (c - (i + 1)) =
      sym (rows_next a h) ∙ p ∙ rows_next b h in
      d (cc)

  pub same_rows_end : c ≤ i → part_rows f n ws (a + i) (c - i) ≡ part_rows f n ws (b + i) (c - i)
  unfolding part_rows
  same_rows_end h = let e : c - i ≡ zero = omega arith in rw e

-- A row whose five ranges hold the values matches.
pub active-matches : (d : Direction) (ws : List ℕ) (i : ℕ) (vs : List ℕ) → active d ws i field_count vs ≡ matches d (row_at ws (i * row_words)) vs
unfolding active matches row_at
active-matches d ws i vs = rw (all_ranges ws (ranges_word i))

-- The selectors of a point's words are its values.
pub point_values : (s : Fields Value) (ps : List ℕ) → s ≡ selectors_in ps → combination s ≡ values_from ps 0 field_count
point_values s ps e = ap (λ (r : Fields Value). combination r) e ∙ selectors_values ps ∙ sym (all_values ps)

-- The first match gives the action, and without one it is discard.
module _ (d : Direction) (ws vs us : List ℕ) (found : Option ℕ) (e : vs ≡ us) (m : found ≡ match_from 0 d (policy_rows ws) vs) where
  found_action : ordered_search d (policy_rows ws) us ≡ action_found ws found
  found_action = search_match d ws us 0 (length ws / row_words) ∙ ap (action_found ws) (sym (rw e at m))

  pub action-found : (i : ℕ) → found ≡ Some i → get_or ws (i * row_words + 1) 0 ≡ action_word (ordered_search d (policy_rows ws) us)
  unfolding action_found
  action-found i q = sym (ap action_word (found_action ∙ ap (action_found ws) q) ∙ action-word (get_or ws (i * row_words + 1) 0))

  pub action_missing : found ≡ None → 0 ≡ action_word (ordered_search d (policy_rows ws) us)
  unfolding action_found
  action_missing q = sym (ap action_word (found_action ∙ ap (action_found ws) q))

-- Blocks of different sizes are not the same.
pub blocks_apart : (f n : ℕ) (ws : List ℕ) (a b c c' : ℕ) → (c ≡ c' → ⊥) → part_rows f n ws a c ≡ part_rows f n ws b c' → ⊥
blocks_apart f n ws a b c c' d e = d (sym (rows-length f n ws a c) ∙ ap length e ∙ rows-length f n ws b c')
