-- Laws of what the layout's steps leave. Assumes nothing.
use Rattle.std.specs.Prelude.{ℕ, zero, suc, ◌+◌, ◌-◌, ◌*◌, ◌≤◌, ◌<◌, min, ◌≡◌, refl, List, ◌++◌, map, ◌≢◌, length, Ok, Err}
use native.Mathlib.Omega.{arith}
use native.Mathlib.Nat.{le_of_lt}
use Rattle.std.specs.Ordering.{nat_cmp, on, ord_min}
use Rattle.std.proofs.Math.Decide.{dec_lt, ℕ_discrete}
use Rattle.std.proofs.Math.Nat.{min-le_left, min-le_right, min-eq_left, min-eq_right, le-min}
use Rattle.std.proofs.Common.{suc-mul, ◌∙◌, ⊎_elim, le-leb, lt-ltb, le-ltb, eq-eqb, ne_eqb}
use Rattle.std.proofs.Math.Path.{sym, ap}
use Rattle.std.proofs.Math.Bool.{true}
use Rattle.std.proofs.Math.Logic.{inl, inr}
use Rattle.std.proofs.lemmas.Bool.{lt-leb}
use Rattle.selectors.specs.Range.{Range}
use Rattle.selectors.proofs.RangeLaws.{contains_in, contains_below, contains_above}
use Rattle.selectors.specs.Ranges.{ends_range}
use Rattle.selectors.specs.Value.{number}
use Rattle.selectors.specs.Words.{field_count, range_words, value_at, ends_at, range_at, ranges_from}
use Rattle.selectors.specs.declared.Direction.{Direction}
use Rattle.selectors.specs.declared.ranges.Ends.{Ends}
use Rattle.selectors.specs.declared.Value.{Value}
use Rattle.normal_form.specs.Search.{Row}
use Rattle.normal_form.specs.NormalForm.{under}
use Rattle.policy.specs.Words.{row_words}
use Rattle.cover.specs.RangesLaws.{written_range, range-words, low_own, high_own}
use Rattle.agree.specs.Sides.{range_of}
use Rattle.layout.specs.Decode.{word_of, active, part_row, part_rows}
use Rattle.layout.specs.DecodeLaws.{row_ranges_moved, row_moved, rows_moved, rows_split, rows-length}
use Rattle.layout.specs.Steps.{AlikeTo, AlikeAmong, SearchAlike, IntervalEnd, Outside, Stamped, Begun, LaidOut, words_for}
use Rattle.layout.specs.declared.Kept.{Kept}
use Rattle.layout.specs.declared.LayoutError.TheVariants.{Over}
use Rattle.layout.specs.Parting.{Parting}

-- The less of two values.
pub less-number : (a b v : Value) → v ≡ ord_min (on number nat_cmp) a b → number v ≡ min (number a) (number b)
less-number a b v e = rw e (by (dec_lt (number b) (number a)) (ℕ_discrete (number b) (number a)))
  where
    by : Dec (number b < number a) → Dec (number b ≡ number a) → number (ord_min (on number nat_cmp) a b) ≡ min (number a) (number b)
    by (yes h) d = rw (lt-ltb (number b) (number a) h) (sym (min-eq_right (le_of_lt h)))
    by (no h) (yes e) = rw (le-ltb (number b) (number a) (omega arith), eq-eqb (number b) (number a) e) (sym (min-eq_left (omega arith)))
    by (no h) (no e) = rw (le-ltb (number b) (number a) (omega arith), ne_eqb (number b) (number a) e) (sym (min-eq_left (omega arith)))

-- A range treats alike what is below it, what is above it, and what is in it.
module _ (r : Range) (from best last : ℕ) (h : from ≤ best) where
  pub ends_below : (before : ℕ) → from < r.low → before ≡ r.low - 1 → last ≡ min before best → IntervalEnd from best last (AlikeTo r from last)
  unfolding AlikeTo
  ends_below before p e m = record {
    reaches = rw m (le-min (omega arith) h);
    within = rw m (min-le_right before best);
    alike = λ u g k.
        let b : last ≤ before = rw m (min-le_left before best) in
        contains_below r u (omega arith) ∙ sym (contains_below r from p);
  }

  pub ends_above : r.high < from → IntervalEnd from best best (AlikeTo r from best)
  unfolding AlikeTo
  ends_above p = record { reaches = h; within = omega arith; alike = λ u g k. contains_above r u (omega arith) ∙ sym (contains_above r from p) }

  pub ends_inside : r.low ≤ from → from ≤ r.high → last ≡ min r.high best → IntervalEnd from best last (AlikeTo r from last)
  unfolding AlikeTo
  ends_inside p q m = record {
    reaches = rw m (le-min q h);
    within = rw m (min-le_right r.high best);
    alike = λ u g k.
        let b : last ≤ r.high = rw m (min-le_left r.high best) in
        contains_in r u (omega arith) (omega arith) ∙ sym (contains_in r from p q);
  }

-- A range by its ends.
pub ends-range : (from best last : ℕ) (ws : List ℕ) (at : ℕ) (range : Ends) → range ≡ ends_at ws at
    → IntervalEnd from best last (AlikeTo (ends_range range) from last) → IntervalEnd from best last (AlikeTo (range_at ws at) from last)
ends-range from best last ws at range e t = record { reaches = t.reaches; within = t.within; alike = rw e at t.alike }

-- A range that counts only under a condition: where it ends nothing earlier, where the condition does not hold, and else.
module _ (from best last : ℕ) {P : Type 0} where
  pub ends_whole : (r : Range) → IntervalEnd from best last (AlikeTo r from last) → best ≤ last → IntervalEnd from best best (P → AlikeTo r from best)
  ends_whole r t h =
      let e : last ≡ best = omega (arith, t.within) in
      record { reaches = omega (arith, t.reaches); within = omega arith; alike = λ p. rw e at t.alike }

  pub ends_passed : {Q : Type 0} → from ≤ best → (P → ⊥) → IntervalEnd from best best (P → Q)
  ends_passed h n = record { reaches = h; within = omega arith; alike = λ p. absurd (n p) }

  pub ends-under : {Q : Type 0} → IntervalEnd from best last Q → IntervalEnd from best last (P → Q)
  ends-under t = record { reaches = t.reaches; within = t.within; alike = λ p. t.alike }

-- A value up to the last one, as well.
pub alike_less : (r : Range) (from last last' : ℕ) → last' ≤ last → AlikeTo r from last → AlikeTo r from last'
unfolding AlikeTo
alike_less r from last last' h a u p q = a u p (omega arith)

-- What is so to each of the first n of some things, and to one more.
module _ (A : ℕ → ℕ → Type 0) (less : (i last last' : ℕ) → last' ≤ last → A i last → A i last') (from : ℕ) where
  pub each_more : (n best last last' : ℕ) → IntervalEnd from best last ((i : ℕ) → i < n → A i last) → IntervalEnd from last last' (A n last')
      → IntervalEnd from best last' ((i : ℕ) → i < n + 1 → A i last')
  each_more n best last last' s t = record {
    reaches = t.reaches;
    within = omega (arith, s.within, t.within);
    alike = λ i g. by i g (dec_lt i n);
  }
    where
      by : (i : ℕ) → i < n + 1 → Dec (i < n) → A i last'
      by i g (yes h) = less i last last' t.within (s.alike i h)
      by i g (no h) = let e : n ≡ i = omega arith in rw e at t.alike

module _ (d : Direction) (ws : List ℕ) (f : ℕ) (before : List ℕ) (from : ℕ) where
  pub among_start : (best : ℕ) → from ≤ best → IntervalEnd from best best (AlikeAmong d ws 0 f before from best)
  unfolding AlikeAmong
  among_start best h = record { reaches = h; within = omega arith; alike = λ i g. absurd (omega arith) }

  pub ends_more : (n best last last' : ℕ) → IntervalEnd from best last (AlikeAmong d ws n f before from last)
      → IntervalEnd from last last' (active d ws n f before ≡ true → AlikeTo (range_of ws n f) from last')
      → IntervalEnd from best last' (AlikeAmong d ws (n + 1) f before from last')
  unfolding AlikeAmong
  ends_more n best last last' s t =
      each_more (λ i l. active d ws i f before ≡ true → AlikeTo (range_of ws i f) from l) (λ i l l' h a p. alike_less _ from l l' h (a p)) from n best last last' s t

-- Two policies, one after the other.
pub ends_both : (d : Direction) (ws ws' before : List ℕ) (from best last last' : ℕ)
    → IntervalEnd from best last (SearchAlike d ws before from last) → IntervalEnd from last last' (SearchAlike d ws' before from last')
    → IntervalEnd from best last' (SearchAlike d ws before from last' × SearchAlike d ws' before from last')
unfolding SearchAlike
ends_both d ws ws' before from best last last' s t = record {
  reaches = t.reaches;
  within = omega (arith, s.within, t.within);
  alike = (λ u g h. s.alike u g (omega (arith, t.within)), t.alike);
}

-- A row with a range written.
module _ (f n i low high : ℕ) (ws ws' : List ℕ) (h : f + suc n ≤ field_count) (room : i * row_words + row_words ≤ length ws)
    (e : ws' ≡ written_range ws (word_of i f) low high) where
  others : Outside (word_of i f) (word_of i f + range_words) ws ws'
  unfolding Outside
  others j o = rw e (range-words ws (word_of i f) low high j o)

  front : part_row f (suc n) ws' i ≡ under low high (part_row (f + 1) n ws i)
  unfolding part_row ranges_from Outside
  front =
      let p : number (value_at ws' (word_of i f)) ≡ low = rw e (low_own ws (word_of i f) low high (omega arith)) in
      let q : number (value_at ws' (word_of i f + 2)) ≡ high = rw e (high_own ws (word_of i f) low high (omega arith)) in
      rw (
        p,
        q,
        row_ranges_moved ws ws' i i (f + 1) n (omega arith) (λ k a b. others _ (inr (omega arith))),
        others (i * row_words) (inl (omega arith)),
        others (i * row_words + 1) (inl (omega arith)),
      )

  pub stamp-row : Stamped f n i (i + 1) low high ws ws'
  unfolding Outside
  stamp-row = record {
    rows = λ j g k. let q : i ≡ j = omega arith in rw q at front;
    others = λ j o. others j (⊎_elim (λ g. inl (omega arith)) (λ g. inr (omega arith)) o);
  }

-- No row, and one row more.
pub stamped_none : (f n a low high : ℕ) (ws : List ℕ) → Stamped f n a a low high ws ws
unfolding Outside
stamped_none f n a low high ws = record { rows = λ i p q. absurd (omega arith); others = λ j o. refl }

pub stamped_more : (f n a b low high : ℕ) (ws ws' ws'' : List ℕ) → f + suc n ≤ field_count → a ≤ b → Stamped f n a b low high ws ws'
    → Stamped f n b (b + 1) low high ws' ws'' → Stamped f n a (b + 1) low high ws ws''
unfolding Outside
stamped_more f n a b low high ws ws' ws'' h g s t = record {
  rows = λ i p q. by i p q (dec_lt i b);
  others = λ j o.
      t.others j (⊎_elim (λ p. inl (omega arith)) (λ p. inr p) o)
      ∙ s.others j (⊎_elim (λ p. inl p) (λ p. inr (omega arith)) o);
}
  where
    by : (i : ℕ) → a ≤ i → i < b + 1 → Dec (i < b) → part_row f (suc n) ws'' i ≡ under low high (part_row (f + 1) n ws i)
    by i p q (yes k) =
        row_moved ws' ws'' i i f (suc n) h (t.others _ (inl (omega arith))) (t.others _ (inl (omega arith))) (λ m u v. t.others _ (inl (omega arith)))
        ∙ s.rows i p k
    by i p q (no k) =
        let e : b ≡ i = omega arith in
        rw e at (t.rows b (omega arith) (omega arith))
        ∙ ap (under low high)
        (row_moved ws ws' i i (f + 1) n (omega arith) (s.others _ (inr (omega arith))) (s.others _ (inr (omega arith))) (λ m u v. s.others _ (inr (omega arith))))

-- The rows, all together.
pub stamped_rows : (f n low high : ℕ) (ws ws' : List ℕ) (a c : ℕ) → ((i : ℕ) → a ≤ i → i < a + c → part_row f (suc n) ws' i ≡ under low high (part_row (f + 1) n ws i))
    → part_rows f (suc n) ws' a c ≡ map (under low high) (part_rows (f + 1) n ws a c)
unfolding part_rows
stamped_rows f n low high ws ws' a zero s = refl
stamped_rows f n low high ws ws' a (suc c) s =
    rw (s a (omega arith) (omega arith), stamped_rows f n low high ws ws' (a + 1) c (λ i p q. s i (omega arith) (omega arith)))

-- Stamped rows behind rows that were stamped before, and rows behind them that were not.
module _ (f n a b low high : ℕ) (ws ws' : List ℕ) (s : Stamped f n a b low high ws ws') where
  pub stamped_done : f + suc n ≤ field_count → a ≤ b
      → part_rows f (suc n) ws' 0 b ≡ part_rows f (suc n) ws 0 a ++ map (under low high) (part_rows (f + 1) n ws a (b - a))
  unfolding Outside
  stamped_done h g =
      let e : b ≡ a + (b - a) = omega arith in
      let z : 0 + a ≡ a = omega arith in
      ap (part_rows f (suc n) ws' 0) e
      ∙ rows_split f (suc n) ws' 0 a (b - a)
      ∙ rw (z, rows_moved ws ws' f (suc n) h 0 0 a (λ k p. s.others _ (inl (omega arith))), stamped_rows f n low high ws ws' a (b - a) (λ i p q. s.rows i p (omega arith)))

  pub stamped-behind : (g m : ℕ) → g + m ≤ field_count → (count : ℕ) → part_rows g m ws' b count ≡ part_rows g m ws b count
  unfolding Outside
  stamped-behind g m h count = rows_moved ws ws' g m h b b count (λ k p. s.others _ (inr (omega arith)))

-- An interval ends and another one begins.
pub begun : (f n : ℕ) (old : Kept) (count : ℕ) (from before : Value) (ws ws' : List ℕ) (new : Kept) → f + suc n ≤ field_count → old.last ≤ old.next
    → new.last ≡ old.next → new.next ≡ old.next + count → number new.low ≡ number from → number before ≡ number from - 1
    → part_rows (f + 1) n ws old.last (old.next - old.last) ≢ part_rows (f + 1) n ws old.next count
    → Stamped f n old.last old.next (number old.low) (number before) ws ws'
    → Begun f n old count (number from) ws ws' new
begun f n old count from before ws ws' new h g p q r e d s = record {
  last = p;
  next = q;
  low = r;
  apart = d;
  done = rw e at (stamped_done f n old.last old.next (number old.low) (number before) ws ws' s h g);
  block = stamped-behind f n old.last old.next (number old.low) (number before) ws ws' s (f + 1) n (omega arith) count;
}

-- The two answers of a layout.
module _ (limit f n : ℕ) (form : List (Row Parting)) (ws : List ℕ) where
  pub laid-rows : (c : ℕ) → part_rows f n ws 0 c ≡ form → c ≤ limit → LaidOut limit f n form ws (Ok c)
  laid-rows c e h =
      let l : length form ≡ c = sym (ap length e) ∙ rows-length f n ws 0 c in
      record { answer = rw (l, le-leb c limit h); written = λ g. rw l e }

  pub laid_over : limit < length form → LaidOut limit f n form ws (Err Over)
  laid_over h = record { answer = rw (lt-leb (length form) limit h); written = λ g. absurd (omega arith) }

-- The words for a field's layout: those for the rows within the limit, and those for the layout behind it, which are no fewer.
pub words-next : (limit f : ℕ) → f < field_count → (words_for limit (field_count - f) ≡ limit * row_words + words_for limit (field_count - (f + 1))) × (limit * row_words ≤ words_for limit (field_count - (f + 1)))
unfolding words_for
words-next limit f h =
    let e : field_count - f + 1 ≡ suc (field_count - (f + 1) + 1) = omega arith in
    let g : field_count - (f + 1) + 1 ≡ suc (field_count - (f + 1)) = omega arith in
    (rw e (suc-mul (field_count - (f + 1) + 1) (limit * row_words) ∙ omega arith), rw g (omega (arith, suc-mul (field_count - (f + 1)) (limit * row_words))))
