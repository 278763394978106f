-- Laws of boxes: how a row stands to one, its parts, and what it has in common with a row. Assumes nothing.
use Rattle.std.specs.Prelude.{◌≡◌, ℕ, zero, suc, ◌+◌, ◌-◌, ◌*◌, ◌<◌, ◌≤◌, Bool, true, false, not, ◌≢◌, ◌⊎◌, List, [], ◌∷◌, length, nat_lt, slice_index, slice_index_or, refl}
use Rattle.std.specs.Bool.{MatchBool}
use Rattle.std.specs.List.{range_with_len, AllWithin, HoldsAt}
use Rattle.std.proofs.lemmas.List.FromFn.{get_or-range_with_len, length-range_with_len}
use native.Mathlib.Omega.{arith}
use Rattle.std.proofs.Math.Decide.{dec_lt, ℕ_discrete}
use Rattle.std.proofs.Math.Nat.{add-zero}
use Rattle.std.proofs.Common.{zero-add, sym, ap, ◌∙◌, inl, inr}
use Rattle.std.proofs.Math.Bool.{false≢true}
use Rattle.std.proofs.Math.Logic.{⊎_elim}
use borrow.Author.Tests.{ltb-true, ltb-false}
use Rattle.selectors.specs.Range.{Range, range, contains, holds}
use Rattle.selectors.proofs.RangeLaws.{both_true, contains_in, contains_below, contains_above, contains_between}
use Rattle.selectors.specs.Value.{number}
use Rattle.selectors.specs.Words.{field_count, range_words, ranges_words, value_at, ends_at, range_at}
use Rattle.selectors.specs.Ranges.{ends_range}
use Rattle.selectors.specs.declared.ranges.Ends.{Ends}
use Rattle.cover.specs.Boxes.{ranges_word, ranges_behind, InBox, row_of, table_of, code_holds, Lowered, Raised, Narrowed, Part, Common, Apart, Covers, RowsApart, RangeApart, RangeCovers, FieldStand, BoxStand, Covered, Surveyed}
use Rattle.cover.specs.RangesLaws.{ranges-length, range-of, written, value_own, value_other}
use Rattle.cover.specs.declared.standing.Cut.{Cut}
use Rattle.cover.specs.declared.standing.Stand.{Stand}
use Rattle.cover.specs.declared.standing.Stand.TheVariants.{Outside, Covering, Across, Unknown}

-- Ranges hold values where each one holds its own.
holds-length : (rs : List Range) (us : List ℕ) → holds rs us ≡ true → length us ≡ length rs
unfolding holds
holds-length [] [] e = refl
holds-length [] (v ∷ us) e = absurd (false≢true e)
holds-length (r ∷ rs) [] e = absurd (false≢true e)
holds-length (r ∷ rs) (v ∷ us) e = ap suc (holds-length rs us (both_true (contains r v) _ e).1)

holds_each : (rs : List Range) (us : List ℕ) (z : Range) → holds rs us ≡ true → (k : ℕ) → k < length rs → contains (slice_index_or rs k z) (slice_index us k) ≡ true
unfolding holds
holds_each [] us z e k h = absurd (omega arith)
holds_each (r ∷ rs) [] z e k h = absurd (false≢true e)
holds_each (r ∷ rs) (v ∷ us) z e zero h = (both_true (contains r v) _ e).0
holds_each (r ∷ rs) (v ∷ us) z e (suc k) h = holds_each rs us z (both_true (contains r v) _ e).1 k (omega arith)

holds_all : (rs : List Range) (us : List ℕ) (z : Range) → length us ≡ length rs → ((k : ℕ) → k < length rs → contains (slice_index_or rs k z) (slice_index us k) ≡ true)
    → holds rs us ≡ true
unfolding holds
holds_all [] [] z e t = refl
holds_all [] (v ∷ us) z e t = absurd (omega arith)
holds_all (r ∷ rs) [] z e t = absurd (omega arith)
holds_all (r ∷ rs) (v ∷ us) z e t = rw (t 0 (omega arith)) (holds_all rs us z (omega arith) (λ k h. t (suc k) (omega arith)))

abbrev nothing : Range
nothing = range 0 0

-- The ranges at a word, from the field f on, hold values: in the field g, in all of these fields, not in one.
abbrev HeldIn : List ℕ → ℕ → ℕ → ℕ → List ℕ → Type 0
HeldIn ws at f g us = contains (range_at ws (at + range_words * g)) (slice_index us (g - f)) ≡ true

module _ (ws : List ℕ) (at f : ℕ) (us : List ℕ) where
  field_held : holds (ranges_behind ws at f) us ≡ true → (g : ℕ) → f ≤ g → g < field_count → HeldIn ws at f g us
  field_held e g l h =
      let k : f + (g - f) ≡ g = omega arith in
      rw (range-of ws at f (field_count - f) (g - f) (omega arith), k) at (holds_each (ranges_behind ws at f) us nothing e (g - f) (rw ranges-length (omega arith)))

  fields_hold : length us ≡ field_count - f → ((g : ℕ) → f ≤ g → g < field_count → HeldIn ws at f g us) → holds (ranges_behind ws at f) us ≡ true
  fields_hold e t = holds_all (ranges_behind ws at f) us nothing (e ∙ sym (ranges-length ws at f (field_count - f))) each
    where
      each : (k : ℕ) → k < length (ranges_behind ws at f) → contains (slice_index_or (ranges_behind ws at f) k nothing) (slice_index us k) ≡ true
      each k h =
          let l : f + k < field_count = omega (arith, ranges-length ws at f (field_count - f)) in
          let m : f + k - f ≡ k = omega arith in
          rw (range-of ws at f (field_count - f) k (omega arith)) (rw m at (t (f + k) (omega arith) l))

  field-missed : (g : ℕ) → f ≤ g → g < field_count → contains (range_at ws (at + range_words * g)) (slice_index us (g - f)) ≡ false → holds (ranges_behind ws at f) us ≡ false
  field-missed g l h e = by (holds (ranges_behind ws at f) us) refl
    where
      by : (b : Bool) → holds (ranges_behind ws at f) us ≡ b → holds (ranges_behind ws at f) us ≡ false
      by true t = absurd (false≢true (sym e ∙ field_held t g l h))
      by false t = t

-- The same of a box, whose words begin at 0.
box-length : (bs : List ℕ) (f : ℕ) (us : List ℕ) → InBox f bs us → length us ≡ field_count - f
box-length bs f us e = holds-length (ranges_behind bs 0 f) us e ∙ ranges-length bs 0 f (field_count - f)

box_held : (bs : List ℕ) (f : ℕ) (us : List ℕ) → InBox f bs us → (g : ℕ) → f ≤ g → g < field_count → contains (range_at bs (range_words * g)) (slice_index us (g - f)) ≡ true
box_held bs f us e g l h = simp zero-add at (field_held bs 0 f us e g l h)

box-holds : (bs : List ℕ) (f : ℕ) (us : List ℕ) → length us ≡ field_count - f → ((g : ℕ) → f ≤ g → g < field_count → contains (range_at bs (range_words * g)) (slice_index us (g - f)) ≡ true) → InBox f bs us
box-holds bs f us e t = fields_hold bs 0 f us e (λ g l h. simp zero-add (t g l h))

-- How two ranges stand by the order of their ends.
module _ (row box : Range) where
  pub range_below : row.high < box.low → RangeApart row box
  range_below h v i = contains_above row v (omega (arith, contains_between box v i))

  pub range_above : box.high < row.low → RangeApart row box
  range_above h v i = contains_below row v (omega (arith, contains_between box v i))

  pub range_covers : row.low ≤ box.low → box.high ≤ row.high → RangeCovers row box
  range_covers p q v i = contains_in row v (omega (arith, contains_between box v i)) (omega (arith, contains_between box v i))

-- In one field: outside, across, or as before.
module _ (s : Stand) (row box : Range) where
  pub field_outside : RangeApart row box → FieldStand s row box Outside
  field_outside t = record { apart = λ e. t; covers = λ e. absurd cc }

  pub field_across : (cut : Cut) → FieldStand s row box (Across cut)
  field_across cut = record { apart = λ e. absurd cc; covers = λ e. absurd cc }

  pub field_covered : s ≢ Outside → RangeCovers row box → FieldStand s row box s
  field_covered n t = record { apart = λ e. absurd (n e); covers = λ e. (e, t) }

-- Any stand that is not said to cover, or that says neither.
module _ (s r : Stand) (row box : Range) where
  pub field_apart : r ≢ Covering → RangeApart row box → FieldStand s row box r
  field_apart c t = record { apart = λ e. t; covers = λ e. absurd (c e) }

  pub field_cut : r ≢ Outside → r ≢ Covering → FieldStand s row box r
  field_cut a c = record { apart = λ e. absurd (a e); covers = λ e. absurd (c e) }

-- The row holds the box's values in each of the fields from f on and before n.
unfoldable pub CoversTo : List ℕ → ℕ → ℕ → List ℕ → ℕ → Type 0
CoversTo ws at f bs n = (g : ℕ) → f ≤ g → g < n → RangeCovers (range_at ws (at + range_words * g)) (range_at bs (range_words * g))

module _ (ws : List ℕ) (at f : ℕ) (bs : List ℕ) where
  -- One field in which they are apart is enough; all have to be covered.
  pub field_parts : (n : ℕ) → f ≤ n → n < field_count → RangeApart (range_at ws (at + range_words * n)) (range_at bs (range_words * n)) → Apart ws at f bs
  unfolding Apart
  field_parts n l h t us i = field-missed ws at f us n l h (t (slice_index us (n - f)) (box_held bs f us i n l h))

  pub covers_none : CoversTo ws at f bs f
  unfolding CoversTo
  covers_none g l h = absurd (omega arith)

  pub covers_before : (n : ℕ) → n ≤ f → CoversTo ws at f bs n
  unfolding CoversTo
  covers_before n k g l h = absurd (omega arith)

  pub covers_more : (n : ℕ) → CoversTo ws at f bs n → RangeCovers (range_at ws (at + range_words * n)) (range_at bs (range_words * n)) → CoversTo ws at f bs (n + 1)
  unfolding CoversTo
  covers_more n old t g p q = by (dec_lt g n)
    where
      by : Dec (g < n) → RangeCovers (range_at ws (at + range_words * g)) (range_at bs (range_words * g))
      by (yes m) = old g p m
      by (no m) = let k : g ≡ n = omega arith in rw k t

  pub covers_all : (n : ℕ) → field_count ≤ n → CoversTo ws at f bs n → Covers ws at f bs
  unfolding CoversTo Covers
  covers_all n q t us i = fields_hold ws at f us (box-length bs f us i) (λ g l h. t g l (omega arith) (slice_index us (g - f)) (box_held bs f us i g l h))

  pub box_outside : (n : ℕ) (s r : Stand) → f ≤ n → n < field_count → r ≡ Outside → FieldStand s (range_at ws (at + range_words * n)) (range_at bs (range_words * n)) r
      → BoxStand ws at f bs r
  box_outside n s r l h a t = record { apart = λ e. field_parts n l h (t.apart e); covers = λ e. absurd cc }

  pub box_covered : (s : Stand) → s ≢ Outside → (s ≡ Covering → Covers ws at f bs) → BoxStand ws at f bs s
  box_covered s n t = record { apart = λ e. absurd (n e); covers = t }

  pub box_unknown : (s : Stand) → s ≢ Outside → s ≢ Covering → BoxStand ws at f bs s
  box_unknown s a c = box_covered s a (λ e. absurd (c e))

  pub box_not_known : BoxStand ws at f bs Unknown
  box_not_known = record { apart = λ e. absurd cc; covers = λ e. absurd cc }

  pub covers_each : ((g : ℕ) → f ≤ g → g < field_count → RangeCovers (range_at ws (at + range_words * g)) (range_at bs (range_words * g))) → Covers ws at f bs
  unfolding Covers
  covers_each t us i = fields_hold ws at f us (box-length bs f us i) (λ g l h. t g l h (slice_index us (g - f)) (box_held bs f us i g l h))

-- What is true in some field from f on; and in all of them.
module _ (f : ℕ) (P : ℕ → Type 0) where
  abbrev fields : List ℕ
  fields = range_with_len f (field_count - f)

  pub any_field : (r : Bool) (No : Type 0) → MatchBool r ((k : ℕ) × (k < length fields) × HoldsAt P fields k) No → r ≡ true → (g : ℕ) × (f ≤ g) × (g < field_count) × P g
  any_field true No m e =
      let h : m.0 < field_count - f = rw (length-range_with_len f (field_count - f)) at m.1 in
      (f + m.0, omega arith, omega arith, rw (get_or-range_with_len f (field_count - f) m.0 0 h) at (m.2 0))
  any_field false No m e = absurd (false≢true e)

  pub all_fields : (r : Bool) (No : Type 0) → MatchBool r (AllWithin P fields 0 (length fields)) No → r ≡ true → (g : ℕ) → f ≤ g → g < field_count → P g
  all_fields true No m e g l h =
      let k : f + (g - f) ≡ g = omega arith in
      rw (get_or-range_with_len f (field_count - f) (g - f) 0 (omega arith), k) at (m (g - f) 0 (omega arith) (rw (length-range_with_len f (field_count - f)) (omega arith)))
  all_fields false No m e g l h = absurd (false≢true e)

-- Two rows are apart where their ranges of one field are.
pub rows_part : (ws : List ℕ) (a b f n : ℕ) → f ≤ n → n < field_count → RangeApart (range_at ws (ranges_word a + range_words * n)) (range_at ws (ranges_word b + range_words * n)) → RowsApart ws a b f
unfolding RowsApart
rows_part ws a b f n l h t us i j =
    false≢true (sym (t (slice_index us (n - f)) (field_held ws (ranges_word b) f us j n l h)) ∙ field_held ws (ranges_word a) f us i n l h)

-- The words of two fields lie apart.
fields_beside : (k g j l : ℕ) → k ≢ g → j ≤ 2 → l ≤ 2 → (range_words * k + j + 1 < range_words * g + l) ⊎ (range_words * g + l + 1 < range_words * k + j)
fields_beside k g j l q p r = by (dec_lt k g)
  where
    by : Dec (k < g) → (range_words * k + j + 1 < range_words * g + l) ⊎ (range_words * g + l + 1 < range_words * k + j)
    by (yes h) = inl (omega arith)
    by (no h) = let m : g < k = omega (arith, q) in inr (omega arith)

-- A box with another end in the field g, at the word j of the field: the range of that field is new, and no other.
module _ (bs : List ℕ) (g j n : ℕ) (p : j ≤ 2) where
  range_other : (k : ℕ) → k ≢ g → range_at (written bs (range_words * g + j) n) (range_words * k) ≡ range_at bs (range_words * k)
  range_other k q =
      rw (value_other bs (range_words * g + j) n (range_words * k) (simp add-zero at (fields_beside k g 0 j q (omega arith) p)), value_other bs (range_words * g + j) n (range_words * k + 2) (fields_beside k g 2 j q (omega arith) p))

  box-written : (f : ℕ) (us : List ℕ) → InBox f bs us → (f ≤ g → contains (range_at (written bs (range_words * g + j) n) (range_words * g)) (slice_index us (g - f)) ≡ true)
      → InBox f (written bs (range_words * g + j) n) us
  box-written f us i t = box-holds _ f us (box-length bs f us i) (λ k l h. by k l h (ℕ_discrete k g))
    where
      by : (k : ℕ) → f ≤ k → k < field_count → Dec (k ≡ g) → contains (range_at (written bs (range_words * g + j) n) (range_words * k)) (slice_index us (k - f)) ≡ true
      by k l h (yes q) = rw q (t (omega arith))
      by k l h (no q) = rw (range_other k q) (box_held bs f us i k l h)

module _ (bs bs' : List ℕ) (g n : ℕ) (h : g < field_count) (size : length bs ≡ ranges_words) where
  pub written_high : bs' ≡ written bs (range_words * g + 2) n → Lowered g n bs bs'
  unfolding Lowered
  written_high e f us i l = rw e (box-written bs g 2 n (omega arith) f us i (λ m.
      rw (value_own bs (range_words * g + 2) n (omega arith), value_other bs (range_words * g + 2) n (range_words * g) (inl (omega arith)))
      (contains_in (range (number (value_at bs (range_words * g))) n) (slice_index us (g - f)) (contains_between _ _ (box_held bs f us i g m h)).0 l)))

  pub written_low : bs' ≡ written bs (range_words * g) n → Raised g n bs bs'
  unfolding Raised
  written_low e f us i l = rw e ((simp add-zero at (box-written bs g 0 n (omega arith) f us i)) (λ m.
      rw (value_own bs (range_words * g) n (omega arith), value_other bs (range_words * g) n (range_words * g + 2) (inr (omega arith)))
      (contains_in (range n (number (value_at bs (range_words * g + 2)))) (slice_index us (g - f)) l (contains_between _ _ (box_held bs f us i g m h)).1)))

-- The box itself has what is in it.
module _ (g n : ℕ) (bs : List ℕ) where
  pub raised_none : Raised g n bs bs
  unfolding Raised
  raised_none f us i l = i

  pub lowered_none : Lowered g n bs bs
  unfolding Lowered
  lowered_none f us i l = i

pub narrowed : (g : ℕ) (r : Range) (bs above bs' : List ℕ) → Raised g r.low bs above → Lowered g r.high above bs' → Narrowed g r bs bs'
unfolding Raised Lowered Narrowed
narrowed g r bs above bs' s t f us i e =
    let b = contains_between r (slice_index us (g - f)) e in t f us (s f us i b.0) b.1

-- The parts on the two sides of a value.
module _ (g at : ℕ) (bs bs' : List ℕ) where
  pub part_upper : Raised g at bs bs' → Part g at true bs bs'
  unfolding Raised Part
  part_upper t f us i e = t f us i (ltb-false _ _ e)

  pub part-lower : (n : ℕ) → n ≡ at - 1 → Lowered g n bs bs' → Part g at false bs bs'
  unfolding Lowered Part
  part-lower n m t f us i e = t f us i (omega (arith, ltb-true (slice_index us (g - f)) at e))

-- What a box has in common with a row, field by field.
module _ (ws : List ℕ) (at f : ℕ) (bs : List ℕ) where
  pub common_none : Common ws at f bs bs
  unfolding Common
  common_none us i e = i

  pub common_more : (g : ℕ) (row : Ends) (bs' bs'' : List ℕ) → f ≤ g → g < field_count → row ≡ ends_at ws (at + range_words * g)
      → Common ws at f bs bs' → Narrowed g (ends_range row) bs' bs'' → Common ws at f bs bs''
  unfolding Common Narrowed
  common_more g row bs' bs'' l h p t n us i e = n f us (t us i e) (rw p (field_held ws at f us e g l h))

-- A test has one of the two answers.
one_side : (b u : Bool) → (b ≡ not u) ⊎ (b ≡ not (not u))
one_side true true = inr refl
one_side true false = inl refl
one_side false true = inl refl
one_side false false = inr refl

-- The listed rows cover a box that one of them covers; a survey says so.
module _ (first second es : List ℕ) (f : ℕ) (bs : List ℕ) where
  pub surveyed-row : (k : ℕ) (s : Stand) → k < length es → BoxStand (table_of first second (slice_index es k)) (ranges_word (row_of (slice_index es k))) f bs s
      → Surveyed first second es f bs s
  unfolding Surveyed Covered Covers
  surveyed-row k s h t c us i miss = false≢true (sym (miss k h) ∙ t.covers c us i)

  pub surveyed_covering : (k : ℕ) → k < length es → Covers (table_of first second (slice_index es k)) (ranges_word (row_of (slice_index es k))) f bs
      → Surveyed first second es f bs Covering
  unfolding Surveyed Covered Covers
  surveyed_covering k h t c us i miss = false≢true (sym (miss k h) ∙ t us i)

  pub surveyed_none : (s : Stand) → s ≢ Covering → Surveyed first second es f bs s
  unfolding Surveyed
  surveyed_none s n e = absurd (n e)

  -- What no listed row holds in the box is in the other one.
  unfoldable pub Rest : List ℕ → Type 0
  Rest rest = (us : List ℕ) → InBox f bs us → ((k : ℕ) → k < length es → code_holds first second f (slice_index es k) us ≡ false) → InBox f rest us

  pub rest_all : Rest bs
  unfolding Rest
  rest_all us i miss = i

  pub rest_surveyed : (rest : List ℕ) (s : Stand) → Rest rest → Surveyed first second es f rest s → s ≡ Covering → Covered first second es f bs
  unfolding Rest Surveyed Covered
  rest_surveyed rest s r t c us i miss = t c us (r us i miss) miss

  pub rest_part : (rest near far : List ℕ) (g at : ℕ) (upper : Bool) → Rest rest → Part g at upper rest near → Covered first second es f near → Part g at (not upper) rest far
      → Rest far
  unfolding Rest Covered Part
  rest_part rest near far g at upper r p t q us i miss =
      let here = r us i miss in
      ⊎_elim (λ e. absurd (t us (p f us here e) miss)) (λ e. q f us here e) (one_side (nat_lt (slice_index us (g - f)) at) upper)
