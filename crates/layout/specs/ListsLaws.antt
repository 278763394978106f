-- Laws of lists of rows. Assumes nothing.
use Prim.Native.Nat.{ℕ, zero, suc, ◌+◌, ◌-◌, ◌*◌, ◌/◌, ◌≤◌, ◌<◌}
use native.Mathlib.Omega.{arith}
use Rattle.std.proofs.lemmas.List.Sums.{length-filter, count_by-le-length}
use Rattle.std.proofs.Math.Nat.{min-le_left, min-le_right, min-eq_left}
use Rattle.std.proofs.Common.{add-one, ◌∙◌, ⊎_elim, append-nil, drop-cons}
use Rattle.std.proofs.lemmas.List.Elements.{filter-append}
use Rattle.std.proofs.Math.Path.{◌≡◌, refl, sym, ap}
use Rattle.std.specs.Prelude.{Bool, ◌&&◌, drop, filter, ◌⊎◌}
use Rattle.std.proofs.Math.Bool.{true, false, cond, and-true, and_assoc}
use mathlib.Core.List.{List, [], ◌∷◌, ◌++◌}
use Rattle.std.proofs.Math.ListN.{length, get_or}
use Rattle.std.proofs.Math.Seq.{length-sets}
use Rattle.selectors.specs.Range.{contains, holds}
use Rattle.selectors.specs.Value.{number}
use Rattle.selectors.specs.Words.{field_count, value_words, ranges_from, values_from, words_of_value}
use Rattle.selectors.specs.declared.Direction.{Direction}
use Rattle.selectors.specs.declared.Value.{Value}
use Rattle.policy.specs.Policy.{applies_to, ordered_search}
use Rattle.policy.specs.Words.{action_word, action_of_word, direction_of, row_at, rows_from, policy_rows, row_words, row_limit}
use Rattle.policy.proofs.WordsLaws.{action-word}
use Rattle.policy.specs.declared.Action.TheVariants.{Discard}
use Rattle.cover.specs.Boxes.{ranges_word}
use Rattle.cover.specs.RangesLaws.{ranges-length, ranges_split, written}
use Rattle.agree.specs.Sides.{action_in, range_of, There}
use Rattle.layout.specs.Decode.{row_ranges, active}
use Rattle.layout.specs.DecodeLaws.{active-matches}
use Rattle.layout.specs.Steps.{AlikeTo, IntervalEnd}
use Rattle.layout.specs.StepsLaws.{alike_less, each_more}
use Rattle.layout.specs.FormLaws.{values_length, values_with, holds-append}
use Rattle.layout.specs.Lists.{up_from, listed, Lists, Narrowed, AlikeListed, BranchAt}

up_from_more : (i n : ℕ) → up_from i (suc n) ≡ up_from i n ++ (i + n) ∷ []
unfolding up_from
up_from_more i zero = let e : i + 0 ≡ i = omega arith in rw e
up_from_more i (suc n) = let e : suc i + n ≡ i + suc n = omega arith in ap (i ∷◌) (up_from_more (suc i) n ∙ rw e)

pub rows_more : (n : ℕ) → up_from 0 (n + 1) ≡ up_from 0 n ++ n ∷ []
rows_more n = let e : 0 + n ≡ n = omega arith in rw add-one (up_from_more 0 n ∙ rw e)

-- One number more: it is taken, or passed over.
pub rows_next : (p : ℕ → Bool) (n : ℕ) (old new : List ℕ) → old ≡ filter p (up_from 0 n)
    → ((p n ≡ true) × (new ≡ old ++ n ∷ [])) ⊎ ((p n ≡ false) × (new ≡ old)) → new ≡ filter p (up_from 0 (n + 1))
rows_next p n old new e o =
    rw (rows_more n, filter-append p (up_from 0 n) (n ∷ []), ← e)
    (⊎_elim (λ w. w.1 ∙ rw w.0) (λ w. w.1 ∙ rw w.0 (sym (append-nil old))) o)

-- One test after another.
pub filter_both : (p q r : ℕ → Bool) → ((x : ℕ) → r x ≡ (p x && q x)) → (xs : List ℕ) → filter r xs ≡ filter q (filter p xs)
filter_both p q r e [] = refl
filter_both p q r e (x ∷ xs) = rw (e x) (by (p x) (q x) refl refl (filter_both p q r e xs))
  where
    by : (a b : Bool) → p x ≡ a → q x ≡ b → filter r xs ≡ filter q (filter p xs)
        → cond (p x && q x) (x ∷ filter r xs) (filter r xs) ≡ filter q (cond (p x) (x ∷ filter p xs) (filter p xs))
    by true true s t ih = rw (s, t, ih)
    by true false s t ih = rw (s, t, ih)
    by false b s t ih = rw (s, ih)

-- The numbers that a test takes from n numbers from i on are among these.
module _ (p : ℕ → Bool) where
  filter_below : (i n k : ℕ) → k < length (filter p (up_from i n)) → get_or (filter p (up_from i n)) k 0 < i + n
  unfolding up_from
  filter_below i zero k h = absurd (omega arith)
  filter_below i (suc n) k h = by (p i) refl (filter p (up_from (suc i) n)) (λ j g. filter_below (suc i) n j g) k h
    where
      by : (b : Bool) → p i ≡ b → (xs : List ℕ) → ((j : ℕ) → j < length xs → get_or xs j 0 < suc i + n)
          → (k : ℕ) → k < length (cond (p i) (i ∷ xs) xs) → get_or (cond (p i) (i ∷ xs) xs) k 0 < i + suc n
      by true e xs ih zero g = rw e (omega arith)
      by true e xs ih (suc k) g = let l : suc k < length (i ∷ xs) = rw e at g in rw e (omega (arith, ih k (omega arith)))
      by false e xs ih k g = rw e (omega (arith, ih k (rw e at g)))

-- A test takes no more numbers than there are.
pub filter_fits : (p : ℕ → Bool) (xs : List ℕ) → length (filter p xs) ≤ length xs
filter_fits p xs = omega (arith, length-filter p xs, count_by-le-length p xs)

pub up_from-length : (i n : ℕ) → length (up_from i n) ≡ n
unfolding up_from
up_from-length i zero = refl
up_from-length i (suc n) = ap suc (up_from-length (suc i) n)

-- The rows of a list, one after the other.
module _ (ws xs : List ℕ) (f from : ℕ) where
  pub listed_start : (best : ℕ) → from ≤ best → IntervalEnd from best best (AlikeListed ws xs 0 f from best)
  unfolding AlikeListed
  listed_start best h = record { reaches = h; within = omega arith; alike = λ i g. absurd (omega arith) }

  pub listed_more : (n best last last' : ℕ) → IntervalEnd from best last (AlikeListed ws xs n f from last)
      → IntervalEnd from last last' (AlikeTo (range_of ws (get_or xs n 0) f) from last') → IntervalEnd from best last' (AlikeListed ws xs (n + 1) f from last')
  unfolding AlikeListed
  listed_more n best last last' s t =
      each_more (λ i l. AlikeTo (range_of ws (get_or xs i 0) f) from l) (λ i l l' h a. alike_less _ from l l' h a) from n best last last' s t

-- The listed rows of a policy that are active are rows of it.
pub lists_within : (d : Direction) (ws : List ℕ) (f : ℕ) (before list : List ℕ) → Lists d ws f before list → There ws list
lists_within d ws f before list e = rw e record {
  fits = omega (arith, filter_fits (λ i. active d ws i f before) (up_from 0 (listed ws)), up_from-length 0 (listed ws), min-le_right (length ws / row_words) row_limit);
  places = λ k h. omega (arith, filter_below (λ i. active d ws i f before) 0 (listed ws) k h, min-le_left (length ws / row_words) row_limit);
}

-- A row is active behind one more value if it was before and its range of the field holds the value.
module _ (d : Direction) (ws : List ℕ) (f : ℕ) (before : List ℕ) (e : length before ≡ f) (v : ℕ) where
  pub active-next : (i : ℕ) → active d ws i (f + 1) (before ++ v ∷ []) ≡ (active d ws i f before && contains (range_of ws i f) v)
  unfolding active ranges_from holds
  active-next i =
      let z : 0 + f ≡ f = omega arith in
      rw (
        ranges_split ws (ranges_word i) 0 f 1,
        z,
        holds-append (row_ranges ws i 0 f) (range_of ws i f ∷ []) before (v ∷ []) (ranges-length ws (ranges_word i) 0 f ∙ sym e),
        and-true,
      ) (sym (and_assoc (applies_to (direction_of (get_or ws (i * row_words) 0)) d) (holds (row_ranges ws i 0 f) before) (contains (range_of ws i f) v)))

  pub lists-next : (old list : List ℕ) → Lists d ws f before old → Narrowed ws f v old list → Lists d ws (f + 1) (before ++ v ∷ []) list
  lists-next old list s t = t ∙ ap (filter _) s ∙ sym (filter_both _ _ _ active-next _)

-- The first row that is active behind all fields is the first match.
module _ (d : Direction) (ws vs : List ℕ) where
  search-found : (i m k j : ℕ) (js : List ℕ) → filter (λ n. active d ws n field_count vs) (up_from i m) ≡ j ∷ js
      → ordered_search d (rows_from ws i (m + k)) vs ≡ action_of_word (action_in ws j)
  unfolding up_from ordered_search rows_from row_at
  search-found i zero k j js e = let z : ◌≡◌ {A = ℕ} 0 1 = cc in absurd (omega arith)
  search-found i (suc m) k j js e =
      let n : suc m + k ≡ suc (m + k) = omega arith in
      ap (λ (c : ℕ). ordered_search d (rows_from ws i c) vs) n
      ∙ rw (← (active-matches d ws i vs)) (by (active d ws i field_count vs) refl (filter (λ n. active d ws n field_count vs) (up_from (suc i) m)) (λ q. search-found (suc i) m k j js q) e)
    where
      by : (b : Bool) → active d ws i field_count vs ≡ b → (xs : List ℕ)
          → (xs ≡ j ∷ js → ordered_search d (rows_from ws (suc i) (m + k)) vs ≡ action_of_word (action_in ws j))
          → cond (active d ws i field_count vs) (i ∷ xs) xs ≡ j ∷ js
          → cond (active d ws i field_count vs) (action_of_word (action_in ws i)) (ordered_search d (rows_from ws (suc i) (m + k)) vs)
          ≡ action_of_word (action_in ws j)
      by true a xs ih q = let p : i ∷ xs ≡ j ∷ js = rw a at q in let z : i ≡ j = cc in rw (a, z)
      by false a xs ih q = rw a (ih (rw a at q))

  search_none : (i m : ℕ) → filter (λ n. active d ws n field_count vs) (up_from i m) ≡ [] → ordered_search d (rows_from ws i m) vs ≡ Discard
  unfolding up_from ordered_search rows_from
  search_none i zero e = refl
  search_none i (suc m) e =
      rw (← (active-matches d ws i vs)) (by (active d ws i field_count vs) refl (filter (λ n. active d ws n field_count vs) (up_from (suc i) m)) (λ q. search_none (suc i) m q) e)
    where
      by : (b : Bool) → active d ws i field_count vs ≡ b → (xs : List ℕ) → (xs ≡ [] → ordered_search d (rows_from ws (suc i) m) vs ≡ Discard)
          → cond (active d ws i field_count vs) (i ∷ xs) xs ≡ []
          → cond (active d ws i field_count vs) (row_at ws (i * row_words)).action (ordered_search d (rows_from ws (suc i) m) vs) ≡ Discard
      by true a xs ih q = let p : i ∷ xs ≡ [] = rw a at q in let z : ◌≡◌ {A = ℕ} 0 1 = cc in absurd (omega arith)
      by false a xs ih q = rw a (ih (rw a at q))

  module _ (list : List ℕ) (t : Lists d ws field_count vs list) where
    pub lists-found : 0 < length list → action_in ws (get_or list 0 0) ≡ action_word (ordered_search d (policy_rows ws) vs)
    lists-found h =
        let m : length ws / row_words ≡ listed ws + (length ws / row_words - listed ws) = omega (arith, min-le_left (length ws / row_words) row_limit) in
        let r : ordered_search d (policy_rows ws) vs ≡ action_of_word (action_in ws (get_or list 0 0)) =
        ap (λ (c : ℕ). ordered_search d (rows_from ws 0 c) vs) m
        ∙ search-found 0 (listed ws) (length ws / row_words - listed ws) (get_or list 0 0) (drop 1 list) (sym t ∙ drop-cons list 0 0 h) in
        sym (ap action_word r ∙ action-word (action_in ws (get_or list 0 0)))

    pub lists_none : length list < 1 → length ws / row_words ≤ row_limit → 0 ≡ action_word (ordered_search d (policy_rows ws) vs)
    lists_none e h =
        let m : listed ws ≡ length ws / row_words = min-eq_left h in
        sym (ap action_word (search_none 0 (length ws / row_words) (rw m at (sym t ∙ none list e))))
      where
        none : (xs : List ℕ) → length xs < 1 → xs ≡ []
        none [] e = refl
        none (x ∷ xs) e = absurd (omega arith)

-- A branch with a value more is one at the next field, and one without values is one at the first field.
module _ (d : Direction) (first second : List ℕ) where
  pub branch-next : (f : ℕ) (v : Value) (ps ps' xs ys xs' ys' : List ℕ) → f < field_count → BranchAt d first second f ps xs ys
      → ps' ≡ written ps (value_words * f) (number v) → Narrowed first f (number v) xs xs' → Narrowed second f (number v) ys ys'
      → BranchAt d first second (f + 1) ps' xs' ys'
  branch-next f v ps ps' xs ys xs' ys' h s w p q =
      let e : values_from ps' 0 (f + 1) ≡ values_from ps 0 f ++ number v ∷ [] =
      ap (λ (us : List ℕ). values_from us 0 (f + 1)) w ∙ values_with ps f (number v) (omega (arith, s.sized)) in
      record {
        sized = rw (w, length-sets ps (value_words * f) (words_of_value (number v))) s.sized;
        of-first = rw e (lists-next d first f _ (values_length _ 0 f) (number v) xs xs' s.of-first p);
        of-second = rw e (lists-next d second f _ (values_length _ 0 f) (number v) ys ys' s.of-second q);
      }

  pub branch_start : (ps xs ys : List ℕ) → length ps ≡ field_count * value_words → Lists d first 0 [] xs → Lists d second 0 [] ys
      → BranchAt d first second 0 ps xs ys
  unfolding values_from
  branch_start ps xs ys e s t = record { sized = e; of-first = s; of-second = t }
