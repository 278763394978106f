-- What is known of two policies behind a point is known of their layouts there. Assumes nothing.
use Prim.Native.Nat.{ℕ, zero, suc, ◌+◌, ◌-◌, ◌*◌, ◌/◌, ◌≤◌, ◌<◌}
use native.Mathlib.Omega.{arith}
use Rattle.std.proofs.Math.Nat.{min-eq_left}
use Rattle.std.specs.Prelude.{◌≡◌, Bool, cond, ◌&&◌, length, get_or, drop, filter}
use Rattle.std.proofs.Math.Path.{refl, sym, ap}
use Rattle.std.proofs.Common.{◌∙◌, length-append, eq-eqb}
use Rattle.std.proofs.Math.Bool.{true, false, and_assoc}
use mathlib.Core.List.{List, [], ◌∷◌, ◌++◌, map}
use Rattle.selectors.specs.Range.{Range, range, contains, holds}
use Rattle.selectors.proofs.RangeLaws.{contains_in}
use Rattle.selectors.specs.Value.{number}
use Rattle.selectors.specs.Words.{field_count, value_at, ranges_from, value_of}
use Rattle.selectors.specs.declared.Direction.{Direction}
use Rattle.normal_form.specs.Search.{Combination, find}
use Rattle.normal_form.proofs.Laws.{normal_form_ext}
use Rattle.normal_form.proofs.ShapeLaws.{normal_form_empty}
use Rattle.policy.specs.Policy.{applies_to, matches, ordered_search}
use Rattle.policy.specs.Words.{action_word, direction_of, row_at, rows_from, policy_rows, row_words, row_limit}
use Rattle.policy.proofs.WordsLaws.{action-word}
use Rattle.cover.specs.Boxes.{ranges_word, ranges_behind, InBox}
use Rattle.cover.specs.RangesLaws.{ranges-length, ranges_split}
use Rattle.agree.specs.Sides.{action_in, row_behind, range_of, Alike, Cutting}
use Rattle.layout.specs.Parting.{parting-≟, agreed, parting_at}
use Rattle.layout.specs.Decode.{sizes_from, row_ranges, active}
use Rattle.layout.specs.DecodeLaws.{active-matches}
use Rattle.layout.specs.Steps.{form_at, AlikeTo, SearchAlike}
use Rattle.layout.specs.FormLaws.{holds-append}
use Rattle.layout.specs.Lists.{up_from, listed, Lists, AlikeListed, CutsAt}
use Rattle.layout.specs.ListsLaws.{filter_both, active-next, lists_within}
use Rattle.layout.specs.Stretches.{Whole}
use Rattle.layout.specs.declared.Point.{Point}
use Rattle.layout.specs.declared.branch.Task.{Task}

-- The box of all values holds every combination.
holds_tops : (ts us : List ℕ) → Combination (map (λ (t : ℕ). t + 1) ts) us → holds (map (λ (t : ℕ). range 0 t) ts) us ≡ true
unfolding Combination holds
holds_tops [] [] c = refl
holds_tops [] (u ∷ us) c = absurd c
holds_tops (t ∷ ts) [] c = absurd c
holds_tops (t ∷ ts) (u ∷ us) c = rw (contains_in (range 0 t) u (omega arith) (omega (arith, c.0))) (holds_tops ts us c.1)

-- The search behind values of the first fields looks at the rows that are active there.
module _ (d : Direction) (ws : List ℕ) (f : ℕ) (before : List ℕ) (e : length before ≡ f) (h : f ≤ field_count) where
  matches-behind : (i : ℕ) (us : List ℕ)
      → matches d (row_at ws (i * row_words)) (before ++ us) ≡ (active d ws i f before && holds (ranges_behind ws (ranges_word i) f) us)
  unfolding active
  matches-behind i us =
      let k : field_count ≡ f + (field_count - f) = omega arith in
      let z : 0 + f ≡ f = omega arith in
      sym (active-matches d ws i (before ++ us))
      ∙ ap (applies_to (direction_of (get_or ws (i * row_words) 0)) d &&◌)
      (ap (λ (n : ℕ). holds (row_ranges ws i 0 n) (before ++ us)) k
      ∙ ap (λ (rs : List Range). holds rs (before ++ us)) (ranges_split ws (ranges_word i) 0 f (field_count - f))
      ∙ ap (λ (g : ℕ). holds (row_ranges ws i 0 f ++ row_ranges ws i g (field_count - f)) (before ++ us)) z
      ∙ holds-append (row_ranges ws i 0 f) (row_ranges ws i f (field_count - f)) before us (ranges-length ws (ranges_word i) 0 f ∙ sym e))
      ∙ sym (and_assoc (applies_to (direction_of (get_or ws (i * row_words) 0)) d) (holds (row_ranges ws i 0 f) before) (holds (ranges_behind ws (ranges_word i) f) us))

  search-behind : (us : List ℕ) (i n : ℕ)
      → action_word (ordered_search d (rows_from ws i n) (before ++ us))
      ≡ find 0 (map (row_behind ws f) (filter (λ j. active d ws j f before) (up_from i n))) us
  unfolding ordered_search rows_from row_at up_from find
  search-behind us i zero = refl
  search-behind us i (suc n) =
      rw (matches-behind i us)
      (by (active d ws i f before) (holds (ranges_behind ws (ranges_word i) f) us) refl refl (search-behind us (suc i) n))
    where
      by : (a b : Bool) → active d ws i f before ≡ a → holds (ranges_behind ws (ranges_word i) f) us ≡ b
          → action_word (ordered_search d (rows_from ws (suc i) n) (before ++ us))
          ≡ find 0 (map (row_behind ws f) (filter (λ j. active d ws j f before) (up_from (suc i) n))) us
          → action_word (cond (active d ws i f before && holds (ranges_behind ws (ranges_word i) f) us) (row_at ws (i * row_words)).action (ordered_search d (rows_from ws (suc i) n) (before ++ us)))
          ≡ find 0 (map (row_behind ws f) (cond (active d ws i f before) (i ∷ filter (λ j. active d ws j f before) (up_from (suc i) n)) (filter (λ j. active d ws j f before) (up_from (suc i) n)))) us
      by true true p q ih = rw (p, q) (action-word (action_in ws i))
      by true false p q ih = rw (p, q) ih
      by false b p q ih = rw p ih

  -- The rows of a list that has just these.
  pub search-listed : length ws / row_words ≤ row_limit → (xs : List ℕ) → xs ≡ filter (λ j. active d ws j f before) (up_from 0 (listed ws)) → (us : List ℕ)
      → action_word (ordered_search d (policy_rows ws) (before ++ us)) ≡ find 0 (map (row_behind ws f) xs) us
  search-listed g xs q us =
      search-behind us 0 (length ws / row_words)
      ∙ ap (λ (n : ℕ). find 0 (map (row_behind ws f) (filter (λ j. active d ws j f before) (up_from 0 n))) us) (sym (min-eq_left g))
      ∙ ap (λ (ys : List ℕ). find 0 (map (row_behind ws f) ys) us) (sym q)

-- Rows that are enough to part the values of a field for a list of the active rows are enough for the policy.
pub cuts_at : (d : Direction) (ws : List ℕ) (f : ℕ) (before : List ℕ) → length before ≡ f → f < field_count → (list : List ℕ) → Lists d ws f before list
    → (cuts : List ℕ) → Cutting ws list f cuts → CutsAt d ws f before cuts
unfolding AlikeListed AlikeTo SearchAlike
cuts_at d ws f before e h list t cuts c = record {
  within = record {
    fits = c.fits;
    places = λ k g. let o = c.among k g in omega (arith, o.same, (lists_within d ws f before list t).places o.place o.below);
  };
  alike = λ few from last a u p q us.
      search-listed d ws f before e (omega arith) few list t (u ∷ us)
      ∙ c.alike u from (λ k g. a k g u p q) us
      ∙ sym (search-listed d ws f before e (omega arith) few list t (from ∷ us));
}

-- A list that is narrowed to a value has the rows that are active behind it.
narrowed_list : (d : Direction) (ws : List ℕ) (f : ℕ) (before : List ℕ) → length before ≡ f → (v : ℕ) (list : List ℕ) → Lists d ws f before list
    → filter (λ i. contains (range_of ws i f) v) list ≡ filter (λ j. active d ws j (f + 1) (before ++ v ∷ [])) (up_from 0 (listed ws))
narrowed_list d ws f before e v list t = ap (filter _) t ∙ sym (filter_both _ _ _ (active-next d ws f before e v) _)

longer : (before : List ℕ) (v f : ℕ) → length before ≡ f → length (before ++ v ∷ []) ≡ f + 1
longer before v f e = length-append before (v ∷ []) ∙ ap (λ (n : ℕ). n + 1) e

module _ (first second : List ℕ) (task : Task) (f : ℕ) (before : List ℕ) (e : length before ≡ f) (bs : List ℕ) (whole : Whole task.highest bs)
    (few : length first / row_words ≤ row_limit) (few' : length second / row_words ≤ row_limit)
    (xs ys : List ℕ) (s : Lists task.direction first f before xs) (t : Lists task.direction second f before ys) where
  -- Policies that agree behind a point: nothing is laid out there.
  pub alike_empty : f ≤ field_count → Alike f bs first xs second ys → form_at first second task before f (field_count - f) ≡ []
  unfolding Alike Whole parting_at
  alike_empty h a =
      (normal_form_empty parting-≟ agreed (sizes_from task.highest.words f (field_count - f)) (λ us. parting_at task.direction (policy_rows first) (policy_rows second) (before ++ us))).1
      (λ us ok.
      rw (eq-eqb _ _
      (search-listed task.direction first f before e h few xs s us
      ∙ a us (whole f us ok)
      ∙ sym (search-listed task.direction second f before e h few' ys t us))))

  -- A policy that treats two values of a field alike: so do the searches behind them.
  joined_search : (ws list : List ℕ) → length ws / row_words ≤ row_limit → Lists task.direction ws f before list → f + 1 ≤ field_count → (u v : ℕ)
      → Alike (f + 1) bs ws (filter (λ i. contains (range_of ws i f) u) list) ws (filter (λ i. contains (range_of ws i f) v) list)
      → (us : List ℕ) → Combination (sizes_from task.highest.words (f + 1) (field_count - (f + 1))) us
      → action_word (ordered_search task.direction (policy_rows ws) ((before ++ v ∷ []) ++ us))
      ≡ action_word (ordered_search task.direction (policy_rows ws) ((before ++ u ∷ []) ++ us))
  unfolding Alike Whole
  joined_search ws list g l h u v a us ok =
      search-listed task.direction ws (f + 1) (before ++ v ∷ []) (longer before v f e) h g _ (narrowed_list task.direction ws f before e v list l) us
      ∙ sym (a us (whole (f + 1) us ok))
      ∙ sym (search-listed task.direction ws (f + 1) (before ++ u ∷ []) (longer before u f e) h g _ (narrowed_list task.direction ws f before e u list l) us)

  -- Both policies treat two values of the field alike: the same is laid out behind them.
  pub alike_joined : f + 1 ≤ field_count → (u v : ℕ)
      → Alike (f + 1) bs first (filter (λ i. contains (range_of first i f) u) xs) first (filter (λ i. contains (range_of first i f) v) xs)
      → Alike (f + 1) bs second (filter (λ i. contains (range_of second i f) u) ys) second (filter (λ i. contains (range_of second i f) v) ys)
      → form_at first second task (before ++ v ∷ []) (f + 1) (field_count - (f + 1)) ≡ form_at first second task (before ++ u ∷ []) (f + 1) (field_count - (f + 1))
  unfolding parting_at
  alike_joined h u v a b =
      normal_form_ext parting-≟ agreed (sizes_from task.highest.words (f + 1) (field_count - (f + 1))) _ _
      (λ us ok. rw (joined_search first xs few s h u v a us ok, joined_search second ys few' t h u v b us ok))

-- The box of all values.
module _ (hs : List ℕ) where
  tops : ℕ → List ℕ
  tops f = drop f (value_of hs 0 ∷ value_of hs 1 ∷ value_of hs 2 ∷ value_of hs 3 ∷ value_of hs 4 ∷ [])

  abbrev every_word : List ℕ
  every_word =
      0 ∷ 0 ∷ get_or hs 0 0 ∷ get_or hs 1 0 ∷ 0 ∷ 0 ∷ get_or hs 2 0 ∷ get_or hs 3 0 ∷ 0 ∷ 0 ∷ get_or hs 4 0 ∷ get_or hs 5 0
      ∷ 0 ∷ 0 ∷ get_or hs 6 0 ∷ get_or hs 7 0 ∷ 0 ∷ 0 ∷ get_or hs 8 0 ∷ get_or hs 9 0 ∷ []

  all_values : (f : ℕ) (us : List ℕ) → Combination (sizes_from hs f (field_count - f)) us → InBox f every_word us
  unfolding sizes_from ranges_from value_at number tops
  all_values zero us c = holds_tops (tops 0) us c
  all_values (suc zero) us c = holds_tops (tops 1) us c
  all_values (suc (suc zero)) us c = holds_tops (tops 2) us c
  all_values (suc (suc (suc zero))) us c = holds_tops (tops 3) us c
  all_values (suc (suc (suc (suc zero)))) us c = holds_tops (tops 4) us c
  all_values (suc (suc (suc (suc (suc f))))) us c =
      let z : field_count - suc (suc (suc (suc (suc f)))) ≡ 0 = omega arith in rw z (holds_tops [] us (rw z at c))

pub whole_box : (highest : Point) (bs : List ℕ) → bs ≡ every_word highest.words → Whole highest bs
unfolding Whole
whole_box highest bs e f us c = rw e (all_values highest.words f us c)
