-- Laws of the form of the fields that are left, behind values of the earlier ones. Assumes nothing.
use Prim.Native.Nat.{ℕ, zero, suc, ◌+◌, ◌-◌, ◌*◌, ◌/◌, ◌≤◌, ◌<◌}
use native.Mathlib.Omega.{arith}
use Rattle.std.specs.Prelude.{◌≡◌, Bool, ◌&&◌, length, get_or, set, Ok, Err}
use Rattle.std.proofs.Math.Path.{refl, sym, ap}
use Rattle.std.proofs.Common.{◌∙◌, inl, ⊎_elim, eq-eqb, ne_eqb}
use Rattle.std.proofs.Math.Bool.{true, false, and_assoc}
use mathlib.Core.List.{List, [], ◌∷◌, ◌++◌, append-nil, append_assoc}
use Rattle.std.proofs.Math.ListN.{length-set}
use Rattle.std.proofs.Math.Seq.{get_or-set_same, get_or-set_other}
use Rattle.selectors.specs.Range.{Range, contains, holds}
use Rattle.selectors.specs.Words.{field_count, value_words, ranges_from, value_of, values_from}
use Rattle.selectors.specs.declared.Direction.{Direction}
use Rattle.normal_form.specs.Search.{row}
use Rattle.normal_form.specs.NormalForm.{rows_of, runs, normal_form}
use Rattle.normal_form.proofs.RunsLaws.{runs_ext}
use Rattle.normal_form.proofs.Laws.{leaf_cases, normal_form_ext}
use Rattle.policy.specs.Policy.{PolicyRow, applies_to, matches, ordered_search}
use Rattle.policy.specs.Words.{action_word, direction_of, row_at, rows_from, policy_rows, row_words}
use Rattle.cover.specs.Boxes.{ranges_word}
use Rattle.cover.specs.RangesLaws.{ranges-length, ranges_split, value_moved, written, word_other, value_own}
use Rattle.agree.specs.Sides.{range_of}
use Rattle.layout.specs.Parting.{parting, parting-≟, agreed, parted, parting_at}
use Rattle.layout.specs.Decode.{sizes_from, row_ranges, active, part_row, part_rows}
use Rattle.layout.specs.DecodeLaws.{active-matches}
use Rattle.layout.specs.Steps.{form_behind, form_at, LaidOut, AlikeTo, AlikeAmong, SearchAlike}
use Rattle.layout.specs.StepsLaws.{laid-rows, laid_over}
use Rattle.layout.specs.declared.LayoutError.TheVariants.{Over}
use Rattle.layout.specs.declared.branch.Task.{Task}

-- Behind the last field.
module _ (d : Direction) (first second : List PolicyRow) (before : List ℕ) (a b : ℕ)
    (ea : a ≡ action_word (ordered_search d first before)) (eb : b ≡ action_word (ordered_search d second before)) where
  leaf-parted : parting_at d first second (before ++ []) ≡ parted a b
  unfolding parting_at
  leaf-parted = rw (append-nil, ea, eb)

  leaf-agreed : a ≡ b → form_behind d first second before [] ≡ []
  leaf-agreed e =
      let p : parting_at d first second (before ++ []) ≡ agreed = leaf-parted ∙ rw (eq-eqb a b e) in
      ⊎_elim (λ c. c.1) (λ c. absurd (c.0 p)) (leaf_cases parting-≟ agreed (λ vs. parting_at d first second (before ++ vs)))

  leaf_apart : (a ≡ b → ⊥) → form_behind d first second before [] ≡ row [] (parting a b) ∷ []
  leaf_apart n =
      let p : parting_at d first second (before ++ []) ≡ parting a b = leaf-parted ∙ rw (ne_eqb a b n) in
      ⊎_elim
      (λ c. absurd (n (apart (sym p ∙ c.0))))
      (λ c. c.1 ∙ rw p)
      (leaf_cases parting-≟ agreed (λ vs. parting_at d first second (before ++ vs)))
    where
      apart : parting a b ≡ agreed → a ≡ b
      apart e = let x : a ≡ 0 = λ i. (e i).first in let y : b ≡ 0 = λ i. (e i).second in x ∙ sym y

module _ (first second : List ℕ) (task : Task) (before : List ℕ) (a b : ℕ)
    (ea : a ≡ action_word (ordered_search task.direction (policy_rows first) before))
    (eb : b ≡ action_word (ordered_search task.direction (policy_rows second) before)) where
  pub laid-agreed : a ≡ b → (ws : List ℕ) → LaidOut task.limit field_count 0 (form_at first second task before field_count 0) ws (Ok 0)
  unfolding sizes_from part_rows
  laid-agreed e ws =
      laid-rows task.limit field_count 0 _ ws 0 (sym (leaf-agreed task.direction (policy_rows first) (policy_rows second) before a b ea eb e)) (omega arith)

  pub laid-full : (a ≡ b → ⊥) → task.limit ≡ 0 → (ws : List ℕ) → LaidOut task.limit field_count 0 (form_at first second task before field_count 0) ws (Err Over)
  unfolding sizes_from
  laid-full n e ws =
      laid_over task.limit field_count 0 _ ws
      (rw (leaf_apart task.direction (policy_rows first) (policy_rows second) before a b ea eb n) (omega arith))

  pub laid_leaf : (a ≡ b → ⊥) → (task.limit ≡ 0 → ⊥) → (ws : List ℕ) → task.limit * row_words ≤ length ws
      → LaidOut task.limit field_count 0 (form_at first second task before field_count 0) (set (set ws 0 b) 1 a) (Ok 1)
  unfolding sizes_from part_rows part_row ranges_from
  laid_leaf n z ws h =
      laid-rows task.limit field_count 0 _ (set (set ws 0 b) 1 a) 1
      (rw (
        get_or-set_same (set ws 0 b) 1 a 0 (simp length-set (omega arith)),
        get_or-set_other (set ws 0 b) 1 0 a 0 (λ e. omega arith),
        get_or-set_same ws 0 b 0 (omega arith),
      ) (sym (leaf_apart task.direction (policy_rows first) (policy_rows second) before a b ea eb n)))
      (omega arith)

-- The first of the fields that are left: the intervals of its values.
pub form-field : (d : Direction) (first second : List PolicyRow) (before : List ℕ) (S : ℕ) (Ss : List ℕ)
    → form_behind d first second before (S ∷ Ss) ≡ rows_of (runs parting-≟ (λ v. form_behind d first second (before ++ v ∷ []) Ss) S)
unfolding normal_form
form-field d first second before S Ss =
    ap rows_of
    (runs_ext parting-≟ _ _ S
    (λ v h. normal_form_ext parting-≟ agreed Ss _ _ (λ vs ok. ap (parting_at d first second) (sym (append_assoc before (v ∷ []) vs)))))

-- What holds in two parts.
pub holds-append : (rs qs : List Range) (us vs : List ℕ) → length rs ≡ length us → holds (rs ++ qs) (us ++ vs) ≡ (holds rs us && holds qs vs)
unfolding holds
holds-append [] qs [] vs e = refl
holds-append [] qs (u ∷ us) vs e = absurd (omega arith)
holds-append (r ∷ rs) qs [] vs e = absurd (omega arith)
holds-append (r ∷ rs) qs (u ∷ us) vs e = rw (holds-append rs qs us vs (omega arith)) (sym (and_assoc (contains r u) (holds rs us) (holds qs vs)))

pub values_length : (ps : List ℕ) (f n : ℕ) → length (values_from ps f n) ≡ n
unfolding values_from
values_length ps f zero = refl
values_length ps f (suc n) = ap suc (values_length ps (f + 1) n)

-- A row matches where it is active, its range of the next field holds that value, and the others hold the rest.
module _ (d : Direction) (ws : List ℕ) (f : ℕ) (before : List ℕ) (e : length before ≡ f) (h : f < field_count) where
  holds_split : (i v : ℕ) (vs : List ℕ)
      → holds (row_ranges ws i 0 field_count) (before ++ v ∷ vs)
      ≡ (holds (row_ranges ws i 0 f) before && (contains (range_of ws i f) v && holds (row_ranges ws i (f + 1) (field_count - (f + 1))) vs))
  unfolding ranges_from holds
  holds_split i v vs =
      let k : field_count ≡ f + suc (field_count - (f + 1)) = omega arith in
      let z : 0 + f ≡ f = omega arith in
      ap (λ (m : ℕ). holds (row_ranges ws i 0 m) (before ++ v ∷ vs)) k
      ∙ ap (λ (rs : List Range). holds rs (before ++ v ∷ vs)) (ranges_split ws (ranges_word i) 0 f (suc (field_count - (f + 1))))
      ∙ ap (λ (g : ℕ). holds (row_ranges ws i 0 f ++ row_ranges ws i g (suc (field_count - (f + 1)))) (before ++ v ∷ vs)) z
      ∙ holds-append (row_ranges ws i 0 f) (row_ranges ws i f (suc (field_count - (f + 1)))) before (v ∷ vs) (ranges-length ws (ranges_word i) 0 f ∙ sym e)

  matches_split : (i v : ℕ) (vs : List ℕ)
      → matches d (row_at ws (i * row_words)) (before ++ v ∷ vs)
      ≡ (active d ws i f before && (contains (range_of ws i f) v && holds (row_ranges ws i (f + 1) (field_count - (f + 1))) vs))
  unfolding active
  matches_split i v vs =
      sym (active-matches d ws i (before ++ v ∷ vs))
      ∙ ap (applies_to (direction_of (get_or ws (i * row_words) 0)) d &&◌) (holds_split i v vs)
      ∙ sym (and_assoc (applies_to (direction_of (get_or ws (i * row_words) 0)) d) (holds (row_ranges ws i 0 f) before)
      (contains (range_of ws i f) v && holds (row_ranges ws i (f + 1) (field_count - (f + 1))) vs))

  -- So two values that are alike to the rows that are active give the same action, whatever the later fields hold.
  search_alike : (u v : ℕ) (vs : List ℕ) (i n : ℕ)
      → ((j : ℕ) → j < i + n → active d ws j f before ≡ true → contains (range_of ws j f) u ≡ contains (range_of ws j f) v)
      → ordered_search d (rows_from ws i n) (before ++ u ∷ vs) ≡ ordered_search d (rows_from ws i n) (before ++ v ∷ vs)
  unfolding ordered_search rows_from
  search_alike u v vs i zero a = refl
  search_alike u v vs i (suc n) a =
      rw (matches_split i u vs, matches_split i v vs, by (active d ws i f before) refl (a i (omega arith)), search_alike u v vs (suc i) n (λ j k. a j (omega arith)))
    where
      by : (b : Bool) → active d ws i f before ≡ b → (b ≡ true → contains (range_of ws i f) u ≡ contains (range_of ws i f) v)
          → (active d ws i f before && (contains (range_of ws i f) u && holds (row_ranges ws i (f + 1) (field_count - (f + 1))) vs))
          ≡ (active d ws i f before && (contains (range_of ws i f) v && holds (row_ranges ws i (f + 1) (field_count - (f + 1))) vs))
      by true t c = rw (c refl)
      by false t c = rw t

-- So the search treats values of an interval that no active row parts alike.
pub search-among : (d : Direction) (ws : List ℕ) (f : ℕ) (before : List ℕ) → length before ≡ f → f < field_count → (from last : ℕ)
    → AlikeAmong d ws (length ws / row_words) f before from last → SearchAlike d ws before from last
unfolding AlikeAmong AlikeTo SearchAlike
search-among d ws f before e h from last a u p q us =
    ap action_word (search_alike d ws f before e h u from us 0 (length ws / row_words) (λ j k t. a j (omega arith) t u p q))

-- Values of an interval that the searches of both policies treat alike have the same layout behind them.
pub form_alike : (d : Direction) (first second before Ss : List ℕ) (from last : ℕ) → SearchAlike d first before from last → SearchAlike d second before from last
    → (u : ℕ) → from ≤ u → u ≤ last
    → form_behind d (policy_rows first) (policy_rows second) (before ++ u ∷ []) Ss ≡ form_behind d (policy_rows first) (policy_rows second) (before ++ from ∷ []) Ss
unfolding SearchAlike parting_at
form_alike d first second before Ss from last a b u p q =
    normal_form_ext parting-≟ agreed Ss _ _
    (λ vs ok. rw (append_assoc before (u ∷ []) vs, append_assoc before (from ∷ []) vs, a u p q vs, b u p q vs))

-- The values of the first fields, with one more.
values_last : (ps : List ℕ) (f n : ℕ) → values_from ps f (n + 1) ≡ values_from ps f n ++ value_of ps (f + n) ∷ []
unfolding values_from
values_last ps f zero = let e : f + 0 ≡ f = omega arith in rw e
values_last ps f (suc n) =
    let e : f + 1 + n ≡ f + suc n = omega arith in
    let z : suc n + 1 ≡ suc (n + 1) = omega arith in
    ap (values_from ps f) z ∙ ap (value_of ps f ∷◌) (values_last ps (f + 1) n ∙ ap (λ (g : ℕ). values_from ps (f + 1) n ++ value_of ps g ∷ []) e)

values_kept : (ps ps' : List ℕ) (f n : ℕ) → ((j : ℕ) → j < 2 * (f + n) → get_or ps' j 0 ≡ get_or ps j 0) → values_from ps' f n ≡ values_from ps f n
unfolding values_from
values_kept ps ps' f zero s = refl
values_kept ps ps' f (suc n) s =
    rw (value_moved ps ps' (2 * f) (2 * f) (s _ (omega arith)) (s _ (omega arith)), values_kept ps ps' (f + 1) n (λ j h. s j (omega arith)))

pub values_with : (ps : List ℕ) (f n : ℕ) → value_words * f + value_words ≤ length ps → values_from (written ps (value_words * f) n) 0 (f + 1) ≡ values_from ps 0 f ++ n ∷ []
values_with ps f n h =
    let z : 0 + f ≡ f = omega arith in
    values_last _ 0 f ∙ rw (z, value_own ps (2 * f) n h, values_kept ps _ 0 f (λ j k. word_other ps (2 * f) n j (inl (omega arith))))
