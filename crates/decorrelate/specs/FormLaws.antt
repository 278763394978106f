-- The words of a normal form: what a layout leaves is these, and they are read as the normal form's rows. Assumes nothing.
use Rattle.std.specs.Prelude.{ℕ, zero, suc, ◌+◌, ◌*◌, ◌≤◌, ◌<◌, ◌≡◌, refl, Bool, true, false, cond, leb, length, get_or, take, drop, Result, Ok, Err}
use Rattle.std.proofs.Common.{arith, sym, ap, ◌∙◌, drop-drop, take-add}
use Rattle.std.proofs.Math.Decide.{dec_le}
use mathlib.Core.List.{List, [], ◌∷◌, map, Memᴰ}
use Rattle.std.proofs.lemmas.List.{length-map}
use borrow.Author.Tests.{leb-true, le-leb, lt-leb}
use Rattle.selectors.specs.Value.{number}
use Rattle.selectors.specs.Words.{value_at, ranges_at}
use Rattle.selectors.proofs.WordsLaws.{AllWords}
use Rattle.selectors.specs.declared.Direction.{Direction}
use Rattle.normal_form.specs.Search.{Row, Combination}
use Rattle.normal_form.proofs.ShapeLaws.{Fits, fits-length, normal_form_fits}
use Rattle.normal_form.proofs.MapLaws.{map_leaf}
use Rattle.policy.specs.declared.Action.{Action}
use Rattle.policy.specs.declared.Action.TheVariants.{Discard}
use Rattle.policy.specs.ActionLaws.{action-≟}
use Rattle.policy.specs.Policy.{ordered_search, for_both_ways}
use Rattle.policy.proofs.PolicyLaws.{searching-both_ways}
use Rattle.policy.proofs.WrittenLaws.{row_exact, AllFive, read_row, written-length, written_rows}
use Rattle.policy.proofs.WordsLaws.{word_action}
use Rattle.policy.specs.Words.{action_word, row_words, rows_from, policy_rows, words_with, words_of_all}
use Rattle.policy_text.specs.declared.Edition.{Edition}
use Rattle.policy_text.specs.declared.Edition.TheVariants.{One}
use Rattle.policy_text.specs.Editions.{edition_sizes, Rules, rules}
use Rattle.policy_text.proofs.EditionsLaws.{five_fields}
use Rattle.layout.specs.Parting.{difference_form}
use Rattle.layout.specs.PartingLaws.{action_leaf, difference_empty}
use Rattle.layout.specs.Decode.{sizes_from}
use Rattle.layout.specs.Laid.{laid_row, laid_from, sizes_of, room_for, Outcome}
use Rattle.layout.specs.declared.Point.{Point}
use Rattle.layout.specs.declared.LayoutError.{LayoutError}
use Rattle.layout.specs.declared.LayoutError.TheVariants.{Over, NoRoom}
use Rattle.decorrelate.specs.declared.OverLimit.{OverLimit}
use Rattle.decorrelate.specs.Form.{form, form_row_words, form_words, padded, form_room, over_limit, form_answer, form_after, FormOutcome}

-- The fields of IPv4 by their highest values.
pub ipv4_highest : (p : Point) → p.words ≡ 0 ∷ 4294967295 ∷ 0 ∷ 4294967295 ∷ 0 ∷ 255 ∷ 0 ∷ 65536 ∷ 0 ∷ 65536 ∷ [] → sizes_of p ≡ edition_sizes One
unfolding sizes_from value_at number
ipv4_highest p e = rw e

-- A row that is laid out has its own words.
laid_exact : (ws : List ℕ) (at : ℕ) (r : Row Action) → AllWords ws → at + row_words ≤ length ws → laid_row ws at ≡ map_leaf action_leaf r
    → take row_words (drop at ws) ≡ form_row_words r
unfolding laid_row
laid_exact ws at r fit h q =
    let second : get_or ws at 0 ≡ 0 = λ i. (q i).leaf.second in
    let first : get_or ws (at + 1) 0 ≡ action_word r.leaf = λ i. (q i).leaf.first in
    let ranges : ranges_at ws (at + 2) ≡ r.ranges = λ i. (q i).ranges in
    row_exact ws at fit h ∙ λ i. words_with (second i) (first i) (ranges i)

-- Each row fits fields of these sizes.
unfoldable AllFit : List ℕ → List (Row Action) → Type 0
AllFit sizes L = (r : Row Action) → Memᴰ r L → Fits sizes r.ranges

rest_fit : (sizes : List ℕ) (r : Row Action) (L : List (Row Action)) → AllFit sizes (r ∷ L) → AllFit sizes L
unfolding AllFit
rest_fit sizes r L f q m = f q (Memᴰ.tail m)

first_fits : (sizes : List ℕ) (r : Row Action) (L : List (Row Action)) → AllFit sizes (r ∷ L) → Fits sizes r.ranges
unfolding AllFit
first_fits sizes r L f = f r (Memᴰ.head refl)

form_fits : (d : Direction) (rs : Rules) → AllFit (edition_sizes rs.edition) (form d rs)
unfolding AllFit
form_fits d rs r m = (normal_form_fits action-≟ Discard (edition_sizes rs.edition) (ordered_search d rs.entries) r m).0

-- Rows that are laid out from the row i on have their own words there.
rows_exact : (ws : List ℕ) (i n : ℕ) (L : List (Row Action)) → AllWords ws → (i + n) * row_words ≤ length ws
    → laid_from ws i n ≡ map (map_leaf action_leaf) L → take (n * row_words) (drop (i * row_words) ws) ≡ form_words L
unfolding laid_from words_of_all
rows_exact ws i zero [] f h e = refl
rows_exact ws i zero (r ∷ L) f h e = cc
rows_exact ws i (suc n) [] f h e = cc
rows_exact ws i (suc n) (r ∷ L) f h e =
    let first : laid_row ws (i * row_words) ≡ map_leaf action_leaf r = cc in
    let rest : laid_from ws (i + 1) n ≡ map (map_leaf action_leaf) L = cc in
    let here : take row_words (drop (i * row_words) ws) ≡ form_row_words r = laid_exact ws (i * row_words) r f (omega arith) first in
    let more : take (n * row_words) (drop ((i + 1) * row_words) ws) ≡ form_words L = rows_exact ws (i + 1) n L f (omega arith) rest in
    let k : suc n * row_words ≡ row_words + n * row_words = omega arith in
    let m : i * row_words + row_words ≡ (i + 1) * row_words = omega arith in
    rw (k, take-add, drop-drop, m, here, more)

-- Each row has a range for each field.
FiveIn : List (Row Action) → Type 0
FiveIn L = AllFive (Row Action) (λ r. 0) (λ r. action_word r.leaf) (λ r. r.ranges) L

all_five : (e : Edition) (L : List (Row Action)) → AllFit (edition_sizes e) L → FiveIn L
unfolding FiveIn AllFive
all_five e [] f = tt
all_five e (r ∷ L) f =
    (fits-length (edition_sizes e) r.ranges (first_fits (edition_sizes e) r L f) ∙ five_fields e, all_five e L (rest_fit (edition_sizes e) r L f))

both_ways : (L : List (Row Action)) → map (read_row (Row Action) (λ r. 0) (λ r. action_word r.leaf) (λ r. r.ranges)) L ≡ map for_both_ways L
both_ways [] = refl
both_ways (r ∷ L) = rw (word_action r.leaf, both_ways L)

module _ (d : Direction) (rs : Rules) where
  pub form_words-length : length (form_words (form d rs)) ≡ length (form d rs) * row_words
  unfolding FiveIn
  form_words-length = written-length (Row Action) (λ r. 0) (λ r. action_word r.leaf) (λ r. r.ranges) (form d rs) (all_five rs.edition (form d rs) (form_fits d rs))

  -- The words of a normal form are read as its rows, each for both directions.
  pub form_words_rows : policy_rows (form_words (form d rs)) ≡ map for_both_ways (form d rs)
  unfolding FiveIn
  form_words_rows =
      written_rows (Row Action) (λ r. 0) (λ r. action_word r.leaf) (λ r. r.ranges) (form d rs) (all_five rs.edition (form d rs) (form_fits d rs))
      ∙ both_ways (form d rs)

  -- Searching them, in whichever direction is asked, is searching the policy in the direction of the normal form.
  pub form_search : (asked : Direction) (vs : List ℕ) → Combination (edition_sizes rs.edition) vs
      → ordered_search asked (policy_rows (form_words (form d rs))) vs ≡ ordered_search d rs.entries vs
  form_search asked vs ok = rw form_words_rows (searching-both_ways (edition_sizes rs.edition) d rs.entries asked vs ok)

no_second : (ws : List ℕ) → policy_rows (take 0 ws) ≡ []
unfolding rows_from
no_second ws = refl

-- What the layout of a policy without a second one leaves is its normal form.
module _ (limit : ℕ) (d : Direction) (e : Edition) (ws : List ℕ) (highest : Point) (room room' : List ℕ) (r : Result ℕ LayoutError) where
  pub form_outcome : AllWords room' → length room' ≡ length room
      → Outcome limit (difference_form (sizes_of highest) d (policy_rows ws) (policy_rows (take 0 ws))) room room' r → sizes_of highest ≡ edition_sizes e
      → FormOutcome limit d (rules e (policy_rows ws)) room room' r
  form_outcome fit whole o sizes = record { answer = answer; words = words; untouched = o.untouched }
    where
      rs : Rules
      rs = rules e (policy_rows ws)

      same : difference_form (sizes_of highest) d (policy_rows ws) (policy_rows (take 0 ws)) ≡ map (map_leaf action_leaf) (form d rs)
      same = rw (sizes, no_second ws) (sym (difference_empty (edition_sizes e) d (policy_rows ws)))

      count : length (difference_form (sizes_of highest) d (policy_rows ws) (policy_rows (take 0 ws))) ≡ length (form d rs)
      count = ap length same ∙ length-map (form d rs) (map_leaf action_leaf)

      answer : r ≡ cond (leb (room_for limit) (length room)) (cond (leb (length (form d rs)) limit) (Ok (length (form d rs))) (Err Over)) (Err NoRoom)
      answer = rw count at o.answer

      -- The rows are within the limit, and so within the room.
      within : (n : ℕ) (a b : Bool) → leb (room_for limit) (length room) ≡ a → leb (length (form d rs)) limit ≡ b
          → Ok n ≡ cond a (cond b (Ok (length (form d rs))) (Err Over)) (Err NoRoom) → n * row_words ≤ length room'
      within n true true p q e =
          let h = leb-true (room_for limit) (length room) p in
          let g = leb-true (length (form d rs)) limit q in
          let k : n ≡ length (form d rs) = cc in
          omega arith
      within n true false p q e = cc
      within n false b p q e = cc

      words : (n : ℕ) → r ≡ Ok n → take (n * row_words) room' ≡ form_words (form d rs)
      words n e =
          let h : n * row_words ≤ length room' = within n _ _ refl refl (sym e ∙ answer) in
          rows_exact room' 0 n (form d rs) fit (omega arith) (o.rows n e ∙ same)

-- What an answer says of the count of the rows, with room for the limit.
unfoldable pub Counted : ℕ → ℕ → Result ℕ LayoutError → Type 0
Counted limit count (Ok n) = (n ≤ limit) × (n ≡ count)
Counted limit count (Err Over) = limit < count
Counted limit count (Err NoRoom) = ⊥

pub counted : (limit count room : ℕ) (r : Result ℕ LayoutError) → room_for limit ≤ room
    → r ≡ cond (leb (room_for limit) room) (cond (leb count limit) (Ok count) (Err Over)) (Err NoRoom) → Counted limit count r
unfolding Counted
counted limit count room r enough answer = by (dec_le count limit)
  where
    by : Dec (count ≤ limit) → Counted limit count r
    by (yes h) =
        let e : r ≡ Ok count = answer ∙ rw (le-leb (room_for limit) room enough, le-leb count limit h) in
        rw e (h, refl)
    by (no h) =
        let e : r ≡ Err Over = answer ∙ rw (le-leb (room_for limit) room enough, lt-leb count limit (omega arith)) in
        rw e (omega arith)

-- What it says of a normal form.
unfoldable pub Laying : ℕ → Direction → Rules → List ℕ → Result ℕ LayoutError → Type 0
Laying limit d rs room' (Ok n) = (n ≤ limit) × (n ≡ length (form d rs)) × (take (n * row_words) room' ≡ form_words (form d rs))
Laying limit d rs room' (Err Over) = limit < length (form d rs)
Laying limit d rs room' (Err NoRoom) = ⊥

pub laying : (limit : ℕ) (d : Direction) (rs : Rules) (room room' : List ℕ) (r : Result ℕ LayoutError) → room_for limit ≤ length room
    → FormOutcome limit d rs room room' r → Laying limit d rs room' r
unfolding Laying Counted
laying limit d rs room room' r enough o = by r refl (counted limit (length (form d rs)) (length room) r enough o.answer)
  where
    by : (q : Result ℕ LayoutError) → r ≡ q → Counted limit (length (form d rs)) q → Laying limit d rs room' q
    by (Ok n) e c = (c.0, c.1, o.words n e)
    by (Err Over) e c = c
    by (Err NoRoom) e c = c

-- What an answer makes of a room for `capacity` rows.
module _ (capacity limit : ℕ) (d : Direction) (rs : Rules) (room ws : List ℕ) where
  pub form-written : (n : ℕ) → Laying limit d rs room (Ok n)
      → (Ok n ≡ form_answer limit d rs) × (padded (capacity * row_words) (take (n * row_words) room) ≡ form_after capacity limit d rs ws)
  unfolding Laying
  form-written n l =
      let e = le-leb (length (form d rs)) limit (omega (arith, l.0, l.1)) in
      (rw (e, l.1), rw (e, l.2))

  pub form_left : Laying limit d rs room (Err Over) → (Err over_limit ≡ form_answer limit d rs) × (ws ≡ form_after capacity limit d rs ws)
  unfolding Laying
  form_left l = let e = lt-leb (length (form d rs)) limit l in (rw e, rw e)

-- And what that answer says.
module _ (limit : ℕ) (d : Direction) (rs : Rules) where
  pub form_within : (n : ℕ) → form_answer limit d rs ≡ Ok n
      → (length (form d rs) ≤ limit) × (n ≡ length (form d rs))
      × ((capacity : ℕ) (ws : List ℕ) → form_after capacity limit d rs ws ≡ form_room capacity d rs)
  form_within n e = by (dec_le (length (form d rs)) limit)
    where
      by : Dec (length (form d rs) ≤ limit)
          → (length (form d rs) ≤ limit) × (n ≡ length (form d rs))
          × ((capacity : ℕ) (ws : List ℕ) → form_after capacity limit d rs ws ≡ form_room capacity d rs)
      by (yes h) =
          let t = le-leb (length (form d rs)) limit h in
          let a : ◌≡◌ {A = Result ℕ OverLimit} (Ok (length (form d rs))) (Ok n) = rw t at e in
          (h, cc, λ capacity ws. rw t)
      by (no h) =
          let a : ◌≡◌ {A = Result ℕ OverLimit} (Err over_limit) (Ok n) = rw (lt-leb (length (form d rs)) limit (omega arith)) at e in
          cc

  pub form_over : form_answer limit d rs ≡ Err over_limit → limit < length (form d rs)
  form_over e = by (dec_le (length (form d rs)) limit)
    where
      by : Dec (length (form d rs) ≤ limit) → limit < length (form d rs)
      by (yes h) =
          let a : ◌≡◌ {A = Result ℕ OverLimit} (Ok (length (form d rs))) (Err over_limit) = rw (le-leb (length (form d rs)) limit h) at e in
          cc
      by (no h) = omega arith
