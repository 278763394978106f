-- Two ordered lists of rows as the sides of one list of entries, and what is asked of an entry. Assumes nothing: these are definitions.
-- An entry is the code of a row (crates/cover/specs/Boxes.antt). Behind the entries stands the end row, which is on both sides, holds
-- everything and discards.
use Rattle.std.specs.Prelude.{ℕ, zero, suc, ◌+◌, ◌*◌, ◌/◌, ◌%◌, ◌≤◌, ◌<◌, ◌≡◌, Bool, true, false, not, cond, List, ◌∷◌, map, ◌≢◌, ◌⊎◌, eqb, ltb, length, get_or, filter, Option, Some, None, MatchOption}
use Rattle.selectors.specs.Range.{Range, contains}
use Rattle.selectors.specs.Words.{range_words, range_at}
use Rattle.normal_form.specs.Search.{Row, row, find}
use Rattle.policy.specs.Words.{row_words, row_limit}
use Rattle.cover.specs.Boxes.{ranges_word, ranges_behind, InBox, row_of, table_of, code_holds}
use Rattle.agree.specs.declared.sides.Entries.{Entries}
use Rattle.agree.specs.declared.sides.Side.{Side}
use Rattle.agree.specs.declared.sides.Side.TheVariants.{First, Second}

-- The word of the action of the row i; and whether the row does not discard.
abbrev pub action_in : List ℕ → ℕ → ℕ
action_in ws i = get_or ws (i * row_words + 1) 0

abbrev pub does_act : List ℕ → ℕ → Bool
does_act ws i = not (eqb (action_in ws i) 0)

-- The row i of a policy, from the field f on, with the word of its action.
abbrev pub row_behind : List ℕ → ℕ → ℕ → Row ℕ
row_behind ws f i = row (ranges_behind ws (ranges_word i) f) (action_in ws i)

-- Two lists of rows, by their places in two policies, give the same action throughout a box: 0, discard, where no row holds the values.
unfoldable pub Alike : ℕ → List ℕ → List ℕ → List ℕ → List ℕ → List ℕ → Type 0
Alike f bs first xs second ys =
    (us : List ℕ) → InBox f bs us → find 0 (map (row_behind first f) xs) us ≡ find 0 (map (row_behind second f) ys) us

-- The range of the field f in the row i.
abbrev pub range_of : List ℕ → ℕ → ℕ → Range
range_of ws i f = range_at ws (ranges_word i + range_words * f)

-- Whether a side is the second one; and the side of which this is so.
abbrev pub is_second : Side → Bool
is_second First = false
is_second Second = true

abbrev pub side_of : Bool → Side
side_of false = First
side_of true = Second

-- The row of a code is on the second side, or on the first; and the word of its action.
abbrev pub on_side : Bool → ℕ → Bool
on_side second e = cond second (eqb (e / 2 % 2) 1) (eqb (e % 2) 1)

abbrev pub code_action : List ℕ → List ℕ → ℕ → ℕ
code_action first second e = action_in (table_of first second e) (row_of e)

-- Entries: the codes of rows of two policies, of which the fields from `field` on count.
pub record Sides : Type 0 where
  pub first : List ℕ
  pub second : List ℕ
  pub codes : List ℕ
  pub field : ℕ

abbrev pub sides : List ℕ → List ℕ → List ℕ → ℕ → Sides
sides first second codes field = record { first = first; second = second; codes = codes; field = field }

abbrev pub sides_in : Entries → Sides
sides_in e = sides e.policies.first.now e.policies.second.now e.codes.now e.field

abbrev pub count : Sides → ℕ
count E = length E.codes

-- The entry k is on a side; the word of its action; it holds the values.
unfoldable pub on_at : List ℕ → Bool → ℕ → Bool
on_at es s k = cond (ltb k (length es)) (on_side s (get_or es k 0)) true

unfoldable pub action_at : Sides → ℕ → ℕ
action_at E k = cond (ltb k (count E)) (code_action E.first E.second (get_or E.codes k 0)) 0

unfoldable pub holds_at : Sides → List ℕ → ℕ → Bool
holds_at E us k = cond (ltb k (count E)) (code_holds E.first E.second E.field (get_or E.codes k 0) us) true

abbrev pub on : Sides → Bool → ℕ → Bool
on E s k = on_at E.codes s k

-- The place of the first entry, of n from i on, for which the test is true; i + n where there is none.
unfoldable pub first_of : (ℕ → Bool) → ℕ → ℕ → ℕ
first_of p i zero = i
first_of p i (suc n) = cond (p i) i (first_of p (suc i) n)

-- No entry of the side s before d, and none of the other side before k, holds the values.
unfoldable pub Unseen : Sides → Bool → ℕ → ℕ → List ℕ → Type 0
Unseen E s d k us =
    ((j : ℕ) → j < d → on E s j ≡ true → holds_at E us j ≡ false) × ((j : ℕ) → j < k → on E (not s) j ≡ true → holds_at E us j ≡ false)

-- At these values d is the first on its side s, k is the first on the other, and they act differently.
pub record Clash (E : Sides) (s : Bool) (d k : ℕ) (us : List ℕ) : Type 0 where
  pub unseen : Unseen E s d k us
  pub own : holds_at E us d ≡ true
  pub on_other : on E (not s) k ≡ true
  pub other : holds_at E us k ≡ true
  pub acts : action_at E k ≢ action_at E d

-- None of the box's values is held by the entry, all are; and what both hold is in another box.
unfoldable pub EntryApart : Sides → ℕ → List ℕ → Type 0
EntryApart E k bs = (us : List ℕ) → InBox E.field bs us → holds_at E us k ≡ false

unfoldable pub EntryCovers : Sides → ℕ → List ℕ → Type 0
EntryCovers E k bs = (us : List ℕ) → InBox E.field bs us → holds_at E us k ≡ true

unfoldable pub EntryCommon : Sides → ℕ → List ℕ → List ℕ → Type 0
EntryCommon E k bs bs' = (us : List ℕ) → InBox E.field bs us → holds_at E us k ≡ true → InBox E.field bs' us

-- The entry j, of this code, is on the other side, or before d on its own.
unfoldable pub Earlier : Bool → ℕ → ℕ → ℕ → Type 0
Earlier s d e j = (on_side (not s) e ≡ true) ⊎ ((j < d) × (on_side s e ≡ true))

-- Each of the numbers of a list is the code of an entry before k that is on the other side, or before d on its own.
pub record Listed (es : List ℕ) (s : Bool) (d k e : ℕ) : Type 0 where
  pub place : ℕ
  pub below : place < k
  pub code : e ≡ get_or es place 0
  pub earlier : Earlier s d e place

unfoldable pub Before : List ℕ → Bool → ℕ → ℕ → List ℕ → Type 0
Before es s d k list = (i : ℕ) → i < length list → Listed es s d k (get_or list i 0)

-- In the box some entry before d or before k holds the values.
unfoldable pub Hidden : Sides → Bool → ℕ → ℕ → List ℕ → Type 0
Hidden E s d k bs = (us : List ℕ) → InBox E.field bs us → Unseen E s d k us → ⊥

-- In the box d does not clash with the entry k; with none from k on; with none from `from` to `to`, without it.
unfoldable pub Passed : Sides → Bool → ℕ → ℕ → List ℕ → Type 0
Passed E s d k bs = (us : List ℕ) → InBox E.field bs us → Clash E s d k us → ⊥

unfoldable pub Ended : Sides → Bool → ℕ → ℕ → List ℕ → Type 0
Ended E s d k bs = (j : ℕ) → k ≤ j → Passed E s d j bs

unfoldable pub Peace : Sides → Bool → ℕ → ℕ → ℕ → List ℕ → Type 0
Peace E s d from to bs = (k : ℕ) → from ≤ k → k < to → k ≤ count E → Passed E s d k bs

-- The next entry from `from` on with which d may clash in the box, if there is one.
abbrev pub NextConflict : Sides → Bool → ℕ → ℕ → List ℕ → Option ℕ → Type 0
NextConflict E s d from bs r = MatchOption r (Peace E s d from (suc (count E)) bs) (λ k. (from ≤ k) × ((k ≤ count E) × Peace E s d from k bs))

-- In the box d clashes with no entry behind it.
abbrev pub Harmless : Sides → Bool → ℕ → List ℕ → Type 0
Harmless E s d bs = Peace E s d (suc d) (suc (count E)) bs

-- So it is for the entry d if it is on one side only.
unfoldable pub SameSides : Sides → ℕ → List ℕ → Type 0
SameSides E d bs = (s : Bool) → on E s d ≡ true → on E (not s) d ≡ false → Harmless E s d bs

-- The action of the first entry on a side that holds the values; and the two sides have the same one throughout the box.
abbrev pub side_action : Sides → Bool → List ℕ → ℕ
side_action E s us = action_at E (first_of (λ k. cond (on E s k) (holds_at E us k) false) 0 (count E))

unfoldable pub Agreed : Sides → List ℕ → Type 0
Agreed E bs = (us : List ℕ) → InBox E.field bs us → side_action E false us ≡ side_action E true us

-- The places of a list are those of rows of a policy, at most as many as the limit.
pub record There (ws list : List ℕ) : Type 0 where
  pub fits : length list ≤ row_limit
  pub places : (k : ℕ) → k < length list → get_or list k 0 < length ws / row_words

-- The sides of a row at a cut, as a number.
abbrev pub sides_of : Range → ℕ → ℕ → ℕ
sides_of r one other = cond (contains r one) (cond (contains r other) 3 1) (cond (contains r other) 2 0)

-- The rows of the entries on a side.
abbrev pub side_rows : List ℕ → List ℕ → ℕ → Bool → List ℕ → List (Row ℕ)
side_rows first second f s es = map (λ e. row_behind (table_of first second e) f (row_of e)) (filter (on_side s) es)

-- The rows of the entries are, on each side, those of a list.
pub record SideRows (first second xs ys es : List ℕ) : Type 0 where
  pub fits : length es ≤ 2 * row_limit
  pub on_first : (f : ℕ) → side_rows first second f false es ≡ map (row_behind first f) xs
  pub on_second : (f : ℕ) → side_rows first second f true es ≡ map (row_behind second f) ys

-- Whose row may be the next entry: one side's alone, or both's where they are the same.
pub record Next (first xs : List ℕ) (i : ℕ) (second ys : List ℕ) (j : ℕ) (r : Option Side) : Type 0 where
  pub of-first : r ≢ Some Second → i < length xs
  pub of-second : r ≢ Some First → j < length ys
  pub same : r ≡ None → (f : ℕ) → row_behind first f (get_or xs i 0) ≡ row_behind second f (get_or ys j 0)

-- The numbers of a list are, in order, those that a test takes from other numbers.
abbrev pub Takes : (ℕ → Bool) → List ℕ → List ℕ → Type 0
Takes test among list = list ≡ filter test among

-- A number is one of the first n of a list; or one of the list.
pub record Early (xs : List ℕ) (n x : ℕ) : Type 0 where
  pub place : ℕ
  pub below : place < n
  pub same : x ≡ get_or xs place 0

abbrev pub OneOf : List ℕ → ℕ → Type 0
OneOf xs x = Early xs (length xs) x

-- The numbers of a list are some of the places xs, and enough of them: two values of the field f that all of these rows treat alike get
-- the same action from the rows at xs, whatever the fields behind hold.
pub record Cutting (ws xs : List ℕ) (f : ℕ) (cuts : List ℕ) : Type 0 where
  pub fits : length cuts ≤ row_limit
  pub among : (k : ℕ) → k < length cuts → OneOf xs (get_or cuts k 0)
  pub alike : (u v : ℕ) → ((k : ℕ) → k < length cuts → contains (range_of ws (get_or cuts k 0) f) u ≡ contains (range_of ws (get_or cuts k 0) f) v) → (us : List ℕ)
      → find 0 (map (row_behind ws f) xs) (u ∷ us) ≡ find 0 (map (row_behind ws f) xs) (v ∷ us)
