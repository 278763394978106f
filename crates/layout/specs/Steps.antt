-- What the layout's steps leave. Assumes nothing: these are definitions.
use Rattle.std.specs.Prelude.{ℕ, suc, ◌+◌, ◌*◌, ◌-◌, ◌≤◌, ◌<◌, ◌≡◌, true, List, [], ◌∷◌, ◌++◌, map, ◌≢◌, ◌⊎◌, length, get_or, Result}
use Rattle.selectors.specs.Range.{Range, contains}
use Rattle.selectors.specs.Value.{number}
use Rattle.selectors.specs.Words.{field_count, values_from}
use Rattle.selectors.specs.declared.Direction.{Direction}
use Rattle.normal_form.specs.Search.{Row}
use Rattle.normal_form.specs.NormalForm.{under, normal_form}
use Rattle.policy.specs.Policy.{PolicyRow, ordered_search}
use Rattle.policy.specs.Words.{action_word, policy_rows, row_words}
use Rattle.agree.specs.Sides.{range_of}
use Rattle.layout.specs.Parting.{Parting, parting-≟, agreed, parting_at}
use Rattle.layout.specs.Decode.{sizes_from, active, part_row, part_rows}
use Rattle.layout.specs.Laid.{answer_of}
use Rattle.layout.specs.declared.Point.{Point}
use Rattle.layout.specs.declared.Kept.{Kept}
use Rattle.layout.specs.declared.branch.Task.{Task}
use Rattle.layout.specs.declared.LayoutError.{LayoutError}

-- The words that a layout of n more fields needs: the limit's rows for each, and for what follows the last.
unfoldable pub words_for : ℕ → ℕ → ℕ
words_for limit n = (n + 1) * (limit * row_words)

-- The layout of the fields that are left, of these sizes, behind the values of the earlier ones.
abbrev pub form_behind : Direction → List PolicyRow → List PolicyRow → List ℕ → List ℕ → List (Row Parting)
form_behind d first second before sizes = normal_form parting-≟ agreed sizes (λ vs. parting_at d first second (before ++ vs))

-- The same in words: n fields from the field f on.
abbrev pub form_at : List ℕ → List ℕ → Task → List ℕ → ℕ → ℕ → List (Row Parting)
form_at first second task before f n =
    form_behind task.direction (policy_rows first) (policy_rows second) before (sizes_from task.highest.words f n)

-- All fields from f on, behind the values of a point; and those behind a value v of the field f.
abbrev pub field_form : List ℕ → List ℕ → Task → Point → ℕ → List (Row Parting)
field_form first second task point f = form_at first second task (values_from point.words 0 f) f (field_count - f)

abbrev pub value_form : List ℕ → List ℕ → Task → Point → ℕ → ℕ → List (Row Parting)
value_form first second task point f v = form_at first second task (values_from point.words 0 f ++ v ∷ []) (f + 1) (field_count - (f + 1))

-- What a layout of n fields from f on leaves: the answer, and in the room the rows if they are within the limit.
pub record LaidOut (limit f n : ℕ) (form : List (Row Parting)) (ws : List ℕ) (r : Result ℕ LayoutError) : Type 0 where
  pub answer : r ≡ answer_of limit form
  pub written : length form ≤ limit → part_rows f n ws 0 (length form) ≡ form

-- The values from `from` to `last` are alike to a range: all in it, or none.
unfoldable pub AlikeTo : Range → ℕ → ℕ → Type 0
AlikeTo r from last = (u : ℕ) → from ≤ u → u ≤ last → contains r u ≡ contains r from

-- They are alike, in the field f, to each of the first n rows that is active.
unfoldable pub AlikeAmong : Direction → List ℕ → ℕ → ℕ → List ℕ → ℕ → ℕ → Type 0
AlikeAmong d ws n f before from last = (i : ℕ) → i < n → active d ws i f before ≡ true → AlikeTo (range_of ws i f) from last

-- Behind the values of the first fields, the search gives the values from `from` to `last` of the next one the same action, whatever the later
-- fields hold.
unfoldable pub SearchAlike : Direction → List ℕ → List ℕ → ℕ → ℕ → Type 0
SearchAlike d ws before from last =
    (u : ℕ) → from ≤ u → u ≤ last → (us : List ℕ)
    → action_word (ordered_search d (policy_rows ws) (before ++ u ∷ us)) ≡ action_word (ordered_search d (policy_rows ws) (before ++ from ∷ us))

-- The last value of an interval that begins at `from` and ends at `best` at the latest; P says to what its values are alike.
pub record IntervalEnd (from best last : ℕ) (P : Type 0) : Type 0 where
  pub reaches : from ≤ last
  pub within : last ≤ best
  pub alike : P

-- Words outside a part are as before.
unfoldable pub Outside : ℕ → ℕ → List ℕ → List ℕ → Type 0
Outside a b ws ws' = (j : ℕ) → (j < a) ⊎ (b ≤ j) → get_or ws' j 0 ≡ get_or ws j 0

-- The rows a to b, without b, have got a range in front, and all other words are as before.
pub record Stamped (f n a b low high : ℕ) (ws ws' : List ℕ) : Type 0 where
  pub rows : (i : ℕ) → a ≤ i → i < b → part_row f (suc n) ws' i ≡ under low high (part_row (f + 1) n ws i)
  pub others : Outside (a * row_words) (b * row_words) ws ws'

-- A block of `count` rows behind the last interval, whose layout is the same: that interval goes on.
pub record Merged (f n : ℕ) (old : Kept) (count : ℕ) (ws ws' : List ℕ) (r : Kept) : Type 0 where
  pub kept : r ≡ old
  pub words : ws' ≡ ws
  pub same : part_rows (f + 1) n ws old.last (old.next - old.last) ≡ part_rows (f + 1) n ws old.next count

-- Or is another: the last interval ends before `from`, and one with that block begins there.
pub record Begun (f n : ℕ) (old : Kept) (count from : ℕ) (ws ws' : List ℕ) (r : Kept) : Type 0 where
  pub last : r.last ≡ old.next
  pub next : r.next ≡ old.next + count
  pub low : number r.low ≡ from
  pub apart : part_rows (f + 1) n ws old.last (old.next - old.last) ≢ part_rows (f + 1) n ws old.next count
  pub done : part_rows f (suc n) ws' 0 old.next
      ≡ part_rows f (suc n) ws 0 old.last
      ++ map (under (number old.low) (from - 1)) (part_rows (f + 1) n ws old.last (old.next - old.last))
  pub block : part_rows (f + 1) n ws' old.next count ≡ part_rows (f + 1) n ws old.next count

abbrev pub Placed : ℕ → ℕ → Kept → ℕ → ℕ → List ℕ → List ℕ → Kept → Type 0
Placed f n kept count from ws ws' r = Merged f n kept count ws ws' r ⊎ Begun f n kept count from ws ws' r
