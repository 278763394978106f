-- Rows as words in a flat list: what any words mean, and the words of a row. Assumes nothing: these are definitions.
-- A row is 22 words: its direction, its action, and a range for each of five fields.
use Rattle.std.specs.Prelude.{ℕ, zero, suc, ◌+◌, ◌-◌, ◌*◌, ◌/◌, cond, List, [], ◌∷◌, ◌++◌, eqb, length, get_or}
use Rattle.selectors.specs.Range.{Range}
use Rattle.selectors.specs.Ranges.{address_range, protocol_range, port_range}
use Rattle.selectors.specs.Words.{ranges_words, ranges_at, words_of_ranges}
use Rattle.selectors.specs.declared.Direction.TheVariants.{Out, In}
use Rattle.policy.specs.declared.Action.{Action}
use Rattle.policy.specs.declared.Action.TheVariants.{Discard, Bypass, Protect}
use Rattle.policy.specs.declared.RowDirection.{RowDirection}
use Rattle.policy.specs.declared.RowDirection.TheVariants.{Only, Both}
use Rattle.policy.specs.declared.Row.{Row}
use Rattle.policy.specs.Policy.{PolicyRow}

-- 1 is out, 2 is in, and any other word both.
abbrev pub direction_of : ℕ → RowDirection
direction_of n = cond (eqb n 1) (Only Out) (cond (eqb n 2) (Only In) Both)

abbrev pub direction_word : RowDirection → ℕ
direction_word (Only Out) = 1
direction_word (Only In) = 2
direction_word Both = 3

-- 0 is discard, 1 is bypass, and N + 2 is protect-N: every word is one action, and every action one word.
abbrev pub action_of_word : ℕ → Action
action_of_word n = cond (eqb n 0) Discard (cond (eqb n 1) Bypass (Protect (n - 2)))

abbrev pub action_word : Action → ℕ
action_word Discard = 0
action_word Bypass = 1
action_word (Protect n) = n + 2

-- The words of a row before its ranges, and the words of a row.
abbrev pub head_words : ℕ
head_words = 2

abbrev pub row_words : ℕ
row_words = head_words + ranges_words

-- The most rows of a policy (21) and of a normal form (22), and the words of so many rows.
abbrev pub row_limit : ℕ
row_limit = 256

abbrev pub policy_words : ℕ
policy_words = row_limit * row_words

-- The row whose first word is the word `at`.
unfoldable pub row_at : List ℕ → ℕ → PolicyRow
row_at ws at = record { direction = direction_of (get_or ws at 0); action = action_of_word (get_or ws (at + 1) 0); ranges = ranges_at ws (at + head_words) }

-- n rows from the row i on.
unfoldable pub rows_from : List ℕ → ℕ → ℕ → List PolicyRow
rows_from ws i zero = []
rows_from ws i (suc n) = row_at ws (i * row_words) ∷ rows_from ws (suc i) n

-- The rows of a list of words: as many as are there whole; a rest shorter than a row is no row.
abbrev pub policy_rows : List ℕ → List PolicyRow
policy_rows ws = rows_from ws 0 (length ws / row_words)

-- The words of a row with these first two: the direction's and the action's in a policy, the two actions' where two policies are compared.
abbrev pub words_with : ℕ → ℕ → List Range → List ℕ
words_with first second rs = first ∷ second ∷ words_of_ranges rs

abbrev pub words_of_row : PolicyRow → List ℕ
words_of_row r = words_with (direction_word r.direction) (action_word r.action) r.ranges

-- The words of several things, one after the other.
unfoldable pub words_of_all : {A : Type 0} → (A → List ℕ) → List A → List ℕ
words_of_all words [] = []
words_of_all words (x ∷ xs) = words x ++ words_of_all words xs

abbrev pub words_of : List PolicyRow → List ℕ
words_of rs = words_of_all words_of_row rs

-- Rows as records: the policy row that a record is, and its words. Every word of a record means something, as in a flat list of words.
abbrev pub ranges_of : Row → List Range
ranges_of r =
    address_range r.local
    ∷ address_range r.remote
    ∷ protocol_range r.protocol
    ∷ port_range r.local_port
    ∷ port_range r.remote_port
    ∷ []

abbrev pub row_of : Row → PolicyRow
row_of r = record { direction = direction_of r.direction; action = action_of_word r.action; ranges = ranges_of r }

abbrev pub words_of_record : Row → List ℕ
words_of_record r = words_with r.direction r.action (ranges_of r)

abbrev pub words_of_records : List Row → List ℕ
words_of_records rs = words_of_all words_of_record rs
