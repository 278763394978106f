-- What an edition of the policy file is, and its rows, read (document 01; docs/RULES.md has them with examples). Assumes nothing: these are definitions.
use Rattle.std.specs.Prelude.{ℕ, zero, suc, ◌+◌, ◌≤◌, cond, List, [], ◌∷◌, Some, None}
use Rattle.std.proofs.Math.Option.{Option, none, some}
use Rattle.selectors.specs.Range.{Range, range, in_field}
use Rattle.selectors.specs.declared.Direction.TheVariants.{Out, In}
use Rattle.policy.specs.declared.Action.{Action}
use Rattle.policy.specs.declared.RowDirection.{RowDirection}
use Rattle.policy.specs.declared.RowDirection.TheVariants.{Only, Both}
use Rattle.policy.specs.Policy.{PolicyRow}
use Rattle.policy_text.specs.Decimals.{Number}
use Rattle.policy_text.specs.Bytes.{tab, lf, dash, has, before, after, are_same_bytes}

-- A field of an edition: the count of its values, the range that a text stands for, and the text of a value.
pub record Field : Type 0 where
  pub size : ℕ
  pub read_range : List ℕ → Option Range
  pub value_text : ℕ → List ℕ

-- An edition: its header line, with the LF; its fields, in file order; the action that a text stands for, and the text of an action.
pub record Format : Type 0 where
  pub header : List ℕ
  pub fields : List Field
  pub read_action : List ℕ → Option Action
  pub action_text : Action → List ℕ

-- The sizes of its fields.
abbrev pub field_sizes : List Field → List ℕ
field_sizes [] = []
field_sizes (g ∷ gs) = g.size ∷ field_sizes gs

abbrev pub sizes : Format → List ℕ
sizes f = field_sizes f.fields

-- Words of the format: `any`, `out`, `in`, `both`.
abbrev pub any : List ℕ
any = 97 ∷ 110 ∷ 121 ∷ []

abbrev pub out_word : List ℕ
out_word = 111 ∷ 117 ∷ 116 ∷ []

abbrev pub in_word : List ℕ
in_word = 105 ∷ 110 ∷ []

abbrev pub both_word : List ℕ
both_word = 98 ∷ 111 ∷ 116 ∷ 104 ∷ []

-- A number of at most max, or none.
abbrev pub AtMost : ℕ → Number → Type 0
AtMost max None = Unit
AtMost max (Some n) = n ≤ max

-- The range from low to high: 'low at most high', and both values of a field of that size.
abbrev pub made : ℕ → ℕ → ℕ → Option Range
made size low high = cond (in_field size (range low high)) (some (range low high)) none

abbrev pub spanned : ℕ → Number → Number → Option Range
spanned size None high = none
spanned size (Some a) None = none
spanned size (Some a) (Some b) = made size a b

-- 'One value, or `low-high` with low at most high'; the last value is read by a rule of its own, for ports.
abbrev pub ends : ℕ → (List ℕ → Number) → (List ℕ → Number) → List ℕ → Option Range
ends size low high s =
    cond (has dash s) (spanned size (low (before dash s)) (high (after dash s))) (spanned size (high s) (high s))

-- 'Way (`out`, `in`, `both`)'.
unfoldable pub direction_field : List ℕ → Option RowDirection
direction_field s =
    cond (are_same_bytes s out_word) (some (Only Out))
    (cond (are_same_bytes s in_word) (some (Only In)) (cond (are_same_bytes s both_word) (some Both) none))

-- What is left of a row's text after n tabs.
unfoldable pub fields_from : ℕ → List ℕ → List ℕ
fields_from zero s = s
fields_from (suc n) s = after tab (fields_from n s)

-- The field n of a row's text, from 0.
unfoldable pub field : ℕ → List ℕ → List ℕ
field n s = before tab (fields_from n s)

-- The text of the field n where those fields come after it: up to the next tab, or to the end if there are none.
abbrev pub field_before : List Field → ℕ → List ℕ → List ℕ
field_before [] n s = fields_from n s
field_before (g ∷ gs) n s = field n s

abbrev pub onto_range : Option Range → Option (List Range) → Option (List Range)
onto_range none rs = none
onto_range (some r) none = none
onto_range (some r) (some rs) = some (r ∷ rs)

-- The ranges of fields of which the first is the field n of a row's text. A row with fewer tabs has an empty field here, one with more a tab
-- in the last, and neither is a field.
unfoldable pub ranges_from : List Field → ℕ → List ℕ → Option (List Range)
ranges_from [] n s = some []
ranges_from (g ∷ gs) n s = onto_range (g.read_range (field_before gs n s)) (ranges_from gs (suc n) s)

abbrev pub row_made_of : Option RowDirection → Option Action → Option (List Range) → Option PolicyRow
row_made_of none a rs = none
row_made_of (some d) none rs = none
row_made_of (some d) (some a) none = none
row_made_of (some d) (some a) (some rs) = some (record { direction = d; action = a; ranges = rs })

-- A row's text without its LF, to the row: 'way, action', and the edition's fields, 'parted by one tab'.
unfoldable pub row_of : Format → List ℕ → Option PolicyRow
row_of f s = row_made_of (direction_field (field 0 s)) (f.read_action (field_before f.fields 1 s)) (ranges_from f.fields 2 s)

-- 'Lines of text end in LF.' The first n lines of a text.
unfoldable pub lines_of : ℕ → List ℕ → List (List ℕ)
lines_of zero s = []
lines_of (suc n) s = before lf s ∷ lines_of n (after lf s)

-- What lines are: rows, or one of them is a bad row, with its number.
pub data Lines : Type 0 where
  all_rows : List PolicyRow → Lines
  bad_row : ℕ → Lines

abbrev pub onto : PolicyRow → Lines → Lines
onto r (all_rows rs) = all_rows (r ∷ rs)
onto r (bad_row k) = bad_row k

abbrev pub onto_row : ℕ → Option PolicyRow → Lines → Lines
onto_row i none rest = bad_row i
onto_row i (some r) rest = onto r rest

-- The rows of lines of which the first is row i; 'bad row: its number, first row 1', of the first bad row.
unfoldable pub rows_of : Format → ℕ → List (List ℕ) → Lines
rows_of f i [] = all_rows []
rows_of f i (l ∷ ls) = onto_row i (row_of f l) (rows_of f (i + 1) ls)
