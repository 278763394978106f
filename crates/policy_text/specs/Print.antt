-- The printed policy file (document 01; docs/RULES.md, 'The printed form'): header, then rows, way first. Assumes nothing: these are definitions.
use Rattle.std.specs.Prelude.{ℕ, cond, List, [], ◌∷◌, ◌++◌, eqb}
use Rattle.selectors.specs.Range.{Range, full, same_range}
use Rattle.selectors.specs.declared.Direction.{Direction}
use Rattle.selectors.specs.declared.Direction.TheVariants.{Out, In}
use Rattle.policy.specs.declared.RowDirection.{RowDirection}
use Rattle.policy.specs.declared.RowDirection.TheVariants.{Only, Both}
use Rattle.policy.specs.Policy.{PolicyRow}
use Rattle.policy_text.specs.Bytes.{tab, lf, dash}
use Rattle.policy_text.specs.Format.{Field, Format, any, out_word, in_word, both_word}

-- 'A full range is `any`, a single value alone, otherwise `low-high`': full is all of the field, the absent port too.
unfoldable pub range_text : ℕ → (ℕ → List ℕ) → Range → List ℕ
range_text size text r =
    cond (same_range r (full size)) any
    (cond (eqb r.low r.high) (text r.low) (text r.low ++ (dash ∷ text r.high)))

-- The ranges of fields, each after a tab.
abbrev pub fields_text : List Field → List Range → List ℕ
fields_text [] rs = []
fields_text (g ∷ gs) [] = []
fields_text (g ∷ gs) (r ∷ rs) = tab ∷ (range_text g.size g.value_text r ++ fields_text gs rs)

abbrev pub ranges_text : Format → List Range → List ℕ
ranges_text f = fields_text f.fields

abbrev pub direction_text : RowDirection → List ℕ
direction_text (Only Out) = out_word
direction_text (Only In) = in_word
direction_text Both = both_word

-- A row's text without its LF.
unfoldable pub row_text : Format → PolicyRow → List ℕ
row_text f r = direction_text r.direction ++ (tab ∷ (f.action_text r.action ++ ranges_text f r.ranges))

-- Rows, each with its LF.
abbrev pub line_text : Format → PolicyRow → List ℕ
line_text f r = row_text f r ++ (lf ∷ [])

unfoldable pub rows_text : Format → List PolicyRow → List ℕ
rows_text f [] = []
rows_text f (r ∷ rs) = line_text f r ++ rows_text f rs

-- 'Header, then rows'.
unfoldable pub policy_text : Format → List PolicyRow → List ℕ
policy_text f rs = f.header ++ rows_text f rs

-- Rows as rows of one direction.
abbrev pub toward : Direction → PolicyRow → PolicyRow
toward d r = record { direction = Only d; action = r.action; ranges = r.ranges }
