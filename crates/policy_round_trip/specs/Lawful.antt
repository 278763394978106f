-- What an edition of the policy file is to obey, and a row that it has a text for. Assumes nothing: these are definitions.
use Rattle.std.specs.Prelude.{ℕ, ◌≡◌, true, List, [], ◌∷◌, ◌++◌}
use Rattle.std.proofs.Math.Option.{some}
use Rattle.selectors.specs.Range.{Range, in_field}
use Rattle.normal_form.proofs.ShapeLaws.{Fits}
use Rattle.policy.specs.declared.Action.{Action}
use Rattle.policy.specs.declared.Action.TheVariants.{Discard}
use Rattle.policy.specs.Policy.{PolicyRow}
use Rattle.policy_text.specs.Bytes.{tab, lf, count}
use Rattle.policy_text.specs.Format.{Field, Format, sizes}
use Rattle.policy_text.specs.Print.{range_text}

-- A text without tab and LF.
pub record Clean (s : List ℕ) : Type 0 where
  pub no-tab : count tab s ≡ 0
  pub no-lf : count lf s ≡ 0

-- A field: what is printed of its ranges is read back, what is read is one of its ranges, and a range's text has no tab and no LF.
pub record Spelled (g : Field) : Type 0 where
  pub range_back : (r : Range) → in_field g.size r ≡ true → g.read_range (range_text g.size g.value_text r) ≡ some r
  pub range_read : (s : List ℕ) (r : Range) → g.read_range s ≡ some r → in_field g.size r ≡ true
  pub range_clean : (r : Range) → Clean (range_text g.size g.value_text r)

abbrev pub AllSpelled : List Field → Type 0
AllSpelled [] = Unit
AllSpelled (g ∷ gs) = Spelled g × AllSpelled gs

-- An action that the edition has a text for.
abbrev pub Writable : Format → Action → Type 0
Writable f a = f.read_action (f.action_text a) ≡ some a

-- A header line: its one LF is its last byte.
pub record HeaderLine (h : List ℕ) : Type 0 where
  pub words : List ℕ
  pub ended : h ≡ words ++ (lf ∷ [])
  pub one_line : count lf words ≡ 0

-- An edition: discard has a text, every action that is read has one, and an action's text has no tab and no LF.
pub record Lawful (f : Format) : Type 0 where
  pub header_line : HeaderLine f.header
  pub fields_spelled : AllSpelled f.fields
  pub discard_writable : Writable f Discard
  pub action_read : (s : List ℕ) (a : Action) → f.read_action s ≡ some a → Writable f a
  pub action_clean : (a : Action) → Clean (f.action_text a)

-- A row that the edition has a text for: a range of each field, and an action that can be written.
pub record Printable (f : Format) (r : PolicyRow) : Type 0 where
  pub fits : Fits (sizes f) r.ranges
  pub writable : Writable f r.action
