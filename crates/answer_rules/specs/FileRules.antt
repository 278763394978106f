-- The rules of policy files and of normalising one, a rule for each answer. Assumes nothing: these are definitions.
use Rattle.std.specs.Prelude.{ℕ, ◌≤◌, ◌<◌, ◌≡◌, List, length, Result, Ok, Err}
use Rattle.selectors.specs.declared.Direction.{Direction}
use Rattle.selectors.specs.declared.Direction.TheVariants.{Out, In}
use Rattle.policy_text.specs.declared.Edition.{Edition}
use Rattle.policy_text.specs.declared.Refusal.{Refusal}
use Rattle.policy_text.specs.declared.Refusal.TheVariants.{NotHeader, NotEnded, TooMany, BadRow}
use Rattle.policy_text.specs.Editions.{row_count, Rules, Policy, refused, rows, parse_policy}
use Rattle.decorrelate.specs.Form.{form}
use Rattle.normal_form_file.specs.Normalise.{form_file}
use Rattle.normal_form_file.specs.declared.NormaliseError.{NormaliseError}
use Rattle.normal_form_file.specs.declared.NormaliseError.TheVariants.{Refused, TooLarge, NoRoom as Short}
use Rattle.acceptance.specs.declared.AcceptError.{AcceptError}
use Rattle.acceptance.specs.declared.AcceptError.TheVariants.{Refused as RefusedFile, TooLarge as RefusedForm}
use Rattle.answer_rules.specs.Terms.{Headed, HasHeader, EndsInLf, FirstBadRow, RowsAre}

-- The refusals of a file, the same for every call: 'in the order 23, 24, 21, 20 (first bad row)'.
abbrev pub RefusalRule : ℕ → List ℕ → Refusal → Type 0
RefusalRule limit s NotHeader = ¬ (HasHeader s)
RefusalRule limit s NotEnded = HasHeader s × (¬ (EndsInLf s))
RefusalRule limit s TooMany = (e : Edition) × Headed e s × EndsInLf s × (limit < row_count e s)
RefusalRule limit s (BadRow i) = (e : Edition) × Headed e s × EndsInLf s × (row_count e s ≤ limit) × FirstBadRow e s i

-- A policy file.
abbrev pub FileRule : ℕ → List ℕ → Policy → Type 0
FileRule limit s (rows rs) =
    Headed rs.edition s × EndsInLf s × (row_count rs.edition s ≤ limit) × RowsAre rs.edition s rs.entries
FileRule limit s (refused r) = RefusalRule limit s r

-- Normalising a policy file for one direction.
abbrev pub NormaliseRule : ℕ → Direction → ℕ → List ℕ → Result ℕ NormaliseError → Type 0
NormaliseRule limit d room s (Ok n) =
    (rs : Rules) × (parse_policy limit s ≡ rows rs) × (length (form d rs) ≤ limit) × (length (form_file d rs) ≤ room)
    × (length (form_file d rs) ≡ n)
NormaliseRule limit d room s (Err (Refused r)) = RefusalRule limit s r
NormaliseRule limit d room s (Err (TooLarge w)) =
    (w ≡ d) × (rs : Rules) × (parse_policy limit s ≡ rows rs) × (limit < length (form d rs))
NormaliseRule limit d room s (Err Short) =
    (rs : Rules) × (parse_policy limit s ≡ rows rs) × (length (form d rs) ≤ limit) × (room < length (form_file d rs))

-- Accepting a policy file: 'way, out tried first'.
abbrev pub AcceptRule : ℕ → List ℕ → Result Unit AcceptError → Type 0
AcceptRule limit s (Ok u) =
    (rs : Rules) × (parse_policy limit s ≡ rows rs) × (length (form Out rs) ≤ limit) × (length (form In rs) ≤ limit)
AcceptRule limit s (Err (RefusedFile r)) = RefusalRule limit s r
AcceptRule limit s (Err (RefusedForm Out)) = (rs : Rules) × (parse_policy limit s ≡ rows rs) × (limit < length (form Out rs))
AcceptRule limit s (Err (RefusedForm In)) =
    (rs : Rules) × (parse_policy limit s ≡ rows rs) × (length (form Out rs) ≤ limit) × (limit < length (form In rs))
