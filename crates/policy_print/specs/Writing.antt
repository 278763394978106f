-- What a writer leaves, and the fields whose values it knows. Assumes nothing: these are definitions.
use Rattle.std.specs.Prelude.{ℕ, ◌+◌, ◌^◌, ◌<◌, ◌≡◌, List, length}
use Rattle.std.proofs.lemmas.List.Edits.{sets}
use Rattle.policy_text.specs.Format.{Field}
use Rattle.policy_text.specs.Edition1.{addresses, protocols, ports}
use Rattle.policy_print.specs.declared.Kind.{Kind}
use Rattle.policy_print.specs.declared.Kind.TheVariants.{Address, Protocol, Port}
use Rattle.policy_print.specs.declared.Writer.{Writer}

abbrev pub field_of : Kind → Field
field_of Address = addresses
field_of Protocol = protocols
field_of Port = ports

-- A text is stored from a writer's place on, as far as its room goes, and the next place comes after it. (A place that is too large for a machine
-- is none: `print` puts no such text.)
pub record Puts (old : Writer) (text : List ℕ) (new : Writer) : Type 0 where
  pub same_room : new.out.ghost_name ≡ old.out.ghost_name
  pub place : old.at + length text < 2 ^ 64 → new.at ≡ old.at + length text
  pub bytes : old.at + length text < 2 ^ 64 → new.out.now ≡ sets old.out.now old.at text
