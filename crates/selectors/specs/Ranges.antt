-- The types of ranges as ranges of numbers, and what their constructors answer. Assumes nothing: these are definitions.
use Rattle.std.specs.Prelude.{ℕ, Option, Some, None, cond, List, [], ◌∷◌}
use Rattle.selectors.specs.Range.{Range, range, in_field}
use Rattle.selectors.specs.Value.{number}
use Rattle.selectors.specs.declared.Value.{Value}
use Rattle.selectors.specs.declared.ranges.Ends.{Ends}
use Rattle.selectors.specs.declared.Fields.{Fields}
use Rattle.selectors.specs.declared.ranges.AddressRange.{AddressRange}
use Rattle.selectors.specs.declared.ranges.ProtocolRange.{ProtocolRange}
use Rattle.selectors.specs.declared.ranges.PortRange.{PortRange}

-- The range from one value to another.
abbrev pub from_to : Value → Value → Range
from_to low high = range (number low) (number high)

abbrev pub ends_range : Ends → Range
ends_range e = from_to e.low e.high

-- The ranges of the five fields, by their ends.
abbrev pub five_ranges : Fields Ends → List Range
five_ranges r = ends_range r.local ∷ ends_range r.remote ∷ ends_range r.protocol ∷ ends_range r.local_port ∷ ends_range r.remote_port ∷ []

abbrev pub address_range : AddressRange → Range
address_range r = from_to r.low r.high

abbrev pub protocol_range : ProtocolRange → Range
protocol_range r = from_to r.low r.high

abbrev pub port_range : PortRange → Range
port_range r = from_to r.low r.high

-- The range of each type from one value to another.
abbrev pub address_of : Value → Value → AddressRange
address_of low high = record { low = low; high = high }

abbrev pub protocol_of : Value → Value → ProtocolRange
protocol_of low high = record { low = low; high = high }

abbrev pub port_of : Value → Value → PortRange
port_of low high = record { low = low; high = high }

-- A constructor makes the range, and refuses one with low above high or an end beyond its field.
abbrev pub new_range : {R : Type 0} → ℕ → (Value → Value → R) → Value → Value → Option R
new_range size made low high = cond (in_field size (from_to low high)) (Some (made low high)) None
