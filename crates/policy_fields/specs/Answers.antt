-- What the code answers, for what the definitions say. Assumes nothing: these are definitions.
use Rattle.std.specs.Prelude.{ℕ, List, [], Option as Perhaps, Some, None}
use Rattle.std.proofs.Math.Option.{Option, none, some}
use Rattle.selectors.specs.Range.{Range}
use Rattle.selectors.specs.Ranges.{address_of, protocol_of, port_of}
use Rattle.selectors.specs.declared.Value.{Value}
use Rattle.selectors.specs.declared.ranges.AddressRange.{AddressRange}
use Rattle.selectors.specs.declared.ranges.ProtocolRange.{ProtocolRange}
use Rattle.selectors.specs.declared.ranges.PortRange.{PortRange}
use Rattle.policy.specs.declared.Action.{Action}
use Rattle.policy.specs.declared.Row.{Row}
use Rattle.policy.specs.declared.RowDirection.{RowDirection}
use Rattle.policy.specs.Words.{direction_word, action_word, words_of_record}
use Rattle.policy_text.specs.Format.{direction_field, field, fields_from}
use Rattle.policy_text.specs.Edition1.{address_field, protocol_field, port_field, action_field}

-- A number of 64 bits as a value.
abbrev pub small : ℕ → Value
small n = record { upper = 0; lower = n }

-- The code's answer for the definitions', and for a range.
abbrev pub perhaps : {A : Type 0} → Option A → Perhaps A
perhaps none = None
perhaps (some x) = Some x

abbrev pub range_for : {R : Type 0} → (Value → Value → R) → Option Range → Perhaps R
range_for made none = None
range_for made (some r) = Some (made (small r.low) (small r.high))

-- The entry of seven fields, if each is one, with the words of its direction and its action.
abbrev pub entry_for : Perhaps RowDirection → Perhaps Action → Perhaps AddressRange → Perhaps AddressRange → Perhaps ProtocolRange → Perhaps PortRange → Perhaps PortRange → Perhaps Row
entry_for None a l r p x y = None
entry_for (Some d) None l r p x y = None
entry_for (Some d) (Some a) None r p x y = None
entry_for (Some d) (Some a) (Some l) None p x y = None
entry_for (Some d) (Some a) (Some l) (Some r) None x y = None
entry_for (Some d) (Some a) (Some l) (Some r) (Some p) None y = None
entry_for (Some d) (Some a) (Some l) (Some r) (Some p) (Some x) None = None
entry_for (Some d) (Some a) (Some l) (Some r) (Some p) (Some x) (Some y) =
    Some (record { direction = direction_word d; action = action_word a; local = l; remote = r; protocol = p; local_port = x; remote_port = y })

unfoldable pub entry_of : List ℕ → Perhaps Row
entry_of s =
    entry_for (perhaps (direction_field (field 0 s))) (perhaps (action_field (field 1 s))) (range_for address_of (address_field (field 2 s)))
    (range_for address_of (address_field (field 3 s))) (range_for protocol_of (protocol_field (field 4 s))) (range_for port_of (port_field (field 5 s)))
    (range_for port_of (port_field (fields_from 6 s)))

-- The words of a row's text; a bad row has none.
abbrev pub text_words : Perhaps Row → List ℕ
text_words None = []
text_words (Some e) = words_of_record e
