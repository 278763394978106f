-- How directions, pairs, actions and packets cross to C as words. Assumes nothing: these are definitions.
use Rattle.std.specs.Prelude.{ℕ, ◌-◌, ◌*◌, Bool, true, false, cond, Option, Some, None, List, [], ◌∷◌, eqb, length, replicate}
use Rattle.selectors.specs.Words.{field_count, value_words, five_at, words_of_selectors}
use Rattle.selectors.specs.declared.Direction.{Direction}
use Rattle.selectors.specs.declared.Direction.TheVariants.{Out, In}
use Rattle.packet.specs.declared.Packet.{Packet}
use Rattle.packet.specs.Read.{trigger_of}
use Rattle.policy.specs.declared.Action.{Action}
use Rattle.policy.specs.declared.Action.TheVariants.{Discard, Bypass, Protect}
use Rattle.sad.specs.declared.NewPair.{NewPair}

-- 1 is out, and any other number in.
abbrev pub direction_of_number : ℕ → Direction
direction_of_number n = cond (eqb n 1) Out In

-- A pair, its five ranges as words.
unfoldable pub pair_from : ℕ → ℕ → ℕ → ℕ → List ℕ → NewPair
pair_from protocol inbound_spi outbound_spi n ws =
    record {
      protocol = protocol;
      spi_in = inbound_spi;
      spi_out = outbound_spi;
      number = n;
      ranges = five_at ws 0;
    }

-- An action: 0 discard, 1 bypass, 2 protect, and the number N of protect-N.
abbrev pub kind_of_action : Action → ℕ
kind_of_action Discard = 0
kind_of_action Bypass = 1
kind_of_action (Protect n) = 2

abbrev pub number_of_action : Action → ℕ
number_of_action Discard = 0
number_of_action Bypass = 0
number_of_action (Protect n) = n

-- Whether a row was found, and its place, the first being 0.
abbrev pub is_found : Option ℕ → Bool
is_found (Some i) = true
is_found None = false

abbrev pub place_found : Option ℕ → ℕ
place_found (Some i) = i
place_found None = 0

-- Whether a packet is readable, and its selectors, zeros where it is not.
abbrev pub is_readable : Option Packet → Bool
is_readable (Some k) = true
is_readable None = false

abbrev pub reading_words : Option Packet → List ℕ
reading_words (Some k) = words_of_selectors k.selectors
reading_words None = replicate (field_count * value_words) 0

-- Where the triggering header of a packet starts, and how long it is.
abbrev pub trigger_part : ℕ → ℕ → List ℕ
trigger_part end long = (end - long) ∷ long ∷ []

abbrev pub trigger_words : List ℕ → Option Packet → List ℕ
trigger_words p (Some k) = trigger_part k.end (length (trigger_of p k.upper k.end))
trigger_words p None = 0 ∷ 0 ∷ []
