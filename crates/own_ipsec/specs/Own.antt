-- AH and ESP for the gateway itself. Assumes nothing: these are definitions.
use Rattle.std.specs.Prelude.{ℕ, Option, Some, None, cond, List}
use Rattle.packet.specs.declared.Packet.{Packet}
use Rattle.sad.specs.Pairs.{esp_protocol, ah_protocol, Pair}
use Rattle.verdicts.specs.Calls.{esp_bytes, ah_bytes, ah_spi_at, esp, for_gateway, to_ipsec}
use Rattle.verdicts.specs.declared.Verdict.{Verdict}
use Rattle.own_ipsec.specs.declared.Protocol.{Protocol}
use Rattle.own_ipsec.specs.declared.Protocol.TheVariants.{Esp, Ah}

-- What the two protocols have: their number, the fewest upper bytes, where in them the SPI stands.
abbrev pub number_of : Protocol → ℕ
number_of Esp = esp_protocol
number_of Ah = ah_protocol

abbrev pub least_of : Protocol → ℕ
least_of Esp = esp_bytes
least_of Ah = ah_bytes

abbrev pub spi_place : Protocol → ℕ
spi_place Esp = 0
spi_place Ah = ah_spi_at

-- Which of the two a packet for the gateway has.
abbrev pub own_protocol : ℕ → Packet → Option Protocol
own_protocol address k = cond (for_gateway address k) (Some (cond (esp k) Esp Ah)) None

-- 'If the destination is the gateway and the protocol 50 or 51: …. Anything else is searched.'
abbrev pub own_answer : ℕ → List Pair → List ℕ → Packet → Option Verdict
own_answer address pairs p k = cond (for_gateway address k) (Some (to_ipsec pairs p k)) None
