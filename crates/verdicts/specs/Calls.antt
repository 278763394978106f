-- The three packet calls (document 01, 'Three doors'), by any search: RFC 4301's processing with no cache and no normal form in sight.
-- Assumes nothing: these are definitions.
use Rattle.std.specs.Prelude.{ℕ, Option, Some, None, ◌+◌, ◌-◌, Bool, cond, not, ◌&&◌, ◌||◌, List, ltb, eqb}
use Rattle.selectors.specs.Value.{number, combination}
use Rattle.selectors.specs.declared.Direction.TheVariants.{Out, In}
use Rattle.policy.specs.declared.Action.{Action}
use Rattle.policy.specs.declared.Action.TheVariants.{Discard, Bypass, Protect as ProtectWith}
use Rattle.packet.specs.Header.{four}
use Rattle.packet.specs.Read.{read_packet, read_trigger, trigger_of, icmp_error}
use Rattle.packet.specs.declared.Packet.{Packet}
use Rattle.sad.specs.Pairs.{esp_protocol, ah_protocol, Pair, live, fitting, pair_for}
use Rattle.sad.specs.declared.Sa.{Sa}
use Rattle.verdicts.specs.declared.Verdict.{Verdict}
use Rattle.verdicts.specs.declared.Verdict.TheVariants.{Pass, Deliver, Protect, Wanted, ToIpsec, NotReadable, Discarded, CameInClear, NoSuchPair, DoesNotFit, IpsecFragment, IpsecTooShort, TriggerUnreadable, TriggerDoesNotFit}

-- The combination that a packet shows.
abbrev pub shows : Packet → List ℕ
shows k = combination k.selectors

-- 'Protect-N: among live pairs with number N whose ranges hold the values …: 2. None: 3.'
abbrev pub protected : ℕ → Option Sa → Verdict
protected n (Some sa) = Protect n sa.protocol sa.spi
protected n None = Wanted n

-- 'Bypass: 0. Discard: 11.'
abbrev pub outbound_action : List Pair → List ℕ → Action → Verdict
outbound_action pairs vs Bypass = Pass
outbound_action pairs vs Discard = Discarded
outbound_action pairs vs (ProtectWith n) = protected n (pair_for n vs pairs)

-- 'Going out. Read (10), search.'
abbrev pub outbound_read : (List ℕ → Action) → List Pair → Option Packet → Verdict
outbound_read search pairs (Some k) = outbound_action pairs (shows k) (search (shows k))
outbound_read search pairs None = NotReadable

unfoldable pub outbound_by : (List ℕ → Action) → List Pair → List ℕ → Verdict
outbound_by search pairs p = outbound_read search pairs (read_packet Out p)

-- The fewest bytes that the upper parts of ESP and AH have, and where in it AH's SPI stands.
abbrev pub esp_bytes : ℕ
esp_bytes = 8

abbrev pub ah_bytes : ℕ
ah_bytes = 12

abbrev pub ah_spi_at : ℕ
ah_spi_at = 4

-- 'If the destination is the gateway and the protocol 50 or 51'.
abbrev pub esp : Packet → Bool
esp k = eqb (number k.selectors.protocol) esp_protocol

unfoldable pub for_gateway : ℕ → Packet → Bool
for_gateway address k = eqb (number k.selectors.local) address && (esp k || eqb (number k.selectors.protocol) ah_protocol)

-- 'A fragment (offset not 0, or more-fragments set) is 15; an upper part under 8 bytes for ESP or 12 for AH is 16; the SPI is upper bytes
-- 0 to 3 for ESP, 4 to 7 for AH; no live pair is 13; else 4.'
abbrev pub fragment : Packet → Bool
fragment k = not (eqb k.offset 0) || k.more_fragments

abbrev pub least_upper : Packet → ℕ
least_upper k = cond (esp k) esp_bytes ah_bytes

abbrev pub spi_of : List ℕ → Packet → ℕ
spi_of p k = cond (esp k) (four p k.upper) (four p (k.upper + ah_spi_at))

unfoldable pub to_ipsec : List Pair → List ℕ → Packet → Verdict
to_ipsec pairs p k =
    cond (fragment k) IpsecFragment
    (cond (ltb (k.end - k.upper) (least_upper k)) IpsecTooShort
    (cond (live (number k.selectors.protocol) (spi_of p k) pairs)
    (ToIpsec (number k.selectors.protocol) (spi_of p k))
    NoSuchPair))

-- 'Anything else is searched: bypass 0, discard 11, protect 12.'
abbrev pub inbound_action : Action → Verdict
inbound_action Bypass = Pass
inbound_action Discard = Discarded
inbound_action (ProtectWith n) = CameInClear

-- 'Coming in from outside. Read (10).'
abbrev pub inbound_read : (List ℕ → Action) → ℕ → List Pair → List ℕ → Option Packet → Verdict
inbound_read search address pairs p (Some k) = cond (for_gateway address k) (to_ipsec pairs p k) (inbound_action (search (shows k)))
inbound_read search address pairs p None = NotReadable

unfoldable pub inbound_by : (List ℕ → Action) → ℕ → List Pair → List ℕ → Verdict
inbound_by search address pairs p = inbound_read search address pairs p (read_packet In p)

-- Whether values fit the ranges of the pair of that name.
abbrev pub fits_pair : ℕ → ℕ → List Pair → List ℕ → Bool
fits_pair protocol spi pairs vs = fitting protocol spi vs pairs

-- 'Unreadable: 17. Read as going out …, does it fit the ranges? Yes: 1. No: 18.'
abbrev pub trigger_read : (List ℕ → Bool) → Option Packet → Verdict
trigger_read fit (Some k) = cond (fit (shows k)) Deliver TriggerDoesNotFit
trigger_read fit None = TriggerUnreadable

-- 'Read (10). Values in its ranges: 1. Otherwise, unless it is ICMP with a seen type 3, 4, 5, 11 or 12: 14. For those the triggering header'.
abbrev pub from_sa_read : ℕ → ℕ → List Pair → List ℕ → Option Packet → Verdict
from_sa_read protocol spi pairs p (Some k) =
    cond (fitting protocol spi (shows k) pairs) Deliver
    (cond (icmp_error (number k.selectors.protocol) (number k.selectors.local_port))
    (trigger_read (fits_pair protocol spi pairs) (read_trigger Out (trigger_of p k.upper k.end)))
    DoesNotFit)
from_sa_read protocol spi pairs p None = NotReadable

-- 'Coming in from an association, AH or ESP taken off. Pair not live: 13.'
unfoldable pub from_sa_by : ℕ → ℕ → List Pair → List ℕ → Verdict
from_sa_by protocol spi pairs p = cond (live protocol spi pairs) (from_sa_read protocol spi pairs p (read_packet In p)) NoSuchPair
