-- What the gateway sees in a packet (document 01; docs/RULES.md, 'What is read in a packet'). Assumes nothing: these are definitions.
use Rattle.std.specs.Prelude.{Option, Some, None, ℕ, ◌+◌, ◌-◌, ◌/◌, min, Bool, cond, not, ◌&&◌, ◌||◌, List, leb, eqb, length, take, drop}
use Rattle.selectors.specs.Range.{absent}
use Rattle.selectors.specs.declared.Value.{Value}
use Rattle.selectors.specs.declared.Fields.{Fields}
use Rattle.selectors.specs.declared.Direction.{Direction}
use Rattle.selectors.specs.declared.Direction.TheVariants.{Out, In}
use Rattle.packet.specs.Header.{two, shortest_header, shortest_field, ip_version, version, header_field, header_end, total_length, more_fragments_of, fragment_offset, protocol, source, destination}
use Rattle.packet.specs.declared.Packet.{Packet}

-- 'At least 20 bytes, version 4, header length field at least 5, total length at least 4 times that field'.
unfoldable pub header_good : List ℕ → Bool
header_good p = leb shortest_header (length p) && (eqb (version p) ip_version && (leb shortest_field (header_field p) && leb (header_end p) (total_length p)))

-- A readable packet: and the total length is 'at most the bytes lent'.
unfoldable pub readable : List ℕ → Bool
readable p = header_good p && leb (total_length p) (length p)

-- A triggering header: 'its header must be there whole, but its total length may exceed the bytes there'.
unfoldable pub trigger_readable : List ℕ → Bool
trigger_readable p = header_good p && leb (header_end p) (length p)

-- 'Protocols 6, 17, 132' have ports.
unfoldable pub carries_ports : ℕ → Bool
carries_ports n = eqb n 6 || (eqb n 17 || eqb n 132)

abbrev pub is_icmp : ℕ → Bool
is_icmp n = eqb n 1

-- What the upper part shows: a source and a destination port, an ICMP type * 256 + code, or nothing.
pub data Shown : Type 0 where
  ports : ℕ → ℕ → Shown
  type_and_code : ℕ → Shown
  nothing : Shown

-- 'Source and destination port are the first four bytes of the upper part'; ICMP 'needs two upper bytes'.
abbrev pub ports_bytes : ℕ
ports_bytes = 4

abbrev pub destination_port_at : ℕ
destination_port_at = 2

abbrev pub type_and_code_bytes : ℕ
type_and_code_bytes = 2

-- The upper part runs from the header's end to `end`. 'Other protocols, a fragment offset other than 0, or too few upper bytes: both absent'.
unfoldable pub shown : List ℕ → ℕ → Shown
shown p end =
    cond (eqb (fragment_offset p) 0 && (carries_ports (protocol p) && leb (header_end p + ports_bytes) end))
    (ports (two p (header_end p)) (two p (header_end p + destination_port_at)))
    (cond (eqb (fragment_offset p) 0 && (is_icmp (protocol p) && leb (header_end p + type_and_code_bytes) end))
    (type_and_code (two p (header_end p)))
    nothing)

-- 'Going out, local is the source; coming in, local is the destination.' ICMP's type and code 'stands as local port, whoever sent it'.
abbrev pub local : Direction → ℕ → ℕ → ℕ
local Out s d = s
local In s d = d

abbrev pub remote : Direction → ℕ → ℕ → ℕ
remote Out s d = d
remote In s d = s

abbrev pub local_port_of : Direction → Shown → ℕ
local_port_of d (ports s t) = local d s t
local_port_of d (type_and_code n) = n
local_port_of d nothing = absent

abbrev pub remote_port_of : Direction → Shown → ℕ
remote_port_of d (ports s t) = remote d s t
remote_port_of d (type_and_code n) = absent
remote_port_of d nothing = absent

-- A number below 2^64 as a value.
abbrev pub value : ℕ → Value
value n = record { upper = 0; lower = n }

abbrev pub selectors_in : Direction → List ℕ → Shown → Fields Value
selectors_in d p s =
    record {
      local = value (local d (source p) (destination p));
      remote = value (remote d (source p) (destination p));
      protocol = value (protocol p);
      local_port = value (local_port_of d s);
      remote_port = value (remote_port_of d s);
    }

-- All that is read, with the upper part up to `end`.
abbrev pub packet_of : Direction → List ℕ → ℕ → Packet
packet_of d p end =
    record {
      selectors = selectors_in d p (shown p end);
      offset = fragment_offset p;
      more_fragments = more_fragments_of p;
      upper = header_end p;
      end = end;
    }

-- A packet: 'the upper part runs from header end to total length'.
unfoldable pub read_packet : Direction → List ℕ → Option Packet
read_packet d p = cond (readable p) (Some (packet_of d p (total_length p))) None

-- A triggering header: 'the upper part ends at whichever comes first'.
unfoldable pub read_trigger : Direction → List ℕ → Option Packet
read_trigger d p = cond (trigger_readable p) (Some (packet_of d p (min (total_length p) (length p)))) None

-- 'The triggering header starts 8 bytes into the upper part'.
abbrev pub trigger_at : ℕ
trigger_at = 8

-- The triggering header: 'from there to the upper part's end, empty if that end comes sooner.'
-- (No upper part ends after the last byte lent.)
unfoldable pub trigger_of : List ℕ → ℕ → ℕ → List ℕ
trigger_of p upper end =
    let stop = min end (length p) in
    let from = min (upper + trigger_at) stop in
    take (stop - from) (drop from p)

-- 'A seen type 3, 4, 5, 11 or 12 (the error messages of RFC 1122)'.
unfoldable pub error_type : ℕ → Bool
error_type n = eqb n 3 || (eqb n 4 || (eqb n 5 || (eqb n 11 || eqb n 12)))

-- The type is seen where an ICMP packet's local port, type * 256 + code, is not absent.
unfoldable pub icmp_error : ℕ → ℕ → Bool
icmp_error protocol local_port_of = is_icmp protocol && (not (eqb local_port_of absent) && error_type (local_port_of / 256))
