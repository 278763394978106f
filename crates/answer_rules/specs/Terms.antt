-- Document 01's conditions on packets, pairs and policy files, in its own terms. Assumes nothing: these are definitions.
use Rattle.std.specs.Prelude.{ℕ, ◌-◌, ◌*◌, ◌/◌, ◌≤◌, ◌<◌, ◌≡◌, true, List, [], map, ◌⊎◌, ◌≢◌, length, get_or, take, Result}
use Rattle.std.proofs.Math.Option.{none, some}
use Rattle.selectors.specs.Range.{absent, address_size, protocol_size, port_size}
use Rattle.selectors.specs.Value.{number}
use Rattle.selectors.specs.declared.Direction.{Direction}
use Rattle.selectors.specs.declared.ranges.Ends.{Ends}
use Rattle.packet.specs.Header.{version, header_field, total_length}
use Rattle.packet.specs.Read.{trigger_of}
use Rattle.packet.specs.declared.Packet.{Packet}
use Rattle.sad.specs.declared.NewPair.{NewPair}
use Rattle.policy.specs.Policy.{PolicyRow}
use Rattle.policy_text.specs.Bytes.{lf}
use Rattle.policy_text.specs.Format.{row_of}
use Rattle.policy_text.specs.declared.Edition.{Edition}
use Rattle.policy_text.specs.Editions.{format_of, row_count, row_lines, parse_policy}
use Rattle.normal_form_file.specs.Normalise.{normalised}
use Rattle.normal_form_file.specs.declared.NormaliseError.{NormaliseError}
use Rattle.acceptance.specs.Spd.{accepting}
use Rattle.acceptance.specs.declared.AcceptError.{AcceptError}

-- 'A readable packet (RFC 791) has at least 20 bytes, version 4, header length field at least 5, total length at least 4 times that field
-- and at most the bytes lent.'
pub record ReadablePacket (p : List ℕ) : Type 0 where
  pub bytes : 20 ≤ length p
  pub version-4 : version p ≡ 4
  pub header-5 : 5 ≤ header_field p
  pub header_within : 4 * header_field p ≤ total_length p
  pub total_lent : total_length p ≤ length p

-- The triggering header 'is read like a packet and its header must be there whole, but its total length may exceed the bytes there'.
pub record ReadableHeader (p : List ℕ) : Type 0 where
  pub bytes : 20 ≤ length p
  pub version-4 : version p ≡ 4
  pub header-5 : 5 ≤ header_field p
  pub header_within : 4 * header_field p ≤ total_length p
  pub header_whole : 4 * header_field p ≤ length p

-- The protocol of a packet that was read, and its destination where it is coming in: 'coming in, local is the destination'.
abbrev pub protocol_of : Packet → ℕ
protocol_of k = number k.selectors.protocol

abbrev pub destination_of : Packet → ℕ
destination_of k = number k.selectors.local

-- 'If the destination is the gateway and the protocol 50 or 51'.
abbrev pub ForGateway : ℕ → Packet → Type 0
ForGateway address k = (destination_of k ≡ address) × ((protocol_of k ≡ 50) ⊎ (protocol_of k ≡ 51))

-- 'A fragment (offset not 0, or more-fragments set)'.
abbrev pub Fragment : Packet → Type 0
Fragment k = (k.offset ≢ 0) ⊎ (k.more_fragments ≡ true)

-- 'An upper part under 8 bytes for ESP or 12 for AH'.
abbrev pub upper_bytes : Packet → ℕ
upper_bytes k = k.end - k.upper

abbrev pub TooShort : Packet → Type 0
TooShort k = ((protocol_of k ≡ 50) × (upper_bytes k < 8)) ⊎ ((protocol_of k ≡ 51) × (upper_bytes k < 12))

-- 'ICMP with a seen type 3, 4, 5, 11 or 12 (the error messages of RFC 1122)'. ICMP's local port is type * 256 + code, and is not absent
-- where the type is seen.
abbrev pub type_and_code : Packet → ℕ
type_and_code k = number k.selectors.local_port

abbrev pub ErrorType : ℕ → Type 0
ErrorType t = (t ≡ 3) ⊎ (t ≡ 4) ⊎ (t ≡ 5) ⊎ (t ≡ 11) ⊎ (t ≡ 12)

abbrev pub IcmpError : Packet → Type 0
IcmpError k = (protocol_of k ≡ 1) × (type_and_code k ≢ absent) × ErrorType (type_and_code k / 256)

-- The triggering header that a packet returns: it 'starts 8 bytes into the upper part … to the upper part's end'.
abbrev pub returned : List ℕ → Packet → List ℕ
returned p k = trigger_of p k.upper k.end

-- 'Either SPI below 256.'
abbrev pub LowSpi : NewPair → Type 0
LowSpi q = (q.spi_in < 256) ⊎ (q.spi_out < 256)

-- 'Protocol not 50 or 51'; 'number not 1 to 255'; 'a range value beyond its field, or low above high'.
abbrev pub NotIpsec : NewPair → Type 0
NotIpsec q = (q.protocol ≢ 50) × (q.protocol ≢ 51)

abbrev pub BadNumber : NewPair → Type 0
BadNumber q = (q.number < 1) ⊎ (255 < q.number)

abbrev pub BadRange : ℕ → Ends → Type 0
BadRange size e = (size ≤ number e.low) ⊎ (size ≤ number e.high) ⊎ (number e.high < number e.low)

abbrev pub SomeBadRange : NewPair → Type 0
SomeBadRange q =
    BadRange address_size q.ranges.local
    ⊎ BadRange address_size q.ranges.remote
    ⊎ BadRange protocol_size q.ranges.protocol
    ⊎ BadRange port_size q.ranges.local_port
    ⊎ BadRange port_size q.ranges.remote_port

abbrev pub BadPair : NewPair → Type 0
BadPair q = NotIpsec q ⊎ BadNumber q ⊎ SomeBadRange q

-- 'First nine bytes aren't the header line': a file begins with the header line of an edition, or with none. 'Last byte isn't LF.'
abbrev pub Headed : Edition → List ℕ → Type 0
Headed e s = take (length (format_of e).header) s ≡ (format_of e).header

abbrev pub HasHeader : List ℕ → Type 0
HasHeader s = (e : Edition) × Headed e s

abbrev pub EndsInLf : List ℕ → Type 0
EndsInLf s = get_or s (length s - 1) 0 ≡ lf

-- The text of the row i, 'first row 1'.
abbrev pub row_text : Edition → List ℕ → ℕ → List ℕ
row_text e s i = get_or (row_lines e s) (i - 1) []

-- 'Bad row: its number, first row 1', of the first bad row: it is no row, and each before it is one.
pub record FirstBadRow (e : Edition) (s : List ℕ) (i : ℕ) : Type 0 where
  pub from-1 : 1 ≤ i
  pub there : i ≤ row_count e s
  pub is_bad : row_of (format_of e) (row_text e s i) ≡ none
  pub good-before : (j : ℕ) → 1 ≤ j → j < i → (r : PolicyRow) × (row_of (format_of e) (row_text e s j) ≡ some r)

-- Every line is a row, and these are the rows.
abbrev pub RowsAre : Edition → List ℕ → List PolicyRow → Type 0
RowsAre e s rs = map (row_of (format_of e)) (row_lines e s) ≡ map some rs

-- What normalising a file for one direction answers, with room for that many bytes.
abbrev pub normalised_file : ℕ → Direction → ℕ → List ℕ → Result ℕ NormaliseError
normalised_file limit d room s = normalised limit d room (parse_policy limit s)

-- What a policy file is answered with.
abbrev pub accepted_file : ℕ → List ℕ → Result Unit AcceptError
accepted_file limit s = accepting limit (parse_policy limit s)
