-- The fields of an IPv4 header (RFC 791), of any list of bytes. Assumes nothing: these are definitions.
use Rattle.std.specs.Prelude.{ℕ, ◌+◌, ◌*◌, ◌/◌, ◌%◌, ◌<◌, Bool, List, eqb, get_or}

-- A byte that is not there counts as 0; no definition below looks at one.
abbrev pub byte : List ℕ → ℕ → ℕ
byte p i = get_or p i 0

-- A list of bytes, as every lent packet is.
abbrev pub Bytes : List ℕ → Type 0
Bytes p = (i : ℕ) → byte p i < 256

-- Two bytes and four bytes as a number, the first byte the highest.
unfoldable pub two : List ℕ → ℕ → ℕ
two p i = byte p i * 256 + byte p (i + 1)

unfoldable pub four : List ℕ → ℕ → ℕ
four p i = two p i * 65536 + two p (i + 2)

-- Where the fields stand that are read beside the first byte, which has the version and the header length. The byte at `flags_at` has the
-- flags in its upper three bits; its lower five and the next byte are the fragment offset.
abbrev pub total_length_at : ℕ
total_length_at = 2

abbrev pub flags_at : ℕ
flags_at = 6

abbrev pub protocol_at : ℕ
protocol_at = 9

abbrev pub source_at : ℕ
source_at = 12

abbrev pub destination_at : ℕ
destination_at = 16

-- The shortest header in bytes, the unit of the header length field, and so the least that the field may say.
abbrev pub shortest_header : ℕ
shortest_header = 20

abbrev pub length_unit : ℕ
length_unit = 4

abbrev pub shortest_field : ℕ
shortest_field = shortest_header / length_unit

-- IPv4's version.
abbrev pub ip_version : ℕ
ip_version = 4

abbrev pub version : List ℕ → ℕ
version p = byte p 0 / 16

-- The header length field, in units of `length_unit` bytes.
abbrev pub header_field : List ℕ → ℕ
header_field p = byte p 0 % 16

-- Where the header ends and the upper part begins.
abbrev pub header_end : List ℕ → ℕ
header_end p = length_unit * header_field p

abbrev pub total_length : List ℕ → ℕ
total_length p = two p total_length_at

abbrev pub more_fragments_of : List ℕ → Bool
more_fragments_of p = eqb (byte p flags_at / 32 % 2) 1

-- The fragment offset, in units of eight bytes.
abbrev pub fragment_offset : List ℕ → ℕ
fragment_offset p = byte p flags_at % 32 * 256 + byte p (flags_at + 1)

abbrev pub protocol : List ℕ → ℕ
protocol p = byte p protocol_at

abbrev pub source : List ℕ → ℕ
source p = four p source_at

abbrev pub destination : List ℕ → ℕ
destination p = four p destination_at
