-- Ranges of numbers, and the numbers of the five fields. Assumes nothing: these are definitions.
use Rattle.std.specs.Prelude.{ℕ, ◌-◌, ◌^◌, Bool, true, false, ◌&&◌, List, [], ◌∷◌, leb, ltb, eqb}

-- The numbers from `low` to `high`, both included (document 01: 'A range holds lowest to highest').
pub record Range : Type 0 where
  pub low : ℕ
  pub high : ℕ

abbrev pub range : ℕ → ℕ → Range
range low high = record { low = low; high = high }

unfoldable pub contains : Range → ℕ → Bool
contains r v = leb r.low v && leb v r.high

-- As many ranges as values, and each range holds its value.
unfoldable pub holds : List Range → List ℕ → Bool
holds [] [] = true
holds [] (v ∷ vs) = false
holds (r ∷ rs) [] = false
holds (r ∷ rs) (v ∷ vs) = contains r v && holds rs vs

-- A field of a size S has the values 0 to S - 1. A range of such a field: low at most high, and high in the field.
unfoldable pub in_field : ℕ → Range → Bool
in_field size r = leb r.low r.high && ltb r.high size

-- ANY of a field: all its values.
abbrev pub full : ℕ → Range
full size = range 0 (size - 1)

unfoldable pub same_range : Range → Range → Bool
same_range r q = eqb r.low q.low && eqb r.high q.high

abbrev pub address_size : ℕ
address_size = 2 ^ 32

abbrev pub protocol_size : ℕ
protocol_size = 256

-- Document 01: 'For ports, absent stands one step after 65,535.'
abbrev pub absent : ℕ
absent = 65536

abbrev pub port_size : ℕ
port_size = 65537

-- OPAQUE: the absent port alone.
abbrev pub opaque : Range
opaque = range absent absent

-- The sizes of the fields, in the order of the policy file: local address, remote address, protocol, local port, remote port.
abbrev pub ipv4_sizes : List ℕ
ipv4_sizes = address_size ∷ address_size ∷ protocol_size ∷ port_size ∷ port_size ∷ []
