-- Edition 1 of the policy file: IPv4 (document 01). Assumes nothing: these are definitions.
use Rattle.std.specs.Prelude.{ℕ, zero, suc, ◌+◌, ◌-◌, ◌*◌, ◌/◌, ◌%◌, ◌^◌, Bool, false, cond, ◌||◌, List, [], ◌∷◌, ◌++◌, eqb, Some, None}
use Rattle.std.proofs.Math.Option.{Option, none, some}
use Rattle.selectors.specs.Range.{Range, full, absent, address_size, protocol_size, port_size}
use Rattle.policy.specs.declared.Action.{Action}
use Rattle.policy.specs.declared.Action.TheVariants.{Discard, Bypass, Protect}
use Rattle.policy_text.specs.Bytes.{tab, lf, dash, dot, slash, has, before, after, are_same_bytes}
use Rattle.policy_text.specs.Decimals.{Number, decimal, decimal_text}
use Rattle.policy_text.specs.Format.{Field, Format, any, made, ends}

-- 'The first is `policy`, tab, `1`': nine bytes with the LF.
abbrev pub header : List ℕ
header = 112 ∷ 111 ∷ 108 ∷ 105 ∷ 99 ∷ 121 ∷ tab ∷ 49 ∷ lf ∷ []

-- Words of the edition: `opaque`, `bypass`, `discard`, `protect`.
abbrev pub opaque_word : List ℕ
opaque_word = 111 ∷ 112 ∷ 97 ∷ 113 ∷ 117 ∷ 101 ∷ []

abbrev pub bypass_word : List ℕ
bypass_word = 98 ∷ 121 ∷ 112 ∷ 97 ∷ 115 ∷ 115 ∷ []

abbrev pub discard_word : List ℕ
discard_word = 100 ∷ 105 ∷ 115 ∷ 99 ∷ 97 ∷ 114 ∷ 100 ∷ []

abbrev pub protect_word : List ℕ
protect_word = 112 ∷ 114 ∷ 111 ∷ 116 ∷ 101 ∷ 99 ∷ 116 ∷ []

-- 'An address is four decimals parted by dots'. A text with fewer dots has an empty decimal here, one with more a dot in the last.
abbrev pub four_octets : Number → Number → Number → Number → Number
four_octets None b c d = None
four_octets (Some a) None c d = None
four_octets (Some a) (Some b) None d = None
four_octets (Some a) (Some b) (Some c) None = None
four_octets (Some a) (Some b) (Some c) (Some d) = Some (((a * 256 + b) * 256 + c) * 256 + d)

unfoldable pub address : List ℕ → Number
address s =
    let s₁ = after dot s in
    let s₂ = after dot s₁ in
    four_octets (decimal 255 (before dot s)) (decimal 255 (before dot s₁)) (decimal 255 (before dot s₂)) (decimal 255 (after dot s₂))

-- 'The mask is ones followed by zeros': 2^32 - 2^k for some k, its count of zeros, up to 32.
unfoldable pub mask_below : ℕ → ℕ → Bool
mask_below zero m = false
mask_below (suc k) m = eqb m (2 ^ 32 - 2 ^ k) || mask_below k m

abbrev pub is_mask : ℕ → Bool
is_mask m = mask_below 33 m

-- 'address/mask, where the mask is ones followed by zeros and the address has no one where the mask has zero': a mask with k zeros is
-- short of 2^32 by 2^k, and the address has none there just if it is a multiple of that. It stands for the addresses from there on.
abbrev pub masked_range : Number → Number → Option Range
masked_range None m = none
masked_range (Some a) None = none
masked_range (Some a) (Some m) =
    cond (is_mask m) (cond (eqb (a % (2 ^ 32 - m)) 0) (made address_size a (a + (2 ^ 32 - m - 1))) none) none

-- 'Every range may be `any`', one value or `low-high`; an address 'may also be address/mask'.
unfoldable pub address_field : List ℕ → Option Range
address_field s =
    cond (are_same_bytes s any) (some (full address_size))
    (cond (has slash s) (masked_range (address (before slash s)) (address (after slash s))) (ends address_size address address s))

unfoldable pub protocol_field : List ℕ → Option Range
protocol_field s = cond (are_same_bytes s any) (some (full protocol_size)) (ends protocol_size (decimal 255) (decimal 255) s)

-- 'A port may be `opaque` or `N-opaque`.'
abbrev pub port_end : List ℕ → Number
port_end s = cond (are_same_bytes s opaque_word) (Some absent) (decimal 65535 s)

unfoldable pub port_field : List ℕ → Option Range
port_field s = cond (are_same_bytes s any) (some (full port_size)) (ends port_size (decimal 65535) port_end s)

-- 'Action (`bypass`, `discard`, `protect-N`, N from 1 to 255)'.
abbrev pub protect : Number → Option Action
protect None = none
protect (Some n) = cond (eqb n 0) none (some (Protect n))

unfoldable pub action_field : List ℕ → Option Action
action_field s =
    cond (are_same_bytes s bypass_word) (some Bypass)
    (cond (are_same_bytes s discard_word) (some Discard)
    (cond (are_same_bytes (before dash s) protect_word) (protect (decimal 255 (after dash s))) none))

-- No field has a value of more than 64 bits. One that stands in a row all the same is printed as its lower 64.
abbrev pub lower : ℕ → ℕ
lower n = n % 2 ^ 64

unfoldable pub dotted : ℕ → List ℕ
dotted n =
    decimal_text (n / 16777216)
    ++ (dot ∷ (decimal_text (n / 65536 % 256) ++ (dot ∷ (decimal_text (n / 256 % 256) ++ (dot ∷ decimal_text (n % 256))))))

unfoldable pub address_text : ℕ → List ℕ
address_text n = dotted (lower n)

unfoldable pub protocol_text : ℕ → List ℕ
protocol_text n = decimal_text (lower n)

-- 'Absent is `opaque`.'
unfoldable pub port_text : ℕ → List ℕ
port_text n = cond (eqb n absent) opaque_word (decimal_text (lower n))

unfoldable pub action_text : Action → List ℕ
action_text Discard = discard_word
action_text Bypass = bypass_word
action_text (Protect n) = protect_word ++ (dash ∷ decimal_text n)

abbrev pub addresses : Field
addresses = record { size = address_size; read_range = address_field; value_text = address_text }

abbrev pub protocols : Field
protocols = record { size = protocol_size; read_range = protocol_field; value_text = protocol_text }

abbrev pub ports : Field
ports = record { size = port_size; read_range = port_field; value_text = port_text }

-- 'Rows of seven fields: way, action, local, remote, protocol, local port, remote port'.
abbrev pub edition1 : Format
edition1 =
    record {
      header = header;
      fields = addresses ∷ addresses ∷ protocols ∷ ports ∷ ports ∷ [];
      read_action = action_field;
      action_text = action_text;
    }
