-- Worked examples of the format, computed. Assumes nothing.
use Rattle.std.specs.Prelude.{◌≡◌, refl, [], ◌∷◌, ◌++◌, Some, None}
use Rattle.std.proofs.Math.Option.{none, some}
use Rattle.selectors.specs.Range.{range, full, in_field, same_range, address_size, protocol_size, port_size}
use Rattle.policy.specs.declared.Action.TheVariants.{Bypass}
use Rattle.policy.specs.declared.RowDirection.TheVariants.{Both}
use Rattle.policy.specs.Policy.{PolicyRow}
use Rattle.policy_text.specs.declared.Edition.TheVariants.{One}
use Rattle.policy_text.specs.declared.Refusal.TheVariants.{NotHeader, NotEnded, TooMany, BadRow}
use Rattle.policy_text.specs.Bytes.{lf, index, has, before, after, count, are_same_bytes}
use Rattle.policy_text.specs.Decimals.{digits, value, unpadded, decimal, last_digits, decimal_text}
use Rattle.policy_text.specs.Format.{any, direction_field, field, fields_from, row_of, lines_of, rows_of, ranges_from}
use Rattle.policy_text.specs.Print.{range_text, row_text, rows_text, policy_text}
use Rattle.policy_text.specs.Edition1.{header, mask_below, masked_range, protocol_field, port_field, address_field, action_field, protocol_text, port_text, action_text, edition1}
use Rattle.policy_text.specs.Editions.{edition_among, rows, refused, parse_policy, rules}

-- Decimals: `0`, `07`, `256` up to 255, and 2^64 up to 65,535.
zero_read : decimal 255 (48 ∷ []) ≡ Some 0
unfolding decimal unpadded digits value
zero_read = refl

padded_refused : decimal 255 (48 ∷ 55 ∷ []) ≡ None
unfolding decimal unpadded digits value
padded_refused = refl

large_refused : decimal 255 (50 ∷ 53 ∷ 54 ∷ []) ≡ None
unfolding decimal unpadded digits value
large_refused = refl

long_refused : decimal 65535 (49 ∷ 56 ∷ 52 ∷ 52 ∷ 54 ∷ 55 ∷ 52 ∷ 52 ∷ 48 ∷ 55 ∷ 51 ∷ 55 ∷ 48 ∷ 57 ∷ 53 ∷ 53 ∷ 49 ∷ 54 ∷ 49 ∷ 54 ∷ []) ≡ None
unfolding decimal unpadded digits value
long_refused = refl

-- `10.1.0.0/255.255.255.0` is 10.1.0.0 to 10.1.0.255; mask 255.0.255.0 is none; 10.0.0.1/255.0.0.0 is none.
mask_read : masked_range (Some 167837696) (Some 4294967040) ≡ some (range 167837696 167837951)
unfolding mask_below in_field
mask_read = refl

mask_with_holes : masked_range (Some 0) (Some 4278255360) ≡ none
unfolding mask_below in_field
mask_with_holes = refl

address_beyond_mask : masked_range (Some 167772161) (Some 4278190080) ≡ none
unfolding mask_below in_field
address_beyond_mask = refl

-- Ports: `0-65535` is all but absent; `23-opaque` has absent; `9-5` and `opaque-opaque` are none.
ports_read : port_field (48 ∷ 45 ∷ 54 ∷ 53 ∷ 53 ∷ 51 ∷ 53 ∷ []) ≡ some (range 0 65535)
unfolding port_field are_same_bytes has before after index decimal unpadded digits value in_field
ports_read = refl

ports-to-opaque : port_field (50 ∷ 51 ∷ 45 ∷ 111 ∷ 112 ∷ 97 ∷ 113 ∷ 117 ∷ 101 ∷ []) ≡ some (range 23 65536)
unfolding port_field are_same_bytes has before after index decimal unpadded digits value in_field
ports-to-opaque = refl

ports_reversed : port_field (57 ∷ 45 ∷ 53 ∷ []) ≡ none
unfolding port_field are_same_bytes has before after index decimal unpadded digits value in_field
ports_reversed = refl

opaque_twice : port_field (111 ∷ 112 ∷ 97 ∷ 113 ∷ 117 ∷ 101 ∷ 45 ∷ 111 ∷ 112 ∷ 97 ∷ 113 ∷ 117 ∷ 101 ∷ []) ≡ none
unfolding port_field are_same_bytes has before after index decimal unpadded digits value in_field
opaque_twice = refl

-- `0-65535` is printed so, and is not `any`; 0 to absent is; 0 to 255 of protocols is.
ports-printed : range_text port_size port_text (range 0 65535) ≡ 48 ∷ 45 ∷ 54 ∷ 53 ∷ 53 ∷ 51 ∷ 53 ∷ []
unfolding range_text port_text protocol_text decimal_text last_digits same_range
ports-printed = refl

all-ports-printed : range_text port_size port_text (range 0 65536) ≡ any
unfolding range_text port_text protocol_text decimal_text last_digits same_range
all-ports-printed = refl

all-protocols-printed : range_text protocol_size protocol_text (range 0 255) ≡ any
unfolding range_text port_text protocol_text decimal_text last_digits same_range
all-protocols-printed = refl

-- The order 23, 24, 21, 20: an empty file; one byte that is neither header nor LF; a header and a byte; a bad row beyond the limit; a bad row.
empty_file : parse_policy 256 [] ≡ refused NotHeader
unfolding parse_policy edition_among are_same_bytes count lines_of rows_of before after index row_of ranges_from field fields_from direction_field
empty_file = refl

header_first : parse_policy 256 (120 ∷ []) ≡ refused NotHeader
unfolding parse_policy edition_among are_same_bytes count lines_of rows_of before after index row_of ranges_from field fields_from direction_field
header_first = refl

end-next : parse_policy 256 (header ++ (120 ∷ [])) ≡ refused NotEnded
unfolding parse_policy edition_among are_same_bytes count lines_of rows_of before after index row_of ranges_from field fields_from direction_field
end-next = refl

limit-before_rows : parse_policy 0 (header ++ (lf ∷ [])) ≡ refused TooMany
unfolding parse_policy edition_among are_same_bytes count lines_of rows_of before after index row_of ranges_from field fields_from direction_field
limit-before_rows = refl

first_row_bad : parse_policy 1 (header ++ (lf ∷ [])) ≡ refused (BadRow 1)
unfolding parse_policy edition_among are_same_bytes count lines_of rows_of before after index row_of ranges_from field fields_from direction_field
first_row_bad = refl

header_alone : parse_policy 0 header ≡ rows (rules One [])
unfolding parse_policy edition_among are_same_bytes count lines_of rows_of before after index row_of ranges_from field fields_from direction_field
header_alone = refl

-- The header line alone, printed: `policy`, tab, `1`, LF.
empty-printed : policy_text edition1 [] ≡ 112 ∷ 111 ∷ 108 ∷ 105 ∷ 99 ∷ 121 ∷ 9 ∷ 49 ∷ 10 ∷ []
unfolding policy_text rows_text
empty-printed = refl

-- A row of the document's example, and a bad row after it.
example : PolicyRow
example = record {
  direction = Both;
  action = Bypass;
  ranges = full address_size ∷ full address_size ∷ range 17 17 ∷ range 500 500 ∷ range 500 500 ∷ [];
}

example-printed : row_text edition1 example ≡ 98 ∷ 111 ∷ 116 ∷ 104 ∷ 9 ∷ 98 ∷ 121 ∷ 112 ∷ 97 ∷ 115 ∷ 115 ∷ 9 ∷ 97 ∷ 110 ∷ 121 ∷ 9 ∷ 97 ∷ 110 ∷ 121 ∷ 9 ∷ 49 ∷ 55 ∷ 9 ∷ 53 ∷ 48 ∷ 48 ∷ 9 ∷ 53 ∷ 48 ∷ 48 ∷ []
unfolding example row_text action_text range_text port_text protocol_text decimal_text last_digits same_range
example-printed = refl

second-row_bad : parse_policy 256 (policy_text edition1 (example ∷ []) ++ (lf ∷ [])) ≡ refused (BadRow 2)
unfolding example parse_policy edition_among policy_text rows_text row_text action_text range_text port_text protocol_text decimal_text last_digits same_range are_same_bytes count lines_of rows_of before after has index row_of ranges_from field fields_from direction_field action_field address_field protocol_field port_field decimal unpadded digits value in_field
second-row_bad = refl
