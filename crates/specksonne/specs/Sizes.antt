-- What the library says of itself: the number of its binary interface, its version, and the sizes of what is lent. Assumes nothing: these
-- are definitions.
use Rattle.std.specs.Prelude.{ℕ, ◌+◌, ◌*◌, length}
use Rattle.policy.specs.Words.{row_limit}
use Rattle.policy_text.specs.Edition1.{header}

abbrev pub abi_number : ℕ
abi_number = 1

abbrev pub version_number : ℕ → ℕ → ℕ → ℕ
version_number major minor patch = major * 1000000 + minor * 1000 + patch

-- Bytes that are enough for a printed row; counted, not proved: two ranges of addresses of 31, two of ports of 12, one of protocols of 7, an
-- action of 11, a direction of 3, six tabs and LF make 114.
abbrev pub row_bytes : ℕ
row_bytes = 120

abbrev pub most_form_bytes : ℕ
most_form_bytes = length header + row_limit * row_bytes
