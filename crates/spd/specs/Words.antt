-- What any words of a gateway's policy mean (document 01). Assumes nothing: these are definitions.
-- The words: the gateway's address, the count of normal-form rows for out and for in, and room for `capacity` rows for each of the two. The
-- capacity is what the lent words carry, the limit what a policy may have (21 and 22); the code has both at `row_limit`.
use Rattle.std.specs.Prelude.{ℕ, ◌+◌, ◌*◌, min, List, get_or, take, drop}
use Rattle.selectors.specs.declared.Direction.{Direction}
use Rattle.selectors.specs.declared.Direction.TheVariants.{Out, In}
use Rattle.policy.specs.Words.{row_words}

-- What any words mean: the address, the count of rows for a direction, never more than there is room for, and the words of those rows.
abbrev pub address_of : List ℕ → ℕ
address_of ws = get_or ws 0 0

abbrev pub count_at : Direction → ℕ
count_at Out = 1
count_at In = 2

abbrev pub count_of : ℕ → List ℕ → Direction → ℕ
count_of capacity ws d = min (get_or ws (count_at d) 0) capacity

-- The words before the rows: the address and the two counts.
abbrev pub before_rows : ℕ
before_rows = 3

abbrev pub rows_at : ℕ → Direction → ℕ
rows_at capacity Out = before_rows
rows_at capacity In = before_rows + capacity * row_words

abbrev pub spd_size : ℕ → ℕ
spd_size capacity = rows_at capacity In + capacity * row_words

abbrev pub rows_of : ℕ → List ℕ → Direction → List ℕ
rows_of capacity ws d = take (count_of capacity ws d * row_words) (drop (rows_at capacity d) ws)
