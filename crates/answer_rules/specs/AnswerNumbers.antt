-- The numbers that each call answers with, and those of packets that are not searched. Assumes nothing: these are definitions.
use Rattle.std.specs.Prelude.{ℕ, List, [], ◌∷◌}

-- Going out.
abbrev pub out_numbers : List ℕ
out_numbers = 0 ∷ 2 ∷ 3 ∷ 10 ∷ 11 ∷ []

-- Coming in from outside.
abbrev pub in_numbers : List ℕ
in_numbers = 0 ∷ 4 ∷ 10 ∷ 11 ∷ 12 ∷ 13 ∷ 15 ∷ 16 ∷ []

-- Coming in from an association.
abbrev pub sa_numbers : List ℕ
sa_numbers = 1 ∷ 10 ∷ 13 ∷ 14 ∷ 17 ∷ 18 ∷ []

-- Adding a pair, and removing one.
abbrev pub add_numbers : List ℕ
add_numbers = 5 ∷ 25 ∷ 26 ∷ 27 ∷ 28 ∷ []

abbrev pub remove_numbers : List ℕ
remove_numbers = 5 ∷ 29 ∷ []

-- Accepting a policy file.
abbrev pub accept_numbers : List ℕ
accept_numbers = 5 ∷ 20 ∷ 21 ∷ 22 ∷ 23 ∷ 24 ∷ []

-- Normalising.
abbrev pub normalise_numbers : List ℕ
normalise_numbers = 5 ∷ 20 ∷ 21 ∷ 22 ∷ 23 ∷ 24 ∷ 31 ∷ []

-- A packet coming in from outside that is not readable (10), or is AH or ESP for the gateway (4, 13, 15, 16), is not searched.
abbrev pub unsearched : List ℕ
unsearched = 4 ∷ 10 ∷ 13 ∷ 15 ∷ 16 ∷ []
