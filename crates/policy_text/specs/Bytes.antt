-- Texts as lists of bytes, and where a byte cuts them. Assumes nothing: these are definitions.
use Rattle.std.specs.Prelude.{ℕ, zero, suc, ◌+◌, Bool, true, false, cond, ◌&&◌, List, [], ◌∷◌, ltb, eqb, length, take, drop}

abbrev pub tab : ℕ
tab = 9

abbrev pub lf : ℕ
lf = 10

abbrev pub dash : ℕ
dash = 45

abbrev pub dot : ℕ
dot = 46

abbrev pub slash : ℕ
slash = 47

-- Where the first byte b of a text stands; the text's length where there is none.
unfoldable pub index : ℕ → List ℕ → ℕ
index b [] = zero
index b (x ∷ s) = cond (eqb x b) zero (suc (index b s))

-- Whether a text has a byte b, what stands before the first (the whole text if there is none), and what stands after it.
unfoldable pub has : ℕ → List ℕ → Bool
has b s = ltb (index b s) (length s)

unfoldable pub before : ℕ → List ℕ → List ℕ
before b s = take (index b s) s

unfoldable pub after : ℕ → List ℕ → List ℕ
after b s = drop (index b s + 1) s

-- How often a byte stands in a text.
unfoldable pub count : ℕ → List ℕ → ℕ
count b [] = zero
count b (x ∷ s) = cond (eqb x b) (suc (count b s)) (count b s)

unfoldable pub are_same_bytes : List ℕ → List ℕ → Bool
are_same_bytes [] [] = true
are_same_bytes [] (y ∷ t) = false
are_same_bytes (x ∷ s) [] = false
are_same_bytes (x ∷ s) (y ∷ t) = eqb x y && are_same_bytes s t
