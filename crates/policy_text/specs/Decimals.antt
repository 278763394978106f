-- Decimals, read and printed. Assumes nothing: these are definitions.
use Rattle.std.specs.Prelude.{ℕ, zero, suc, ◌+◌, ◌-◌, ◌*◌, ◌/◌, ◌%◌, Bool, true, false, cond, not, ◌&&◌, List, [], ◌∷◌, ◌++◌, leb, ltb, eqb, Option, Some, None}

-- A number that a text stands for, or none.
abbrev pub Number : Type 0
Number = Option ℕ

unfoldable pub digits : List ℕ → Bool
digits [] = true
digits (c ∷ s) = leb 48 c && leb c 57 && digits s

-- The number that digits make after the digits of n.
unfoldable pub value : ℕ → List ℕ → ℕ
value n [] = n
value n (c ∷ s) = value (n * 10 + (c - 48)) s

-- 'Decimals have no leading zero'; `0` itself is one. No byte is no decimal.
unfoldable pub unpadded : List ℕ → Bool
unpadded [] = false
unpadded (c ∷ []) = true
unpadded (c ∷ d ∷ s) = not (eqb c 48)

-- A decimal that is at most max, however long its text.
unfoldable pub decimal : ℕ → List ℕ → Number
decimal max s = cond (unpadded s && digits s && leb (value 0 s) max) (Some (value 0 s)) None

-- The decimal of a number of at most k digits, and of a number below 2^64.
unfoldable pub last_digits : ℕ → ℕ → List ℕ
last_digits zero n = []
last_digits (suc k) n = cond (ltb n 10) ((48 + n) ∷ []) (last_digits k (n / 10) ++ ((48 + n % 10) ∷ []))

unfoldable pub decimal_text : ℕ → List ℕ
decimal_text n = last_digits 20 n
