-- One of a list of numbers, as a test that computes. Assumes nothing.
use Rattle.std.specs.Prelude.{ℕ, ◌≡◌, refl, Bool, true, false, cond, ◌⊎◌, eqb}
use Rattle.std.proofs.lemmas.Bool.{false≢true}
use mathlib.Core.List.Memᴰ
use mathlib.Core.List.{List, [], ◌∷◌, Memᴰ}
use Rattle.std.proofs.Common.{inl, inr, eqb-true, eq-eqb}

-- Whether a number is one of a list.
abbrev pub among : ℕ → List ℕ → Bool
among n [] = false
among n (m ∷ ms) = cond (eqb n m) true (among n ms)

pub among_list : (n : ℕ) (ms : List ℕ) → among n ms ≡ true → Memᴰ n ms
among_list n [] e = absurd (false≢true e)
among_list n (m ∷ ms) e = by (eqb n m) refl e (among_list n ms)
  where
    by : (b : Bool) → eqb n m ≡ b → cond b true (among n ms) ≡ true → (among n ms ≡ true → Memᴰ n ms) → Memᴰ n (m ∷ ms)
    by true q e f = Memᴰ.head (eqb-true n m q)
    by false q e f = Memᴰ.tail (f e)

pub list-among : (n : ℕ) (ms : List ℕ) → Memᴰ n ms → among n ms ≡ true
list-among n [] h = absurd (Memᴰ.not-nil h)
list-among n (m ∷ ms) h = by (Memᴰ.cases_cons h) (list-among n ms) (eqb n m)
  where
    rest : (b : Bool) → among n ms ≡ true → cond b true (among n ms) ≡ true
    rest true e = refl
    rest false e = e

    by : (n ≡ m) ⊎ Memᴰ n ms → (Memᴰ n ms → among n ms ≡ true) → (b : Bool) → among n (m ∷ ms) ≡ true
    by (inl e) f b = rw (eq-eqb n m e)
    by (inr h) f b = rest (eqb n m) (f h)
