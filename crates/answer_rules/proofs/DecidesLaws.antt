-- Tests that decide a proposition. Assumes nothing.
use Rattle.std.specs.Prelude.{ℕ, ◌≤◌, ◌<◌, ◌≡◌, refl, Bool, true, false, not, ◌&&◌, ◌||◌, ◌⊎◌, leb, ltb, eqb}
use Rattle.std.proofs.Common.{arith, subst, inl, inr, ⊎_elim, leb-true, leb-false, ltb-true, ltb-false, eqb-true}
use Rattle.std.proofs.lemmas.Bool.{false≢true, eqb-false}

-- A test is true where the proposition holds, and false where it does not.
pub data Decides (P : Type 0) : Bool → Type 0 where
  holding : P → Decides P true
  failing : ¬ P → Decides P false

pub is_true : {P : Type 0} {b : Bool} → Decides P b → P → b ≡ true
is_true (holding h) p = refl
is_true (failing n) p = absurd (n p)

pub is_false : {P : Type 0} {b : Bool} → Decides P b → ¬ P → b ≡ false
is_false (holding h) n = absurd (n h)
is_false (failing m) n = refl

pub decides_iff : {P Q : Type 0} {b : Bool} → (P → Q) → (Q → P) → Decides P b → Decides Q b
decides_iff f g (holding h) = holding (f h)
decides_iff f g (failing n) = failing (λ q. n (g q))

pub decides_equal : {P : Type 0} {a b : Bool} → a ≡ b → Decides P a → Decides P b
decides_equal {P} e d = subst (Decides P) e d

pub decides_not : {P : Type 0} {b : Bool} → Decides P b → Decides (¬ P) (not b)
decides_not (holding h) = failing (λ n. n h)
decides_not (failing n) = holding n

pub decides_and : {P Q : Type 0} {a b : Bool} → Decides P a → Decides Q b → Decides (P × Q) (a && b)
decides_and (holding h) (holding g) = holding (h, g)
decides_and (holding h) (failing n) = failing (λ t. n t.1)
decides_and (failing n) d = failing (λ t. n t.0)

pub decides_or : {P Q : Type 0} {a b : Bool} → Decides P a → Decides Q b → Decides (P ⊎ Q) (a || b)
decides_or (holding h) d = holding (inl h)
decides_or (failing n) (holding g) = holding (inr g)
decides_or (failing n) (failing m) = failing (⊎_elim n m)

module _ (a b : ℕ) where
  pub decides_le : Decides (a ≤ b) (leb a b)
  decides_le = by (leb a b) refl
    where
      by : (t : Bool) → leb a b ≡ t → Decides (a ≤ b) t
      by true e = holding (leb-true a b e)
      by false e = failing (omega (arith, leb-false a b e))

  pub decides_lt : Decides (a < b) (ltb a b)
  decides_lt = by (ltb a b) refl
    where
      by : (t : Bool) → ltb a b ≡ t → Decides (a < b) t
      by true e = holding (ltb-true a b e)
      by false e = failing (omega (arith, ltb-false a b e))

  pub decides_eq : Decides (a ≡ b) (eqb a b)
  decides_eq = by (eqb a b) refl
    where
      by : (t : Bool) → eqb a b ≡ t → Decides (a ≡ b) t
      by true e = holding (eqb-true a b e)
      by false e = failing (eqb-false a b e)

-- A flag that is set decides itself.
pub decides_flag : (b : Bool) → Decides (b ≡ true) b
decides_flag true = holding refl
decides_flag false = failing (λ e. false≢true e)
