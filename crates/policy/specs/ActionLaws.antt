-- Decided equality of actions. Assumes nothing.
use Rattle.std.specs.Prelude.{ℕ, ◌≡◌, refl}
use Rattle.std.proofs.Math.Decide.{ℕ_discrete}
use Rattle.std.proofs.Common.{arith, sym, ap}
use Rattle.policy.specs.declared.Action.{Action}
use Rattle.policy.specs.declared.Action.TheVariants.{Discard, Bypass, Protect}

-- No two of the three kinds are one.
pub discard≢bypass : Discard ≡ Bypass → ⊥
discard≢bypass e = let z : ◌≡◌ {A = ℕ} 0 1 = cc in omega arith

pub discard≢protect : (n : ℕ) → Discard ≡ Protect n → ⊥
discard≢protect n e = let z : ◌≡◌ {A = ℕ} 0 1 = cc in omega arith

pub bypass≢protect : (n : ℕ) → Bypass ≡ Protect n → ⊥
bypass≢protect n e = let z : ◌≡◌ {A = ℕ} 0 1 = cc in omega arith

pub protect-number : (m n : ℕ) → Protect m ≡ Protect n → m ≡ n
protect-number m n e = cc

unfoldable pub action-≟ : Discrete Action
action-≟ Discard Discard = yes refl
action-≟ Discard Bypass = no discard≢bypass
action-≟ Discard (Protect n) = no (discard≢protect n)
action-≟ Bypass Discard = no (λ e. discard≢bypass (sym e))
action-≟ Bypass Bypass = yes refl
action-≟ Bypass (Protect n) = no (bypass≢protect n)
action-≟ (Protect m) Discard = no (λ e. discard≢protect m (sym e))
action-≟ (Protect m) Bypass = no (λ e. bypass≢protect m (sym e))
action-≟ (Protect m) (Protect n) = by (ℕ_discrete m n)
  where
    by : Dec (m ≡ n) → Dec (Protect m ≡ Protect n)
    by (yes e) = yes (ap Protect e)
    by (no d) = no (λ e. d (protect-number m n e))
