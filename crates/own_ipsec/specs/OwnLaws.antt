-- Laws of AH and ESP for the gateway. Assumes nothing.
use Rattle.std.specs.Prelude.{ℕ, ◌≤◌, ◌≡◌, refl, Some, None, Bool, true, false, cond, ◌&&◌, ◌||◌, eqb, List}
use Rattle.std.proofs.Common.{arith, eqb-true}
use Rattle.std.proofs.lemmas.Bool.Decides.{nat_tests}
use Rattle.selectors.specs.Value.{number}
use Rattle.packet.specs.declared.Packet.{Packet}
use Rattle.sad.specs.Pairs.{esp_protocol, ah_protocol, Pair}
use Rattle.verdicts.specs.Calls.{esp_bytes, ah_bytes, esp, for_gateway, to_ipsec}
use Rattle.verdicts.specs.declared.Verdict.{Verdict}
use Rattle.own_ipsec.specs.declared.Protocol.{Protocol}
use Rattle.own_ipsec.specs.Own.{number_of, own_protocol, own_answer}

-- Its protocol is that of ESP or of AH.
pub own-protocol : (address : ℕ) (k : Packet) → for_gateway address k ≡ true → number k.selectors.protocol ≡ cond (esp k) esp_protocol ah_protocol
unfolding for_gateway
own-protocol address k e = by (eqb (number k.selectors.local) address) (esp k) refl e
  where
    by : (a b : Bool) → esp k ≡ b → (a && (b || eqb (number k.selectors.protocol) ah_protocol)) ≡ true → number k.selectors.protocol ≡ cond (esp k) esp_protocol ah_protocol
    by true true f e = rw f (eqb-true _ _ f)
    by true false f e = rw f (eqb-true _ _ e)
    by false b f e = let z : ◌≡◌ {A = ℕ} 0 1 = cc in omega arith

-- The same by the protocol that the code tells.
pub own_number : (address : ℕ) (k : Packet) (x : Protocol) → own_protocol address k ≡ Some x → number k.selectors.protocol ≡ number_of x
unfolding for_gateway
own_number address k x e = grind (arith, nat_tests)

-- Its upper part has what ESP needs at least, once it is not too short.
pub least_bytes : (b : Bool) → esp_bytes ≤ cond b esp_bytes ah_bytes
least_bytes true = omega arith
least_bytes false = omega arith

-- What an answer says, and what none does.
module _ (address : ℕ) (ps : List Pair) (p : List ℕ) (k : Packet) where
  pub own_answered : (v : Verdict) → own_answer address ps p k ≡ Some v → (for_gateway address k ≡ true) × (to_ipsec ps p k ≡ v)
  own_answered v e = grind arith

  pub not_own : own_answer address ps p k ≡ None → for_gateway address k ≡ false
  not_own e = grind arith
