-- Demand 1: 0, pass in clear, coming in from outside: exactly when it is given. The words are those of Demand1. Assumes nothing.
use Rattle.std.specs.Prelude.{ℕ, ◌≡◌, refl, List, ◌↔◌, Some}
use Rattle.selectors.specs.declared.Direction.TheVariants.{In}
use Rattle.policy.specs.declared.Action.{Action}
use Rattle.policy.specs.declared.Action.TheVariants.{Bypass}
use Rattle.packet.specs.Read.{read_packet}
use Rattle.packet.specs.declared.Packet.{Packet}
use Rattle.sad.specs.Pairs.{Pair, pairs}
use Rattle.verdicts.specs.Calls.{shows, inbound_by}
use Rattle.verdicts.specs.Verdict.{verdict_number}
use Rattle.answer_rules.specs.Terms.{ForGateway}
use Rattle.answer_rules.proofs.ExactlyLaws.{verdict_exactly}
use Rattle.answer_rules.proofs.PacketRulesLaws.{inbound-ruled}

-- Coming in from outside, 'if the destination is the gateway and the protocol 50 or 51: … Anything else is searched: bypass 0'.
pub in-0 : (search : List ℕ → Action) (address : ℕ) (pairs : List Pair) (p : List ℕ)
    → (verdict_number (inbound_by search address pairs p) ≡ 0)
    ↔ ((k : Packet) × (read_packet In p ≡ Some k) × (¬ (ForGateway address k)) × (search (shows k) ≡ Bypass))
in-0 search address pairs p = verdict_exactly (inbound-ruled search address pairs p) 0 refl
