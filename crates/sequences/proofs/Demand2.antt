-- Demand 2, sentence by sentence. Assumes nothing.
-- Of every limit that the words of a gateway carry, every gateway address and every sequence of calls `cs` from a fresh gateway: the current policy
-- is `current limit cs`, the rows of the last accepted file, and the live pairs are `live_pairs cs`, those added and not removed since. Neither a cache
-- nor a normal form is in a statement.
use Rattle.std.specs.Prelude.{ℕ, ◌≤◌, ◌≡◌, true, List, [], ◌∷◌, ◌↔◌, ◌⊎◌, Some, None}
use Rattle.selectors.specs.declared.Direction.{Direction}
use Rattle.selectors.specs.declared.Direction.TheVariants.{Out, In}
use Rattle.normal_form.specs.Search.{Combination}
use Rattle.packet.specs.Read.{read_packet, read_trigger}
use Rattle.packet.specs.Header.{Bytes}
use Rattle.packet.specs.declared.Packet.{Packet}
use Rattle.policy.specs.declared.Action.TheVariants.{Bypass, Protect}
use Rattle.policy.specs.Policy.{ordered_search}
use Rattle.policy_text.specs.Editions.{edition_sizes}
use Rattle.spd_cache.specs.Cache.{looked_up}
use Rattle.spd.specs.Words.{rows_of}
use Rattle.sad.specs.Pairs.{pairs, live, fitting, pair_for}
use Rattle.verdicts.specs.Calls.{shows, from_sa_by}
use Rattle.verdicts.specs.Verdict.{verdict_number, carried}
use Rattle.answer_rules.specs.Terms.{ForGateway, IcmpError, returned}
use Rattle.answer_rules.proofs.Demand1.{out-0, sa-1, out-2, out-3}
use Rattle.answer_rules.proofs.Demand1ClearIn.{in-0}
use Rattle.sequences.specs.Sequence.{Gateway, Call, goes_out, comes_in}
use Rattle.sequences.specs.Current.{current, live_pairs}
use Rattle.sequences.proofs.InvariantLaws.{cache_of}
use Rattle.sequences.specs.First.{FirstIs}
use Rattle.sequences.proofs.FirstLaws.{first_bypass, first-protect}
use Rattle.sequences.proofs.LiveLaws.{pairs-live}
use Rattle.sequences.proofs.NextAnswerLaws.{now, cached-search, outbound-answer, inbound-answer, from_sa_alike}

-- One side of an equivalence put for another.
through : {A B C : Type 0} → (A ↔ B) → (B ↔ C) → A ↔ C
through f g = (λ a. g.0 (f.0 a), λ c. f.1 (g.1 c))

module _ (capacity limit : ℕ) (bound : limit ≤ capacity) (address : ℕ) (cs : List Call) where
  abbrev gateway : Gateway
  gateway = now capacity limit address cs

  -- 'In any sequence of lookups, policy changes and association changes, the cached answer is the one that an ordered search of the
  -- current policy gives.'
  pub cached-answer : (d : Direction) (vs : List ℕ) → Combination (edition_sizes (current limit cs).edition) vs
      → (looked_up (cache_of d gateway.caches) (rows_of capacity gateway.spd d) d vs).action ≡ ordered_search d (current limit cs).entries vs
  cached-answer = cached-search capacity limit bound address cs

  module _ (p : List ℕ) (bytes : Bytes p) where
    -- 'A readable packet going out … passes in clear exactly where the first matching entry is a bypass for its way.'
    pub passes_out : (verdict_number (goes_out capacity gateway p).verdict ≡ 0)
        ↔ ((k : Packet) × (read_packet Out p ≡ Some k) × FirstIs Out (current limit cs).entries (shows k) Bypass)
    passes_out =
        rw (outbound-answer capacity limit bound address cs p bytes)
        (through (out-0 (ordered_search Out (current limit cs).entries) (live_pairs cs) p) (
          λ h. (h.0, h.1, (first_bypass Out (current limit cs).entries (shows h.0)).0 h.2),
          λ h. (h.0, h.1, (first_bypass Out (current limit cs).entries (shows h.0)).1 h.2),
        ))

    -- 'A readable packet … from outside and not AH or ESP for the gateway, passes in clear exactly where the first matching entry is a bypass
    -- for its way.'
    pub passes_in : (verdict_number (comes_in capacity gateway p).verdict ≡ 0)
        ↔ ((k : Packet) × (read_packet In p ≡ Some k) × (¬ (ForGateway address k)) × FirstIs In (current limit cs).entries (shows k) Bypass)
    passes_in =
        rw (inbound-answer capacity limit bound address cs p bytes)
        (through (in-0 (ordered_search In (current limit cs).entries) address (live_pairs cs) p) (
          λ h. (h.0, h.1, h.2, (first_bypass In (current limit cs).entries (shows h.0)).0 h.3),
          λ h. (h.0, h.1, h.2, (first_bypass In (current limit cs).entries (shows h.0)).1 h.3),
        ))

    -- 2 and 3: the first matching entry is protect-N, and the table has a fitting pair, or has none.
    pub protects : (n protocol spi : ℕ)
        → ((verdict_number (goes_out capacity gateway p).verdict ≡ 2) × (carried (goes_out capacity gateway p).verdict ≡ n ∷ protocol ∷ spi ∷ []))
        ↔ ((k : Packet) × (read_packet Out p ≡ Some k) × FirstIs Out (current limit cs).entries (shows k) (Protect n)
        × (pair_for n (shows k) (live_pairs cs) ≡ Some (record { protocol = protocol; spi = spi })))
    protects n protocol spi =
        rw (outbound-answer capacity limit bound address cs p bytes)
        (through (out-2 (ordered_search Out (current limit cs).entries) (live_pairs cs) p n protocol spi) (
          λ h. (h.0, h.1, (first-protect Out (current limit cs).entries (shows h.0) n).0 h.2, h.3),
          λ h. (h.0, h.1, (first-protect Out (current limit cs).entries (shows h.0) n).1 h.2, h.3),
        ))

    pub wants_pair : (n : ℕ)
        → ((verdict_number (goes_out capacity gateway p).verdict ≡ 3) × (carried (goes_out capacity gateway p).verdict ≡ n ∷ 0 ∷ 0 ∷ []))
        ↔ ((k : Packet) × (read_packet Out p ≡ Some k) × FirstIs Out (current limit cs).entries (shows k) (Protect n)
        × (pair_for n (shows k) (live_pairs cs) ≡ None))
    wants_pair n =
        rw (outbound-answer capacity limit bound address cs p bytes)
        (through (out-3 (ordered_search Out (current limit cs).entries) (live_pairs cs) p n) (
          λ h. (h.0, h.1, (first-protect Out (current limit cs).entries (shows h.0) n).0 h.2, h.3),
          λ h. (h.0, h.1, (first-protect Out (current limit cs).entries (shows h.0) n).1 h.2, h.3),
        ))

-- 'One from a live association is delivered exactly where it fits that association, or is an ICMP error whose returned header does.'
pub delivered : (capacity limit address : ℕ) (cs : List Call) (protocol spi : ℕ) (p : List ℕ)
    → (verdict_number (from_sa_by protocol spi (pairs (now capacity limit address cs).sad) p) ≡ 1)
    ↔ ((live protocol spi (live_pairs cs) ≡ true) × (k : Packet) × (read_packet In p ≡ Some k)
    × ((fitting protocol spi (shows k) (live_pairs cs) ≡ true)
    ⊎ (IcmpError k × (t : Packet) × (read_trigger Out (returned p k) ≡ Some t) × (fitting protocol spi (shows t) (live_pairs cs) ≡ true))))
delivered capacity limit address cs protocol spi p =
    rw (from_sa_alike _ _ (pairs-live capacity limit address cs) protocol spi p) (sa-1 protocol spi (live_pairs cs) p)
