-- Demand 1: 'A refused policy, association or print alters no table, cache or buffer; a packet's answer alters only the cache, by its rule.'
-- Assumes nothing.
use Rattle.std.specs.Prelude.{ℕ, zero, suc, ◌≤◌, ◌≡◌, refl, Bool, false, cond, Option, Some, None, Err}
use Rattle.std.proofs.Common.{arith, sym, ap, ◌∙◌}
use Rattle.std.proofs.Math.Bool.{true, false≢true}
use mathlib.Core.List.{List, Memᴰ}
use Rattle.selectors.specs.declared.Direction.TheVariants.{Out, In}
use Rattle.policy.specs.declared.Action.{Action}
use Rattle.policy.specs.declared.Action.TheVariants.{Discard, Bypass, Protect}
use Rattle.policy.specs.Policy.{match_from}
use Rattle.policy.specs.Words.{policy_rows}
use Rattle.packet.specs.Read.{read_packet}
use Rattle.packet.specs.declared.Packet.{Packet}
use Rattle.spd_cache.specs.Cache.{cached, stored, looked_up}
use Rattle.spd_cache.proofs.CacheLaws.{lookup_hit, lookup_miss, lookup_none}
use Rattle.spd_cache.specs.declared.Cache.{Cache}
use Rattle.spd_cache.specs.declared.Looked.{Looked}
use Rattle.sad.specs.Pairs.{Pair, pairs, pair_at, pairs_from, is_live_at, live, named, named_at, first_from, place_of, cleared_at, outcome_number, done, add_outcome, added, remove_outcome, removed}
use Rattle.sad.specs.TableLaws.{refused_kept}
use Rattle.sad.specs.declared.NewPair.{NewPair}
use Rattle.sad.specs.declared.PairError.TheVariants.{NothingToRemove}
use Rattle.verdicts.specs.Calls.{shows, for_gateway, to_ipsec, inbound_action, inbound_read, inbound_by}
use Rattle.gateway.specs.Cached.{cached_search, outbound_cached, inbound_cache, inbound_cached}
use Rattle.verdicts.specs.Verdict.{verdict_number}
use Rattle.answer_rules.proofs.AmongLaws.{among, list-among}
use Rattle.answer_rules.proofs.DecidesLaws.{is_false}
use Rattle.answer_rules.specs.Terms.{ForGateway}
use Rattle.answer_rules.specs.AnswerNumbers.{unsearched}
use Rattle.answer_rules.proofs.TermsLaws.{unreadable, gateway_decides}
use Rattle.answer_rules.proofs.Demand1.{out-10}

-- 'Answers 10 and up for a policy, pair or print change nothing lent': a pair that is not added, and one that is not removed. (A policy that is not
-- accepted, and what is not printed: Demand1Refused.)
pub add_unchanged : (ws : List ℕ) (q : NewPair) → 10 ≤ outcome_number (add_outcome (pairs ws) q) → added ws q ≡ ws
add_unchanged ws q h = refused_kept ws q (λ e. omega (arith, ap outcome_number e))

-- Places of which none is that of a live pair of that name: nothing is cleared.
not_cleared : (ws : List ℕ) (protocol spi i n : ℕ) → live protocol spi (pairs_from ws i n) ≡ false
    → cleared_at ws (first_from (named_at ws protocol spi) i n) ≡ ws
unfolding live pairs_from first_from
not_cleared ws protocol spi i zero e = refl
not_cleared ws protocol spi i (suc n) e =
    by (is_live_at ws i) refl (named protocol spi (pair_at ws i)) refl (not_cleared ws protocol spi (suc i) n)
  where
    by : (a : Bool) → is_live_at ws i ≡ a → (b : Bool) → named protocol spi (pair_at ws i) ≡ b
        → (live protocol spi (pairs_from ws (suc i) n) ≡ false → cleared_at ws (first_from (named_at ws protocol spi) (suc i) n) ≡ ws)
        → cleared_at ws (first_from (named_at ws protocol spi) i (suc n)) ≡ ws
    by false f b g rest = rw f (rest (rw f at e))
    by true f false g rest = rw (f, g) (rest (rw (f, g) at e))
    by true f true g rest = absurd (false≢true (sym (rw (f, g) at e)))

pub remove_unchanged : (ws : List ℕ) (protocol spi : ℕ) → 10 ≤ outcome_number (remove_outcome (pairs ws) protocol spi) → removed ws protocol spi ≡ ws
unfolding removed remove_outcome
remove_unchanged ws protocol spi h = by (live protocol spi (pairs ws)) refl h
  where
    by : (b : Bool) → live protocol spi (pairs ws) ≡ b → 10 ≤ outcome_number (cond b done (Err NothingToRemove))
        → cleared_at ws (place_of ws protocol spi) ≡ ws
    by true e g = absurd (omega arith)
    by false e g = not_cleared ws protocol spi 0 64 e

-- The cache after a packet going out. 'Packets are only read; their answers, 10 to 18 included, change nothing but the cache, by the slot
-- rule.' One that is not readable is not searched.
module _ (c : Cache) (ws : List ℕ) (pairs : List Pair) (p : List ℕ) where
  pub out-unsearched : verdict_number (outbound_cached c ws pairs p).verdict ≡ 10 → (outbound_cached c ws pairs p).cache ≡ c
  unfolding outbound_cached
  out-unsearched e = rw ((unreadable Out p).1 ((out-10 (cached_search c ws Out) pairs p).0 e))

  module _ (k : Packet) (read : read_packet Out p ≡ Some k) where
    out_looked : (outbound_cached c ws pairs p).cache ≡ (looked_up c ws Out (shows k)).cache
    unfolding outbound_cached
    out_looked = rw read

    -- 'A hit changes nothing.'
    pub out_hit : (j : ℕ) → match_from 0 Out (cached c) (shows k) ≡ Some j → (outbound_cached c ws pairs p).cache ≡ c
    out_hit j e = out_looked ∙ ap (λ (l : Looked). l.cache) (lookup_hit c ws Out (shows k) j e)

    -- 'A miss that finds a row writes it to the slot whose turn it is, and the turn moves on, round after 32.'
    pub out_miss : (j : ℕ) → match_from 0 Out (cached c) (shows k) ≡ None → match_from 0 Out (policy_rows ws) (shows k) ≡ Some j
        → (outbound_cached c ws pairs p).cache ≡ stored c ws j
    out_miss j e f = out_looked ∙ ap (λ (l : Looked). l.cache) (lookup_miss c ws Out (shows k) j e f)

    -- 'A miss without a row changes nothing.'
    pub out-no_row : match_from 0 Out (cached c) (shows k) ≡ None → match_from 0 Out (policy_rows ws) (shows k) ≡ None
        → (outbound_cached c ws pairs p).cache ≡ c
    out-no_row e f = out_looked ∙ ap (λ (l : Looked). l.cache) (lookup_none c ws Out (shows k) e f)

-- The cache after a packet coming in from outside. One that is not readable (10), or is AH or ESP for the gateway (4, 13, 15, 16), is not
-- searched.
module _ (c : Cache) (ws : List ℕ) (address : ℕ) (pairs : List Pair) (p : List ℕ) where
  pub in-unsearched : Memᴰ (verdict_number (inbound_cached c ws address pairs p).verdict) unsearched
      → (inbound_cached c ws address pairs p).cache ≡ c
  unfolding inbound_cached inbound_by
  in-unsearched h = by (read_packet In p) (list-among _ _ h)
    where
      acted : (a : Action) → among (verdict_number (inbound_action a)) unsearched ≡ true → ⊥
      acted Bypass e = false≢true e
      acted Discard e = false≢true e
      acted (Protect n) e = false≢true e

      told : (k : Packet) (b : Bool)
          → among (verdict_number (cond b (to_ipsec pairs p k) (inbound_action (cached_search c ws In (shows k))))) unsearched ≡ true
          → cond b c (looked_up c ws In (shows k)).cache ≡ c
      told k true e = refl
      told k false e = absurd (acted (cached_search c ws In (shows k)) e)

      by : (r : Option Packet) → among (verdict_number (inbound_read (cached_search c ws In) address pairs p r)) unsearched ≡ true
          → inbound_cache c ws address r ≡ c
      by (Some k) e = told k (for_gateway address k) e
      by None e = refl

  module _ (k : Packet) (read : read_packet In p ≡ Some k) (other : ¬ (ForGateway address k)) where
    in_looked : (inbound_cached c ws address pairs p).cache ≡ (looked_up c ws In (shows k)).cache
    unfolding inbound_cached
    in_looked = rw (read, is_false (gateway_decides address k) other)

    -- 'Anything else is searched': a hit, a miss that finds a row, and a miss without a row.
    pub in_hit : (j : ℕ) → match_from 0 In (cached c) (shows k) ≡ Some j → (inbound_cached c ws address pairs p).cache ≡ c
    in_hit j e = in_looked ∙ ap (λ (l : Looked). l.cache) (lookup_hit c ws In (shows k) j e)

    pub in_miss : (j : ℕ) → match_from 0 In (cached c) (shows k) ≡ None → match_from 0 In (policy_rows ws) (shows k) ≡ Some j
        → (inbound_cached c ws address pairs p).cache ≡ stored c ws j
    in_miss j e f = in_looked ∙ ap (λ (l : Looked). l.cache) (lookup_miss c ws In (shows k) j e f)

    pub in-no_row : match_from 0 In (cached c) (shows k) ≡ None → match_from 0 In (policy_rows ws) (shows k) ≡ None
        → (inbound_cached c ws address pairs p).cache ≡ c
    in-no_row e f = in_looked ∙ ap (λ (l : Looked). l.cache) (lookup_none c ws In (shows k) e f)
