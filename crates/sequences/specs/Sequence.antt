-- A gateway, the calls on it, and what it is after a sequence of them (document 01, 'Cache and associations'). Assumes nothing: these are definitions.
-- Each call does what the contract of its function says: `acceptance::accept`, `sad::add`, `sad::remove`, `gateway::outbound`, `inbound`, `from_sa`,
-- with any `capacity`, how many rows the words of its policy carry for each direction, and any `limit`, the most rows of a policy and of a
-- normal form (21 and 22). The contracts have both at `row_limit`.
use Rattle.std.specs.Prelude.{ℕ, ◌*◌, List, [], ◌∷◌, replicate, Result}
use Rattle.selectors.specs.declared.Direction.TheVariants.{Out, In}
use Rattle.policy_text.specs.Editions.{parse_policy}
use Rattle.acceptance.specs.declared.AcceptError.{AcceptError}
use Rattle.acceptance.specs.declared.Caches.{Caches}
use Rattle.acceptance.specs.Spd.{spd_words, no_rules, accepting, spd_after, empty_caches, caches_after, acceptance_number}
use Rattle.spd.specs.Words.{rows_of, address_of}
use Rattle.sad.specs.declared.NewPair.{NewPair}
use Rattle.sad.specs.Pairs.{Outcome}
use Rattle.sad.specs.Pairs.{place_count, place_words, pairs, add_outcome, added, remove_outcome, removed, outcome_number}
use Rattle.verdicts.specs.declared.Verdict.{Verdict}
use Rattle.verdicts.specs.Calls.{from_sa_by}
use Rattle.gateway.specs.Cached.{Answered, outbound_cached, inbound_cached}
use Rattle.verdicts.specs.Verdict.{verdict_number}

-- What a gateway is: the words of its policy and of its pairs, and its caches.
pub record Gateway : Type 0 where
  pub spd : List ℕ
  pub sad : List ℕ
  pub caches : Caches

-- 'A fresh gate holds the gateway address it was made with, never changed, the policy without rows, no pair and empty caches.'
abbrev pub fresh : ℕ → ℕ → Gateway
fresh capacity address = record { spd = spd_words capacity address no_rules; sad = replicate (place_count * place_words) 0; caches = empty_caches }

pub data Call : Type 0 where
  policy : List ℕ → Call
  add : NewPair → Call
  remove : ℕ → ℕ → Call
  outbound : List ℕ → Call
  inbound : List ℕ → Call
  comes_from_sa : ℕ → ℕ → List ℕ → Call

abbrev pub goes_out : ℕ → Gateway → List ℕ → Answered
goes_out capacity g p = outbound_cached g.caches.outbound (rows_of capacity g.spd Out) (pairs g.sad) p

abbrev pub comes_in : ℕ → Gateway → List ℕ → Answered
comes_in capacity g p = inbound_cached g.caches.inbound (rows_of capacity g.spd In) (address_of g.spd) (pairs g.sad) p

-- The answer to a call.
pub data Answer : Type 0 where
  for_policy : Result Unit AcceptError → Answer
  for_pair : Outcome → Answer
  for_packet : Verdict → Answer

-- The gateway after a call, after a sequence of them, and the answer to the next.
abbrev pub with_caches : Gateway → Caches → Gateway
with_caches g c = record { spd = g.spd; sad = g.sad; caches = c }

abbrev pub with_pairs : Gateway → List ℕ → Gateway
with_pairs g ws = record { spd = g.spd; sad = ws; caches = g.caches }

module _ (capacity limit : ℕ) where
  unfoldable pub after : Gateway → Call → Gateway
  after g (policy s) =
      record {
        spd = spd_after capacity limit g.spd (parse_policy limit s);
        sad = g.sad;
        caches = caches_after limit g.caches (parse_policy limit s);
      }
  after g (add p) = with_pairs g (added g.sad p)
  after g (remove protocol spi) = with_pairs g (removed g.sad protocol spi)
  after g (outbound p) = with_caches g (record { outbound = (goes_out capacity g p).cache; inbound = g.caches.inbound })
  after g (inbound p) = with_caches g (record { outbound = g.caches.outbound; inbound = (comes_in capacity g p).cache })
  after g (comes_from_sa protocol spi p) = g

  -- 'A sequence … starts from a fresh gate and hands each call the gate and cache that the call before left.'
  unfoldable pub run : Gateway → List Call → Gateway
  run g [] = g
  run g (c ∷ cs) = run (after g c) cs

  unfoldable pub answered : Gateway → Call → Answer
  answered g (policy s) = for_policy (accepting limit (parse_policy limit s))
  answered g (add p) = for_pair (add_outcome (pairs g.sad) p)
  answered g (remove protocol spi) = for_pair (remove_outcome (pairs g.sad) protocol spi)
  answered g (outbound p) = for_packet (goes_out capacity g p).verdict
  answered g (inbound p) = for_packet (comes_in capacity g p).verdict
  answered g (comes_from_sa protocol spi p) = for_packet (from_sa_by protocol spi (pairs g.sad) p)

-- Document 01's number of an answer.
abbrev pub answer_number : Answer → ℕ
answer_number (for_policy a) = acceptance_number a
answer_number (for_pair o) = outcome_number o
answer_number (for_packet v) = verdict_number v
