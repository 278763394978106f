-- The packet calls as the gateway does them: by the cache and the normal-form rows of their direction. Assumes nothing: these are definitions.
use Rattle.std.specs.Prelude.{ℕ, Option, Some, None, cond, List}
use Rattle.selectors.specs.declared.Direction.{Direction}
use Rattle.selectors.specs.declared.Direction.TheVariants.{Out, In}
use Rattle.policy.specs.declared.Action.{Action}
use Rattle.packet.specs.Read.{read_packet}
use Rattle.packet.specs.declared.Packet.{Packet}
use Rattle.spd_cache.specs.Cache.{looked_up}
use Rattle.spd_cache.specs.declared.Cache.{Cache}
use Rattle.sad.specs.Pairs.{Pair}
use Rattle.verdicts.specs.declared.Verdict.{Verdict}
use Rattle.verdicts.specs.Calls.{shows, for_gateway, outbound_by, inbound_by}

-- A packet's verdict, with the cache afterwards.
pub record Answered : Type 0 where
  pub verdict : Verdict
  pub cache : Cache

-- The search that a cache and rows make.
abbrev pub cached_search : Cache → List ℕ → Direction → List ℕ → Action
cached_search c rows d vs = (looked_up c rows d vs).action

-- The cache after a packet that was searched; one that is not readable is not searched.
abbrev pub outbound_cache : Cache → List ℕ → Option Packet → Cache
outbound_cache c rows (Some k) = (looked_up c rows Out (shows k)).cache
outbound_cache c rows None = c

unfoldable pub outbound_cached : Cache → List ℕ → List Pair → List ℕ → Answered
outbound_cached c rows pairs p =
    record { verdict = outbound_by (cached_search c rows Out) pairs p; cache = outbound_cache c rows (read_packet Out p) }

-- Nor is AH or ESP for the gateway.
abbrev pub inbound_cache : Cache → List ℕ → ℕ → Option Packet → Cache
inbound_cache c rows address (Some k) = cond (for_gateway address k) c (looked_up c rows In (shows k)).cache
inbound_cache c rows address None = c

unfoldable pub inbound_cached : Cache → List ℕ → ℕ → List Pair → List ℕ → Answered
inbound_cached c rows address pairs p =
    record { verdict = inbound_by (cached_search c rows In) address pairs p; cache = inbound_cache c rows address (read_packet In p) }
