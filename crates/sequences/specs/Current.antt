-- What stands after a sequence of calls, read off the calls alone, in the paper's terms: the current policy, the live pairs, and the slots
-- of each direction's cache. Assumes nothing: these are definitions. `limit` is the most rows of a policy and of a normal form (21 and 22).
use Rattle.std.specs.Prelude.{ℕ, ◌+◌, ◌%◌, cond, List, [], ◌∷◌, map, Option, Some, None, Ok, Err}
use Rattle.selectors.specs.declared.Direction.{Direction}
use Rattle.selectors.specs.declared.Direction.TheVariants.{Out, In}
use Rattle.packet.specs.Read.{read_packet}
use Rattle.packet.specs.Header.{Bytes}
use Rattle.packet.specs.declared.Packet.{Packet}
use Rattle.policy.specs.Policy.{PolicyRow, matches, ordered_search, for_both_ways}
use Rattle.policy_text.specs.Editions.{Rules, Policy, refused, rows, parse_policy}
use Rattle.decorrelate.specs.Form.{form}
use Rattle.spd_cache.specs.Cache.{slot_count, replaced}
use Rattle.acceptance.specs.Spd.{no_rules, accepting, if_accepted}
use Rattle.sad.specs.declared.NewPair.{NewPair}
use Rattle.sad.specs.Pairs.{Outcome}
use Rattle.sad.specs.declared.PairError.TheVariants.{ReservedSpi, AlreadyLive, TableFull, BadPair, NothingToRemove}
use Rattle.sad.specs.Pairs.{Pair, named, add_outcome, remove_outcome, new_pair}
use Rattle.verdicts.specs.Calls.{shows, for_gateway, outbound_by, inbound_by, from_sa_by}
use Rattle.sequences.specs.Sequence.{Call, policy, add, remove, outbound, inbound, comes_from_sa, Answer, for_policy, for_pair, for_packet}

-- The rules of a file that is accepted: one that 23, 24, 21, 20 and 22 let through.
abbrev pub accepted_rows : ℕ → Policy → Option Rules
accepted_rows limit (refused p) = None
accepted_rows limit (rows rs) = if_accepted (accepting limit (rows rs)) (Some rs) None

abbrev pub accepts : ℕ → Call → Option Rules
accepts limit (policy s) = accepted_rows limit (parse_policy limit s)
accepts limit (add p) = None
accepts limit (remove protocol spi) = None
accepts limit (outbound p) = None
accepts limit (inbound p) = None
accepts limit (comes_from_sa protocol spi p) = None

-- The current policy: the rules of the last accepted file.
abbrev pub instead : {A : Type 0} → A → Option A → A
instead a None = a
instead a (Some b) = b

unfoldable pub current_from : ℕ → Rules → List Call → Rules
current_from limit rs [] = rs
current_from limit rs (c ∷ cs) = current_from limit (instead rs (accepts limit c)) cs

-- 'The policy without rows' at first.
abbrev pub current : ℕ → List Call → Rules
current limit cs = current_from limit no_rules cs

-- The live pairs: each that was added, and was not removed since. A refusal changes nothing.
abbrev pub added_to : List Pair → NewPair → Outcome → List Pair
added_to qs p (Ok u) = new_pair p ∷ qs
added_to qs p (Err ReservedSpi) = qs
added_to qs p (Err AlreadyLive) = qs
added_to qs p (Err TableFull) = qs
added_to qs p (Err BadPair) = qs
added_to qs p (Err NothingToRemove) = qs

unfoldable pub without : ℕ → ℕ → List Pair → List Pair
without protocol spi [] = []
without protocol spi (q ∷ qs) = cond (named protocol spi q) (without protocol spi qs) (q ∷ without protocol spi qs)

abbrev pub pairs_then : List Pair → Call → List Pair
pairs_then qs (policy s) = qs
pairs_then qs (add p) = added_to qs p (add_outcome qs p)
pairs_then qs (remove protocol spi) = without protocol spi qs
pairs_then qs (outbound p) = qs
pairs_then qs (inbound p) = qs
pairs_then qs (comes_from_sa protocol spi p) = qs

unfoldable pub pairs_from : List Pair → List Call → List Pair
pairs_from qs [] = qs
pairs_from qs (c ∷ cs) = pairs_from (pairs_then qs c) cs

-- 'No pair' at first.
abbrev pub live_pairs : List Call → List Pair
live_pairs cs = pairs_from [] cs

-- The values that a call searches in a direction, where it does: 'used by the one door that searches that way'.
abbrev pub shown_out : Option Packet → Option (List ℕ)
shown_out (Some k) = Some (shows k)
shown_out None = None

-- AH or ESP for the gateway is not searched.
abbrev pub shown_in : ℕ → Option Packet → Option (List ℕ)
shown_in address (Some k) = cond (for_gateway address k) None (Some (shows k))
shown_in address None = None

abbrev pub searched : Direction → ℕ → Call → Option (List ℕ)
searched Out address (outbound p) = shown_out (read_packet Out p)
searched In address (inbound p) = shown_in address (read_packet In p)
searched Out address (policy s) = None
searched Out address (add p) = None
searched Out address (remove protocol spi) = None
searched Out address (inbound p) = None
searched Out address (comes_from_sa protocol spi p) = None
searched In address (policy s) = None
searched In address (add p) = None
searched In address (remove protocol spi) = None
searched In address (outbound p) = None
searched In address (comes_from_sa protocol spi p) = None

-- The slots of a cache: the rows in use, and the slot whose turn it is.
pub record Slots : Type 0 where
  pub taken : List PolicyRow
  pub turn : ℕ

abbrev pub no_slots : Slots
no_slots = record { taken = []; turn = 0 }

-- The first of some rows that matches.
unfoldable pub first_row : Direction → List PolicyRow → List ℕ → Option PolicyRow
first_row d [] vs = None
first_row d (r ∷ rs) vs = cond (matches d r vs) (Some r) (first_row d rs vs)

-- 'A hit changes nothing. A miss that finds a row writes it to the slot whose turn it is, and the turn moves on, round after 32. A miss
-- without a row changes nothing.'
abbrev pub missed_slots : Slots → Option PolicyRow → Slots
missed_slots s None = s
missed_slots s (Some r) = record { taken = replaced s.taken s.turn r; turn = (s.turn + 1) % slot_count }

abbrev pub tried_slots : Slots → Option PolicyRow → Option PolicyRow → Slots
tried_slots s (Some hit) found = s
tried_slots s None found = missed_slots s found

-- A search of values under a policy: the row that a miss finds is one of the normal form's.
abbrev pub slots_searched : Direction → Rules → Slots → Option (List ℕ) → Slots
slots_searched d rs s None = s
slots_searched d rs s (Some vs) = tried_slots s (first_row d s.taken vs) (first_row d (map for_both_ways (form d rs)) vs)

-- 'An accepted policy empties both caches, sets both turns to the first slot.'
abbrev pub slots_or : Slots → Option Rules → Slots
slots_or s None = s
slots_or s (Some rs) = no_slots

-- The slots after a sequence of calls on a gateway with this address, from a policy and slots on.
unfoldable pub slots_from : ℕ → Direction → ℕ → Rules → Slots → List Call → Slots
slots_from limit d address rs s [] = s
slots_from limit d address rs s (c ∷ cs) =
    slots_from limit d address (instead rs (accepts limit c)) (slots_or (slots_searched d rs s (searched d address c)) (accepts limit c)) cs

abbrev pub slots : ℕ → Direction → ℕ → List Call → Slots
slots limit d address cs = slots_from limit d address no_rules no_slots cs

-- The answer to a call by document 01's rules, from the gateway's address, the current policy and the live pairs.
abbrev pub ruled : ℕ → ℕ → Rules → List Pair → Call → Answer
ruled limit address rs qs (policy s) = for_policy (accepting limit (parse_policy limit s))
ruled limit address rs qs (add p) = for_pair (add_outcome qs p)
ruled limit address rs qs (remove protocol spi) = for_pair (remove_outcome qs protocol spi)
ruled limit address rs qs (outbound p) = for_packet (outbound_by (ordered_search Out rs.entries) qs p)
ruled limit address rs qs (inbound p) = for_packet (inbound_by (ordered_search In rs.entries) address qs p)
ruled limit address rs qs (comes_from_sa protocol spi p) = for_packet (from_sa_by protocol spi qs p)

-- A packet that is searched is made of bytes, as every lent packet is.
abbrev pub OfBytes : Call → Type 0
OfBytes (policy s) = Unit
OfBytes (add p) = Unit
OfBytes (remove protocol spi) = Unit
OfBytes (outbound p) = Bytes p
OfBytes (inbound p) = Bytes p
OfBytes (comes_from_sa protocol spi p) = Unit
