-- The words of a gateway that holds a policy, and policy acceptance (document 01; docs/RULES.md, 'The order of checks'). Assumes nothing: these are definitions.
use Rattle.std.specs.Prelude.{ℕ, Result, Ok, Err, cond, List, [], ◌∷◌, ◌++◌, leb, length}
use Rattle.selectors.specs.declared.Direction.TheVariants.{Out, In}
use Rattle.policy_text.specs.declared.Edition.TheVariants.{One}
use Rattle.policy_text.specs.Editions.{Rules, rules, Policy, refused, rows, refusal_number, refusal_carries}
use Rattle.decorrelate.specs.Form.{form, form_room, direction_number}
use Rattle.spd_cache.specs.Cache.{empty_cache}
use Rattle.spd.specs.Words.{address_of}
use Rattle.acceptance.specs.declared.AcceptError.{AcceptError}
use Rattle.acceptance.specs.declared.AcceptError.TheVariants.{Refused, TooLarge}
use Rattle.acceptance.specs.declared.Caches.{Caches}

-- The words of a gateway with this address: the counts of the rows for out and for in, and a room for the rows of each.
abbrev pub held_words : ℕ → ℕ → List ℕ → ℕ → List ℕ → List ℕ
held_words address outCount outRoom inCount inRoom = address ∷ outCount ∷ inCount ∷ (outRoom ++ inRoom)

-- The words of a gateway with this address that holds this policy: 'A fresh gate holds the gateway address it was made with, never
-- changed, the policy without rows'. Each room is for `capacity` rows.
abbrev pub spd_words : ℕ → ℕ → Rules → List ℕ
spd_words capacity address rs =
    held_words address (length (form Out rs)) (form_room capacity Out rs) (length (form In rs)) (form_room capacity In rs)

-- 'The policy without rows', which a fresh gate holds: one of edition 1.
abbrev pub no_rules : Rules
no_rules = rules One []

-- 'A policy is checked in the order 23, 24, 21, 20 (first bad row), 22', and 22 has the 'way, out tried first'.
abbrev pub accepting : ℕ → Policy → Result Unit AcceptError
accepting limit (refused r) = Err (Refused r)
accepting limit (rows rs) =
    cond (leb (length (form Out rs)) limit)
    (cond (leb (length (form In rs)) limit) (Ok tt) (Err (TooLarge In)))
    (Err (TooLarge Out))

-- 'Answers 10 and up for a policy … change nothing lent.'
abbrev pub if_accepted : {A : Type 0} → Result Unit AcceptError → A → A → A
if_accepted (Ok u) new old = new
if_accepted (Err e) new old = old

-- The words after a policy file. The address is 'never changed'.
abbrev pub spd_after : ℕ → ℕ → List ℕ → Policy → List ℕ
spd_after capacity limit ws (refused p) = ws
spd_after capacity limit ws (rows rs) = if_accepted (accepting limit (rows rs)) (spd_words capacity (address_of ws) rs) ws

-- 'A fresh gate holds … empty caches.'
abbrev pub empty_caches : Caches
empty_caches = record { outbound = empty_cache; inbound = empty_cache }

-- 'An accepted policy empties both caches, sets both turns to the first slot and keeps the pairs.'
abbrev pub caches_after : ℕ → Caches → Policy → Caches
caches_after limit c p = if_accepted (accepting limit p) empty_caches c

-- Document 01's numbers, and what they carry: what a refusal carries, or the way.
abbrev pub acceptance_number : Result Unit AcceptError → ℕ
acceptance_number (Ok u) = 5
acceptance_number (Err (Refused r)) = refusal_number r
acceptance_number (Err (TooLarge d)) = 22

abbrev pub acceptance_carries : Result Unit AcceptError → ℕ
acceptance_carries (Ok u) = 0
acceptance_carries (Err (Refused r)) = refusal_carries r
acceptance_carries (Err (TooLarge d)) = direction_number d
