-- Demand 1: 'A refused policy, association or print alters no table, cache or buffer': a policy and a print. (An association: Demand1Unchanged.)
-- Assumes nothing.
use Rattle.std.specs.Prelude.{ℕ, ◌≤◌, ◌≡◌, refl, length, Result, Ok, Err}
use Rattle.std.proofs.Common.{arith}
use mathlib.Core.List.{List}
use Rattle.selectors.specs.declared.Direction.{Direction}
use Rattle.policy_text.specs.Editions.{Policy, refused, rows}
use Rattle.normal_form_file.specs.Normalise.{normalised, bytes_after, normalised_bytes, normalised_number}
use Rattle.normal_form_file.specs.declared.NormaliseError.{NormaliseError}
use Rattle.normal_form_file.specs.declared.NormaliseError.TheVariants.{Refused, TooLarge, NoRoom}
use Rattle.acceptance.specs.Spd.{spd_words, empty_caches, accepting, if_accepted, spd_after, caches_after, acceptance_number}
use Rattle.spd.specs.Words.{address_of}
use Rattle.acceptance.specs.declared.AcceptError.{AcceptError}
use Rattle.acceptance.specs.declared.AcceptError.TheVariants.{Refused as RefusedFile, TooLarge as OverForm}
use Rattle.acceptance.specs.declared.Caches.{Caches}

-- 'Answers 10 and up for a policy, pair or print change nothing lent.' A policy that is not accepted leaves the policy and both caches.
pub policy_unchanged : (capacity limit : ℕ) (ws : List ℕ) (c : Caches) (policy : Policy)
    → 10 ≤ acceptance_number (accepting limit policy) → (spd_after capacity limit ws policy ≡ ws) × (caches_after limit c policy ≡ c)
policy_unchanged capacity limit ws c policy h = (words policy h, by empty_caches c (accepting limit policy) h)
  where
    by : {A : Type 0} (new old : A) (a : Result Unit AcceptError) → 10 ≤ acceptance_number a → if_accepted a new old ≡ old
    by new old (Ok u) g = absurd (omega arith)
    by new old (Err (RefusedFile r)) g = refl
    by new old (Err (OverForm w)) g = refl

    words : (p : Policy) → 10 ≤ acceptance_number (accepting limit p) → spd_after capacity limit ws p ≡ ws
    words (refused p) g = refl
    words (rows rs) g = by (spd_words capacity (address_of ws) rs) ws (accepting limit (rows rs)) g

-- Nor does what is not printed.
pub normalise_unchanged : (limit : ℕ) (d : Direction) (room : List ℕ) (policy : Policy)
    → 10 ≤ normalised_number (normalised limit d (length room) policy) → normalised_bytes limit d room policy ≡ room
normalise_unchanged limit d room (refused p) h = refl
normalise_unchanged limit d room (rows rs) h = by (normalised limit d (length room) (rows rs)) h
  where
    by : (a : Result ℕ NormaliseError) → 10 ≤ normalised_number a → bytes_after d rs a room ≡ room
    by (Ok n) g = absurd (omega arith)
    by (Err (Refused r)) g = refl
    by (Err (TooLarge w)) g = refl
    by (Err NoRoom) g = refl
