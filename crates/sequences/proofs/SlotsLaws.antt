-- The slot rule over sequences: the slots of each cache are what document 01's rule makes of the calls. Assumes nothing.
use Rattle.std.specs.Prelude.{ℕ, zero, suc, ◌+◌, ◌*◌, ◌≤◌, ◌%◌, ◌≡◌, Bool, true, false, cond, Option, Some, None}
use Rattle.std.proofs.Common.{arith, ◌∙◌}
use Rattle.std.proofs.Math.Path.{refl, ap}
use mathlib.Core.List.{List, [], ◌∷◌, map}
use Rattle.selectors.specs.declared.Direction.{Direction}
use Rattle.selectors.specs.declared.Direction.TheVariants.{Out, In}
use Rattle.policy.specs.Policy.{PolicyRow, matches, match_from, for_both_ways}
use Rattle.policy.specs.Words.{row_at, rows_from, row_words, policy_rows}
use Rattle.policy_text.specs.Editions.{Rules}
use Rattle.decorrelate.specs.Form.{form}
use Rattle.spd_cache.specs.declared.Cache.{Cache}
use Rattle.spd_cache.specs.Cache.{slot_count, empty_cache, in_use, cached, turn, stored, looked_up}
use Rattle.spd_cache.proofs.CacheLaws.{row_bound, lookup_hit, lookup_miss, lookup_none}
use Rattle.spd_cache.proofs.SlotLaws.{Filled, empty-cached, stored_rows}
use Rattle.acceptance.specs.Spd.{no_rules, empty_caches}
use Rattle.spd.specs.Words.{address_of, rows_of}
use Rattle.sequences.specs.Sequence.{Gateway, Call, fresh, after, run}
use Rattle.sequences.specs.Current.{Slots, no_slots, first_row, missed_slots, tried_slots, slots_searched, slots_or, slots_from, slots, accepts, instead, searched}
use Rattle.sequences.proofs.InvariantLaws.{cache_of, cache_searched, cache_or, Sound, cache-after, rows_read, address_kept, after_sound, fresh_sound}

-- The slots of a cache.
abbrev pub slots_of : Cache → Slots
slots_of c = record { taken = cached c; turn = turn c }

-- A match, as the row that it is.
abbrev row_found : List ℕ → Option ℕ → Option PolicyRow
row_found ws (Some j) = Some (row_at ws (j * row_words))
row_found ws None = None

first_match : (d : Direction) (ws vs : List ℕ) (i n : ℕ) → first_row d (rows_from ws i n) vs ≡ row_found ws (match_from i d (rows_from ws i n) vs)
unfolding rows_from first_row match_from
first_match d ws vs i zero = refl
first_match d ws vs i (suc n) = by (matches d (row_at ws (i * row_words)) vs) (first_match d ws vs (suc i) n)
  where
    by : (b : Bool) → first_row d (rows_from ws (suc i) n) vs ≡ row_found ws (match_from (suc i) d (rows_from ws (suc i) n) vs)
        → cond b (Some (row_at ws (i * row_words))) (first_row d (rows_from ws (suc i) n) vs)
        ≡ row_found ws (cond b (Some i) (match_from (suc i) d (rows_from ws (suc i) n) vs))
    by true ih = refl
    by false ih = ih

-- A lookup does to the slots what the rule says.
module _ (c : Cache) (f : Filled c) (ws : List ℕ) (d : Direction) (vs : List ℕ) where
  stored-slots : (j : ℕ) → match_from 0 d (policy_rows ws) vs ≡ Some j → slots_of (stored c ws j) ≡ missed_slots (slots_of c) (Some (row_at ws (j * row_words)))
  stored-slots j g =
      let t : (turn c + 1) % slot_count % slot_count ≡ (turn c + 1) % slot_count = omega arith in
      rw (stored_rows c ws j f (row_bound ws d vs j g), t)

  lookup-slots : slots_of (looked_up c ws d vs).cache ≡ tried_slots (slots_of c) (first_row d (cached c) vs) (first_row d (policy_rows ws) vs)
  lookup-slots = by (match_from 0 d (cached c) vs) refl (match_from 0 d (policy_rows ws) vs) refl
    where
      by : (slot : Option ℕ) → match_from 0 d (cached c) vs ≡ slot → (found : Option ℕ) → match_from 0 d (policy_rows ws) vs ≡ found
          → slots_of (looked_up c ws d vs).cache ≡ tried_slots (slots_of c) (first_row d (cached c) vs) (first_row d (policy_rows ws) vs)
      by (Some i) e found g = rw (lookup_hit c ws d vs i e, first_match d (in_use c) vs 0 _, e)
      by None e (Some j) g = rw (lookup_miss c ws d vs j e g, first_match d (in_use c) vs 0 _, e, first_match d ws vs 0 _, g) (stored-slots j g)
      by None e None g = rw (lookup_none c ws d vs e g, first_match d (in_use c) vs 0 _, e, first_match d ws vs 0 _, g)

module _ (d : Direction) (rs : Rules) (ws : List ℕ) (is : policy_rows ws ≡ map for_both_ways (form d rs)) where
  searched-slots : (c : Cache) → Filled c → (o : Option (List ℕ)) → slots_of (cache_searched d ws c o) ≡ slots_searched d rs (slots_of c) o
  searched-slots c f None = refl
  searched-slots c f (Some vs) =
      lookup-slots c f ws d vs ∙ ap (λ (L : List PolicyRow). tried_slots (slots_of c) (first_row d (cached c) vs) (first_row d L vs)) is

emptied-slots : (c : Cache) (o : Option Rules) → slots_of (cache_or c o) ≡ slots_or (slots_of c) o
emptied-slots c None = refl
emptied-slots c (Some rs) = ap (λ (L : List PolicyRow). record { taken = L; turn = 0 }) empty-cached

module _ (capacity limit : ℕ) (bound : limit ≤ capacity) (d : Direction) (address : ℕ) where
  slots-after : (rs : Rules) (g : Gateway) → Sound capacity limit address rs g → (c : Call)
      → slots_of (cache_of d (after capacity limit g c).caches)
      ≡ slots_or (slots_searched d rs (slots_of (cache_of d g.caches)) (searched d address c)) (accepts limit c)
  slots-after rs g s c =
      ap slots_of (cache-after capacity limit d g c)
      ∙ emptied-slots (cache_searched d (rows_of capacity g.spd d) (cache_of d g.caches) (searched d (address_of g.spd) c)) (accepts limit c)
      ∙ ap (λ (t : Slots). slots_or t (accepts limit c))
      (searched-slots d rs (rows_of capacity g.spd d) (rows_read capacity limit bound address rs g s d) (cache_of d g.caches) (s.holding d).filled (searched d (address_of g.spd) c))
      ∙ ap (λ (a : ℕ). slots_or (slots_searched d rs (slots_of (cache_of d g.caches)) (searched d a c)) (accepts limit c))
      (address_kept capacity limit address rs g s)

  slots-run : (rs : Rules) (g : Gateway) → Sound capacity limit address rs g → (cs : List Call)
      → slots_of (cache_of d (run capacity limit g cs).caches) ≡ slots_from limit d address rs (slots_of (cache_of d g.caches)) cs
  unfolding run slots_from
  slots-run rs g s [] = refl
  slots-run rs g s (c ∷ cs) =
      slots-run (instead rs (accepts limit c)) (after capacity limit g c) (after_sound capacity limit bound address rs g s c) cs
      ∙ ap (λ (t : Slots). slots_from limit d address (instead rs (accepts limit c)) t cs) (slots-after rs g s c)

fresh-slots : (d : Direction) → slots_of (cache_of d empty_caches) ≡ no_slots
fresh-slots Out = emptied-slots empty_cache (Some no_rules)
fresh-slots In = emptied-slots empty_cache (Some no_rules)

-- After any sequence of calls the slots of each direction are those that the rule makes of the calls.
pub slot_rule : (capacity limit : ℕ) → limit ≤ capacity → (d : Direction) (address : ℕ) (cs : List Call)
    → slots_of (cache_of d (run capacity limit (fresh capacity address) cs).caches) ≡ slots limit d address cs
slot_rule capacity limit bound d address cs =
    slots-run capacity limit bound d address no_rules (fresh capacity address) (fresh_sound capacity limit address) cs
    ∙ ap (λ (t : Slots). slots_from limit d address no_rules t cs) (fresh-slots d)
