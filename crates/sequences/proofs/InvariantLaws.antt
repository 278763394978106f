-- What holds of a gateway after every sequence of calls. Assumes nothing.
use Rattle.std.specs.Prelude.{ℕ, ◌*◌, ◌≤◌, ◌≡◌, Bool, true, false, cond, length, Option, Some, None, Result, Ok, Err}
use Rattle.std.proofs.Common.{arith, sym, ◌∙◌, subst, ⊎_elim}
use Rattle.std.proofs.Math.Path.{refl, ap}
use mathlib.Core.List.Memᴰ
use mathlib.Core.List.{List, [], ◌∷◌, map, Memᴰ}
use Rattle.std.proofs.lemmas.List.{length-replicate}
use Rattle.selectors.specs.declared.Direction.{Direction}
use Rattle.selectors.specs.declared.Direction.TheVariants.{Out, In}
use Rattle.packet.specs.Read.{read_packet}
use Rattle.packet.specs.declared.Packet.{Packet}
use Rattle.policy.specs.Policy.{PolicyRow, for_both_ways}
use Rattle.policy.specs.Words.{policy_rows}
use Rattle.policy_text.specs.Editions.{Rules, Policy, refused, rows, parse_policy}
use Rattle.decorrelate.specs.Form.{form}
use Rattle.decorrelate.specs.FormLaws.{form_words_rows}
use Rattle.spd_cache.specs.declared.Cache.{Cache}
use Rattle.spd_cache.specs.Cache.{cached, empty_cache, looked_up}
use Rattle.spd_cache.proofs.SlotLaws.{Filled, empty_filled, empty-cached, lookup_filled, lookup_mem}
use Rattle.acceptance.specs.declared.AcceptError.{AcceptError}
use Rattle.acceptance.specs.declared.AcceptError.TheVariants.{Refused, TooLarge}
use Rattle.acceptance.specs.declared.Caches.{Caches}
use Rattle.acceptance.specs.Spd.{no_rules, spd_words, spd_after, empty_caches, caches_after, accepting, if_accepted}
use Rattle.spd.specs.Words.{address_of, rows_of}
use Rattle.acceptance.proofs.SpdLaws.{Within, empty_within, within_more, accepted_exactly, spd_rows}
use Rattle.sad.specs.Pairs.{place_count, place_words}
use Rattle.sad.specs.TableLaws.{size-after_add, size-after_remove}
use Rattle.verdicts.specs.Calls.{shows, for_gateway}
use Rattle.gateway.specs.Cached.{outbound_cache, outbound_cached, inbound_cache, inbound_cached}
use Rattle.sequences.specs.Sequence.{Gateway, Call, policy, add, remove, outbound, inbound, comes_from_sa, fresh, after, run}
use Rattle.sequences.specs.Current.{accepted_rows, accepts, instead, searched, shown_out, shown_in, current_from, current}

-- The cache of a direction, and after a search of values.
abbrev pub cache_of : Direction → Caches → Cache
cache_of Out c = c.outbound
cache_of In c = c.inbound

abbrev pub cache_searched : Direction → List ℕ → Cache → Option (List ℕ) → Cache
cache_searched d ws c None = c
cache_searched d ws c (Some vs) = (looked_up c ws d vs).cache

-- The words and the caches after a policy file, by the rows that are accepted.
abbrev spd_or : ℕ → List ℕ → Option Rules → List ℕ
spd_or capacity ws None = ws
spd_or capacity ws (Some rs) = spd_words capacity (address_of ws) rs

abbrev caches_or : Caches → Option Rules → Caches
caches_or c None = c
caches_or c (Some rs) = empty_caches

-- What is taken where a policy is accepted, by whether rows are.
if-accepted : {A : Type 0} (new old : A) (take : Option Rules → A) (rs : Rules) → take (Some rs) ≡ new → take None ≡ old
    → (a : Result Unit AcceptError) → if_accepted a new old ≡ take (if_accepted a (Some rs) None)
if-accepted new old take rs p q (Ok u) = sym p
if-accepted new old take rs p q (Err (Refused r)) = sym q
if-accepted new old take rs p q (Err (TooLarge d)) = sym q

spd-settled : (capacity limit : ℕ) (ws : List ℕ) (f : Policy) → spd_after capacity limit ws f ≡ spd_or capacity ws (accepted_rows limit f)
spd-settled capacity limit ws (refused p) = refl
spd-settled capacity limit ws (rows rs) =
    if-accepted (spd_words capacity (address_of ws) rs) ws (spd_or capacity ws) rs refl refl (accepting limit (rows rs))

caches-settled : (limit : ℕ) (c : Caches) (f : Policy) → caches_after limit c f ≡ caches_or c (accepted_rows limit f)
caches-settled limit c (refused r) = refl
caches-settled limit c (rows rs) = if-accepted empty_caches c (caches_or c) rs refl refl (accepting limit (rows rs))

none≢some : (rs : Rules) → ◌≡◌ {A = Option Rules} None (Some rs) → ⊥
none≢some rs e = let z : ◌≡◌ {A = ℕ} 0 1 = cc in omega arith

accepted_within : (limit : ℕ) (f : Policy) (rs : Rules) → accepted_rows limit f ≡ Some rs → Within limit rs
accepted_within limit (refused p) rs e = absurd (none≢some rs e)
accepted_within limit (rows qs) rs e = by (accepting limit (rows qs)) refl e
  where
    by : (a : Result Unit AcceptError) → accepting limit (rows qs) ≡ a → if_accepted a (Some qs) None ≡ Some rs → Within limit rs
    by (Ok u) g h = let same : qs ≡ rs = cc in subst (Within limit) same ((accepted_exactly limit qs).0 g)
    by (Err (Refused r)) g h = absurd (none≢some rs h)
    by (Err (TooLarge d)) g h = absurd (none≢some rs h)

-- The cache of a direction, when a policy with these rules is current: its slots are filled from the first on, and each row that it holds
-- is one of the normal form's.
pub record Holding (d : Direction) (rs : Rules) (c : Cache) : Type 0 where
  pub filled : Filled c
  pub rows-of : (r : PolicyRow) → Memᴰ r (cached c) → Memᴰ r (map for_both_ways (form d rs))

empty_holding : (d : Direction) (rs : Rules) → Holding d rs empty_cache
empty_holding d rs = record { filled = empty_filled; rows-of = λ r m. absurd (Memᴰ.not-nil (rw empty-cached at m)) }

module _ (d : Direction) (rs : Rules) (ws : List ℕ) (is : policy_rows ws ≡ map for_both_ways (form d rs)) where
  search_holding : (c : Cache) → Holding d rs c → (o : Option (List ℕ)) → Holding d rs (cache_searched d ws c o)
  search_holding c h None = h
  search_holding c h (Some vs) =
      record {
        filled = lookup_filled c ws d vs h.filled;
        rows-of = λ r m. ⊎_elim (h.rows-of r) (λ q. rw is at q) (lookup_mem c ws d vs h.filled r m);
      }

-- A gateway with this address, when these rules are the current policy.
pub record Sound (capacity limit address : ℕ) (rs : Rules) (g : Gateway) : Type 0 where
  pub policy-words : g.spd ≡ spd_words capacity address rs
  pub within : Within limit rs
  pub pair-words : length g.sad ≡ place_count * place_words
  pub holding : (d : Direction) → Holding d rs (cache_of d g.caches)

pub fresh_sound : (capacity limit address : ℕ) → Sound capacity limit address no_rules (fresh capacity address)
fresh_sound capacity limit address =
    record {
      policy-words = refl;
      within = empty_within limit;
      pair-words = length-replicate {A = ℕ} (place_count * place_words) 0;
      holding = empty_each;
    }
  where
    empty_each : (d : Direction) → Holding d no_rules (cache_of d empty_caches)
    empty_each Out = empty_holding Out no_rules
    empty_each In = empty_holding In no_rules

-- The caches after a packet: what it searches.
out_cache : (c : Cache) (ws : List ℕ) (a : ℕ) (q : _) (p : List ℕ) → (outbound_cached c ws q p).cache ≡ cache_searched Out ws c (searched Out a (outbound p))
unfolding outbound_cached
out_cache c ws a q p = by (read_packet Out p)
  where
    by : (r : Option Packet) → outbound_cache c ws r ≡ cache_searched Out ws c (shown_out r)
    by (Some k) = refl
    by None = refl

in_cache : (c : Cache) (ws : List ℕ) (a : ℕ) (q : _) (p : List ℕ) → (inbound_cached c ws a q p).cache ≡ cache_searched In ws c (searched In a (inbound p))
unfolding inbound_cached
in_cache c ws a q p = by (read_packet In p)
  where
    for : (b : Bool) (vs : List ℕ) → cond b c (looked_up c ws In vs).cache ≡ cache_searched In ws c (cond b None (Some vs))
    for true vs = refl
    for false vs = refl

    by : (r : Option Packet) → inbound_cache c ws a r ≡ cache_searched In ws c (shown_in a r)
    by (Some k) = for (for_gateway a k) (shows k)
    by None = refl

-- The policy words and the caches after any call, by what it accepts and what it searches.
abbrev pub cache_or : Cache → Option Rules → Cache
cache_or c None = c
cache_or c (Some rs) = empty_cache

caches_each : (d : Direction) (c : Caches) (o : Option Rules) → cache_of d (caches_or c o) ≡ cache_or (cache_of d c) o
caches_each Out c None = refl
caches_each Out c (Some rs) = refl
caches_each In c None = refl
caches_each In c (Some rs) = refl

module _ (capacity limit : ℕ) where
  pub spd-after : (g : Gateway) (c : Call) → (after capacity limit g c).spd ≡ spd_or capacity g.spd (accepts limit c)
  unfolding after
  spd-after g (policy s) = spd-settled capacity limit g.spd (parse_policy limit s)
  spd-after g (add p) = refl
  spd-after g (remove protocol spi) = refl
  spd-after g (outbound p) = refl
  spd-after g (inbound p) = refl
  spd-after g (comes_from_sa protocol spi p) = refl

  pub cache-after : (d : Direction) (g : Gateway) (c : Call)
      → cache_of d (after capacity limit g c).caches ≡ cache_or (cache_searched d (rows_of capacity g.spd d) (cache_of d g.caches) (searched d (address_of g.spd) c)) (accepts limit c)
  unfolding after
  cache-after Out g (policy s) = ap (cache_of Out) (caches-settled limit g.caches (parse_policy limit s)) ∙ caches_each Out g.caches (accepted_rows limit (parse_policy limit s))
  cache-after In g (policy s) = ap (cache_of In) (caches-settled limit g.caches (parse_policy limit s)) ∙ caches_each In g.caches (accepted_rows limit (parse_policy limit s))
  cache-after Out g (outbound p) = out_cache g.caches.outbound (rows_of capacity g.spd Out) (address_of g.spd) _ p
  cache-after In g (inbound p) = in_cache g.caches.inbound (rows_of capacity g.spd In) (address_of g.spd) _ p
  cache-after Out g (add p) = refl
  cache-after Out g (remove protocol spi) = refl
  cache-after Out g (inbound p) = refl
  cache-after Out g (comes_from_sa protocol spi p) = refl
  cache-after In g (add p) = refl
  cache-after In g (remove protocol spi) = refl
  cache-after In g (outbound p) = refl
  cache-after In g (comes_from_sa protocol spi p) = refl

  pub pair_words-after : (g : Gateway) (c : Call) → length g.sad ≡ place_count * place_words → length (after capacity limit g c).sad ≡ place_count * place_words
  unfolding after
  pair_words-after g (policy s) h = h
  pair_words-after g (add p) h = size-after_add g.sad p h
  pair_words-after g (remove protocol spi) h = size-after_remove g.sad protocol spi h
  pair_words-after g (outbound p) h = h
  pair_words-after g (inbound p) h = h
  pair_words-after g (comes_from_sa protocol spi p) h = h

accepts_within : (limit : ℕ) (c : Call) (rs : Rules) → accepts limit c ≡ Some rs → Within limit rs
accepts_within limit (policy s) rs e = accepted_within limit (parse_policy limit s) rs e
accepts_within limit (add p) rs e = absurd (none≢some rs e)
accepts_within limit (remove protocol spi) rs e = absurd (none≢some rs e)
accepts_within limit (outbound p) rs e = absurd (none≢some rs e)
accepts_within limit (inbound p) rs e = absurd (none≢some rs e)
accepts_within limit (comes_from_sa protocol spi p) rs e = absurd (none≢some rs e)

pub address_kept : (capacity limit address : ℕ) (rs : Rules) (g : Gateway) → Sound capacity limit address rs g → address_of g.spd ≡ address
address_kept capacity limit address rs g s = rw s.policy-words

-- The words carry every policy that is accepted.
module _ (capacity limit : ℕ) (bound : limit ≤ capacity) where
  module _ (address : ℕ) (rs : Rules) (g : Gateway) (s : Sound capacity limit address rs g) where
    -- The words that a packet call searches are the rows of the current policy's normal form.
    pub rows_read : (d : Direction) → policy_rows (rows_of capacity g.spd d) ≡ map for_both_ways (form d rs)
    rows_read d = rw (s.policy-words, spd_rows capacity address rs (within_more limit capacity bound rs s.within) d) (form_words_rows d rs)

    pub after_sound : (c : Call) → Sound capacity limit address (instead rs (accepts limit c)) (after capacity limit g c)
    after_sound c = by (accepts limit c) refl
      where
        by : (o : Option Rules) → accepts limit c ≡ o → Sound capacity limit address (instead rs o) (after capacity limit g c)
        by None e =
            record {
              policy-words = spd-after capacity limit g c ∙ rw e s.policy-words;
              within = s.within;
              pair-words = pair_words-after capacity limit g c s.pair-words;
              holding = λ d. rw (cache-after capacity limit d g c, e) (search_holding d rs (rows_of capacity g.spd d) (rows_read d) (cache_of d g.caches) (s.holding d) (searched d (address_of g.spd) c));
            }
        by (Some qs) e =
            record {
              policy-words = spd-after capacity limit g c ∙ rw e (ap (λ (a : ℕ). spd_words capacity a qs) (address_kept capacity limit address rs g s));
              within = accepts_within limit c qs e;
              pair-words = pair_words-after capacity limit g c s.pair-words;
              holding = λ d. rw (cache-after capacity limit d g c, e) (empty_holding d qs);
            }

  -- After any sequence.
  run_sound : (address : ℕ) (rs : Rules) (g : Gateway) → Sound capacity limit address rs g → (cs : List Call)
      → Sound capacity limit address (current_from limit rs cs) (run capacity limit g cs)
  unfolding run current_from
  run_sound address rs g s [] = s
  run_sound address rs g s (c ∷ cs) = run_sound address (instead rs (accepts limit c)) (after capacity limit g c) (after_sound address rs g s c) cs

  pub sound : (address : ℕ) (cs : List Call) → Sound capacity limit address (current limit cs) (run capacity limit (fresh capacity address) cs)
  sound address cs = run_sound address no_rules (fresh capacity address) (fresh_sound capacity limit address) cs
