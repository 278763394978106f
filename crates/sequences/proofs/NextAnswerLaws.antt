-- The answer to the next call after any sequence of calls is the one by document 01's rules. Assumes nothing.
use Rattle.std.specs.Prelude.{ℕ, ◌≤◌, ◌≡◌, true, cond, Option, Some, None}
use Rattle.std.proofs.Math.Path.{refl, ap}
use Rattle.std.proofs.Common.{sym, ◌∙◌, subst, ⊎_elim}
use mathlib.Core.List.Memᴰ
use mathlib.Core.List.{List, [], ◌∷◌, map, Memᴰ}
use Rattle.selectors.specs.Range.{ipv4_sizes, holds}
use Rattle.selectors.specs.Value.{number}
use Rattle.selectors.specs.declared.Direction.{Direction}
use Rattle.selectors.specs.declared.Direction.TheVariants.{Out, In}
use Rattle.normal_form.specs.Search.{Row as LeafRow, Combination}
use Rattle.normal_form.proofs.ShapeLaws.{normal_form-row}
use Rattle.packet.specs.Read.{read_packet, read_trigger, trigger_of}
use Rattle.packet.specs.Header.{Bytes}
use Rattle.packet.specs.ReadLaws.{packet-shows, read_in_fields}
use Rattle.packet.specs.declared.Packet.{Packet}
use Rattle.policy.specs.declared.Action.{Action}
use Rattle.policy.specs.declared.Action.TheVariants.{Discard, Bypass, Protect}
use Rattle.policy.specs.ActionLaws.{action-≟}
use Rattle.policy.specs.Policy.{PolicyRow, matches, ordered_search, for_both_ways}
use Rattle.policy.specs.Words.{policy_rows}
use Rattle.policy_text.specs.declared.Edition.{Edition}
use Rattle.policy_text.specs.declared.Edition.TheVariants.{One}
use Rattle.policy_text.specs.Editions.{edition_sizes, Rules}
use Rattle.decorrelate.specs.Form.{form}
use Rattle.spd_cache.specs.Cache.{looked_up}
use Rattle.spd_cache.proofs.SlotLaws.{lookup_action}
use Rattle.spd.specs.Words.{address_of, rows_of}
use Rattle.acceptance.proofs.SpdLaws.{spd_search, within_more}
use Rattle.sad.specs.Pairs.{Pair, pairs, live}
use Rattle.verdicts.specs.declared.Verdict.{Verdict}
use Rattle.verdicts.specs.declared.Verdict.TheVariants.{NoSuchPair}
use Rattle.verdicts.specs.Calls.{shows, outbound_action, outbound_read, outbound_by, spi_of, to_ipsec, inbound_read, inbound_by, fits_pair, trigger_read, from_sa_read, from_sa_by}
use Rattle.gateway.specs.Cached.{outbound_cached, inbound_cached}
use Rattle.sequences.specs.Sequence.{Gateway, Call, policy, add, remove, outbound, inbound, comes_from_sa, fresh, run, goes_out, comes_in, for_pair, for_packet, answered}
use Rattle.sequences.specs.Current.{current, live_pairs, ruled, OfBytes}
use Rattle.sequences.proofs.InvariantLaws.{cache_of, Sound, address_kept, sound}
use Rattle.sequences.proofs.LiveLaws.{Alike, live_alike, add_alike, remove_alike, fitting_alike, pair_for_alike, pairs-live}

-- A row of the normal form that holds values has the action of the search there.
row_action : (d : Direction) (rs : List PolicyRow) (L : List (LeafRow Action)) (r : PolicyRow) (vs : List ℕ)
    → ((q : LeafRow Action) → Memᴰ q L → holds q.ranges vs ≡ true → q.leaf ≡ ordered_search d rs vs)
    → Memᴰ r (map for_both_ways L) → matches d r vs ≡ true → r.action ≡ ordered_search d rs vs
unfolding matches
row_action d rs [] r vs h m e = absurd (Memᴰ.not-nil m)
row_action d rs (q ∷ L) r vs h m e =
    ⊎_elim (λ s. ap (λ (t : PolicyRow). t.action) s ∙ h q (Memᴰ.head refl) (subst (λ (t : PolicyRow). matches d t vs ≡ true) s e))
    (λ t. row_action d rs L r vs (λ q m. h q (Memᴰ.tail m)) t e)
    (Memᴰ.cases_cons m)

module _ (capacity limit : ℕ) (bound : limit ≤ capacity) (address : ℕ) (rs : Rules) (g : Gateway) (s : Sound capacity limit address rs g) where
  -- A search by the cache is the ordered search.
  search_sound : (d : Direction) (vs : List ℕ) → Combination (edition_sizes rs.edition) vs
      → (looked_up (cache_of d g.caches) (rows_of capacity g.spd d) d vs).action ≡ ordered_search d rs.entries vs
  search_sound d vs ok =
      let plain : ordered_search d (policy_rows (rows_of capacity g.spd d)) vs ≡ ordered_search d rs.entries vs
      = rw s.policy-words (spd_search capacity address rs (within_more limit capacity bound rs s.within) d vs ok) in
      lookup_action (cache_of d g.caches) (rows_of capacity g.spd d) d vs
      (λ r m e. row_action d rs.entries (form d rs) r vs (λ q n. normal_form-row action-≟ Discard (edition_sizes rs.edition) (ordered_search d rs.entries) q n vs) ((s.holding d).rows-of r m) e ∙ sym plain)
      ∙ plain

-- What a packet shows is a combination.
shows-combination : (d : Direction) (p : List ℕ) (k : Packet) → Bytes p → read_packet d p ≡ Some k → Combination ipv4_sizes (shows k)
unfolding Combination
shows-combination d p k b e =
    let f = read_in_fields d p k b (packet-shows d p k e) in
    (f.local, (f.remote, (f.protocol, (f.local-port, (f.remote-port, tt)))))

-- Every edition has the fields that are read of a packet.
fields-shown : (e : Edition) (vs : List ℕ) → Combination ipv4_sizes vs → Combination (edition_sizes e) vs
fields-shown One vs ok = ok

-- Two searches that agree on what the packet shows, and the same pairs in any order, make the same answer of it.
module _ (s t : List ℕ → Action) (qs rs : List Pair) (h : Alike qs rs) (p : List ℕ) where
  action_alike : (vs : List ℕ) (a : Action) → outbound_action qs vs a ≡ outbound_action rs vs a
  action_alike vs Discard = refl
  action_alike vs Bypass = refl
  action_alike vs (Protect n) = rw (pair_for_alike qs rs h n vs)

  outbound_alike : ((k : Packet) → read_packet Out p ≡ Some k → s (shows k) ≡ t (shows k)) → outbound_by s qs p ≡ outbound_by t rs p
  unfolding outbound_by
  outbound_alike f = by (read_packet Out p) refl
    where
      by : (r : Option Packet) → read_packet Out p ≡ r → outbound_read s qs r ≡ outbound_read t rs r
      by (Some k) e = rw (f k e) (action_alike (shows k) (t (shows k)))
      by None e = refl

  inbound_alike : (a : ℕ) → ((k : Packet) → read_packet In p ≡ Some k → s (shows k) ≡ t (shows k)) → inbound_by s a qs p ≡ inbound_by t a rs p
  unfolding inbound_by to_ipsec
  inbound_alike a f = by (read_packet In p) refl
    where
      by : (r : Option Packet) → read_packet In p ≡ r → inbound_read s a qs p r ≡ inbound_read t a rs p r
      by (Some k) e = rw (f k e, live_alike qs rs h (number k.selectors.protocol) (spi_of p k))
      by None e = refl

pub from_sa_alike : (qs rs : List Pair) (h : Alike qs rs) (protocol spi : ℕ) (p : List ℕ) → from_sa_by protocol spi qs p ≡ from_sa_by protocol spi rs p
unfolding from_sa_by
from_sa_alike qs rs h protocol spi p =
    rw (live_alike qs rs h protocol spi) (ap (λ (v : Verdict). cond (live protocol spi rs) v NoSuchPair) (by (read_packet In p)))
  where
    triggered : (r : Option Packet) → trigger_read (fits_pair protocol spi qs) r ≡ trigger_read (fits_pair protocol spi rs) r
    triggered (Some k) = rw (fitting_alike qs rs h protocol spi (shows k))
    triggered None = refl

    by : (r : Option Packet) → from_sa_read protocol spi qs p r ≡ from_sa_read protocol spi rs p r
    by (Some k) = rw (fitting_alike qs rs h protocol spi (shows k), triggered (read_trigger Out (trigger_of p k.upper k.end)))
    by None = refl

-- The gateway after a sequence of calls.
abbrev pub now : ℕ → ℕ → ℕ → List Call → Gateway
now capacity limit address cs = run capacity limit (fresh capacity address) cs

module _ (capacity limit : ℕ) (bound : limit ≤ capacity) (address : ℕ) (cs : List Call) where
  abbrev gateway : Gateway
  gateway = now capacity limit address cs

  -- 'In any sequence of lookups, policy changes and association changes, the cached answer is the one that an ordered search of the
  -- current policy gives.'
  pub cached-search : (d : Direction) (vs : List ℕ) → Combination (edition_sizes (current limit cs).edition) vs
      → (looked_up (cache_of d gateway.caches) (rows_of capacity gateway.spd d) d vs).action ≡ ordered_search d (current limit cs).entries vs
  cached-search = search_sound capacity limit bound address (current limit cs) gateway (sound capacity limit bound address cs)

  alike : Alike (pairs gateway.sad) (live_pairs cs)
  alike = pairs-live capacity limit address cs

  module _ (p : List ℕ) (bytes : Bytes p) where
    pub outbound-answer : (goes_out capacity gateway p).verdict ≡ outbound_by (ordered_search Out (current limit cs).entries) (live_pairs cs) p
    unfolding outbound_cached
    outbound-answer = outbound_alike _ _ _ _ alike p (λ k e. cached-search Out (shows k) (fields-shown (current limit cs).edition (shows k) (shows-combination Out p k bytes e)))

    pub inbound-answer : (comes_in capacity gateway p).verdict ≡ inbound_by (ordered_search In (current limit cs).entries) address (live_pairs cs) p
    unfolding inbound_cached
    inbound-answer =
        inbound_alike _ _ _ _ alike p (address_of gateway.spd) (λ k e. cached-search In (shows k) (fields-shown (current limit cs).edition (shows k) (shows-combination In p k bytes e)))
        ∙ ap (λ (a : ℕ). inbound_by (ordered_search In (current limit cs).entries) a (live_pairs cs) p) (address_kept capacity limit address (current limit cs) gateway (sound capacity limit bound address cs))

  -- The answer to the next call, whatever it is, is the one that document 01 and RFC 4301 give: by the ordered search of the current policy and
  -- the live pairs, with no cache, table or normal form in sight.
  pub next-answer : (c : Call) → OfBytes c → answered capacity limit gateway c ≡ ruled limit address (current limit cs) (live_pairs cs) c
  unfolding answered
  next-answer (policy s) b = refl
  next-answer (add p) b = ap for_pair (add_alike _ _ alike p)
  next-answer (remove protocol spi) b = ap for_pair (remove_alike _ _ alike protocol spi)
  next-answer (outbound p) b = ap for_packet (outbound-answer p b)
  next-answer (inbound p) b = ap for_packet (inbound-answer p b)
  next-answer (comes_from_sa protocol spi p) b = ap for_packet (from_sa_alike _ _ alike protocol spi p)
