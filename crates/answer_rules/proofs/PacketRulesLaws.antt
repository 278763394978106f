-- The rules of the three packet calls, a rule for each verdict: the verdict's own rule holds, and no other's. Assumes nothing.
use Rattle.std.specs.Prelude.{ℕ, ◌≡◌, Bool, cond, List, ◌⊎◌, ltb, Option, Some, None}
use Rattle.std.proofs.Math.Path.{refl}
use Rattle.std.proofs.Common.{◌∙◌, inl, inr}
use Rattle.std.proofs.Math.Bool.{true, false}
use Rattle.selectors.specs.declared.Direction.TheVariants.{Out, In}
use Rattle.policy.specs.declared.Action.{Action}
use Rattle.policy.specs.declared.Action.TheVariants.{Discard, Bypass, Protect as ProtectWith}
use Rattle.packet.specs.Read.{read_packet, read_trigger, icmp_error}
use Rattle.packet.specs.declared.Packet.{Packet}
use Rattle.sad.specs.Pairs.{Pair, live, fitting, pair_for}
use Rattle.sad.specs.declared.Sa.{Sa}
use Rattle.verdicts.specs.Calls.{shows, protected, outbound_action, outbound_read, outbound_by, esp, spi_of, to_ipsec, inbound_action, inbound_read, inbound_by, fits_pair, trigger_read, from_sa_read, from_sa_by}
use Rattle.verdicts.specs.declared.Verdict.{Verdict}
use Rattle.verdicts.specs.declared.Verdict.TheVariants.{Pass, Deliver, Protect, Wanted, ToIpsec, NotReadable, Discarded, CameInClear, NoSuchPair, DoesNotFit, IpsecFragment, IpsecTooShort, TriggerUnreadable, TriggerDoesNotFit}
use Rattle.answer_rules.proofs.DecidesLaws.{Decides, holding, failing, is_true, is_false}
use Rattle.answer_rules.specs.Terms.{ReadablePacket, ReadableHeader, protocol_of, type_and_code, ForGateway, Fragment, TooShort, upper_bytes, IcmpError, returned}
use Rattle.answer_rules.proofs.ExactlyLaws.{Ruled}
use Rattle.answer_rules.proofs.TermsLaws.{unreadable, header_unreadable, gateway_decides, fragment_decides, short_decides, icmp_decides}

-- Going out.
abbrev pub OutboundRule : (List ℕ → Action) → List Pair → List ℕ → Verdict → Type 0
OutboundRule search pairs p Pass = (k : Packet) × (read_packet Out p ≡ Some k) × (search (shows k) ≡ Bypass)
OutboundRule search pairs p Deliver = ⊥
OutboundRule search pairs p (Protect n protocol spi) =
    (k : Packet) × (read_packet Out p ≡ Some k) × (search (shows k) ≡ ProtectWith n) × (pair_for n (shows k) pairs ≡ Some (record { protocol = protocol; spi = spi }))
OutboundRule search pairs p (Wanted n) =
    (k : Packet) × (read_packet Out p ≡ Some k) × (search (shows k) ≡ ProtectWith n) × (pair_for n (shows k) pairs ≡ None)
OutboundRule search pairs p (ToIpsec protocol spi) = ⊥
OutboundRule search pairs p NotReadable = ¬ (ReadablePacket p)
OutboundRule search pairs p Discarded = (k : Packet) × (read_packet Out p ≡ Some k) × (search (shows k) ≡ Discard)
OutboundRule search pairs p CameInClear = ⊥
OutboundRule search pairs p NoSuchPair = ⊥
OutboundRule search pairs p DoesNotFit = ⊥
OutboundRule search pairs p IpsecFragment = ⊥
OutboundRule search pairs p IpsecTooShort = ⊥
OutboundRule search pairs p TriggerUnreadable = ⊥
OutboundRule search pairs p TriggerDoesNotFit = ⊥

module _ (search : List ℕ → Action) (pairs : List Pair) (p : List ℕ) where
  outbound-holds : OutboundRule search pairs p (outbound_by search pairs p)
  unfolding outbound_by
  outbound-holds = by (read_packet Out p) refl
    where
      paired : (k : Packet) → read_packet Out p ≡ Some k → (n : ℕ) → search (shows k) ≡ ProtectWith n
          → (f : Option Sa) → pair_for n (shows k) pairs ≡ f → OutboundRule search pairs p (protected n f)
      paired k r n s (Some sa) f = (k, r, s, f)
      paired k r n s None f = (k, r, s, f)

      acted : (k : Packet) → read_packet Out p ≡ Some k → (a : Action) → search (shows k) ≡ a
          → OutboundRule search pairs p (outbound_action pairs (shows k) a)
      acted k r Bypass s = (k, r, s)
      acted k r Discard s = (k, r, s)
      acted k r (ProtectWith n) s = paired k r n s (pair_for n (shows k) pairs) refl

      by : (r : Option Packet) → read_packet Out p ≡ r → OutboundRule search pairs p (outbound_read search pairs r)
      by (Some k) r = acted k r (search (shows k)) refl
      by None r = (unreadable Out p).0 r

  outbound_only : (v : Verdict) → OutboundRule search pairs p v → outbound_by search pairs p ≡ v
  unfolding outbound_by
  outbound_only Pass h = rw (h.1, h.2)
  outbound_only Deliver h = absurd h
  outbound_only (Protect n protocol spi) h = rw (h.1, h.2, h.3)
  outbound_only (Wanted n) h = rw (h.1, h.2, h.3)
  outbound_only (ToIpsec protocol spi) h = absurd h
  outbound_only NotReadable h = rw ((unreadable Out p).1 h)
  outbound_only Discarded h = rw (h.1, h.2)
  outbound_only CameInClear h = absurd h
  outbound_only NoSuchPair h = absurd h
  outbound_only DoesNotFit h = absurd h
  outbound_only IpsecFragment h = absurd h
  outbound_only IpsecTooShort h = absurd h
  outbound_only TriggerUnreadable h = absurd h
  outbound_only TriggerDoesNotFit h = absurd h

  pub outbound-ruled : Ruled (OutboundRule search pairs p) (outbound_by search pairs p)
  outbound-ruled = record { holds = outbound-holds; only = outbound_only }

-- Coming in from outside.
abbrev pub InboundRule : (List ℕ → Action) → ℕ → List Pair → List ℕ → Verdict → Type 0
InboundRule search address pairs p Pass =
    (k : Packet) × (read_packet In p ≡ Some k) × (¬ (ForGateway address k)) × (search (shows k) ≡ Bypass)
InboundRule search address pairs p Deliver = ⊥
InboundRule search address pairs p (Protect n protocol spi) = ⊥
InboundRule search address pairs p (Wanted n) = ⊥
InboundRule search address pairs p (ToIpsec protocol spi) =
    (k : Packet) × (read_packet In p ≡ Some k) × ForGateway address k × (¬ (Fragment k)) × (¬ (TooShort k))
    × (protocol_of k ≡ protocol) × (spi_of p k ≡ spi) × (live protocol spi pairs ≡ true)
InboundRule search address pairs p NotReadable = ¬ (ReadablePacket p)
InboundRule search address pairs p Discarded =
    (k : Packet) × (read_packet In p ≡ Some k) × (¬ (ForGateway address k)) × (search (shows k) ≡ Discard)
InboundRule search address pairs p CameInClear =
    (k : Packet) × (read_packet In p ≡ Some k) × (¬ (ForGateway address k)) × (n : ℕ) × (search (shows k) ≡ ProtectWith n)
InboundRule search address pairs p NoSuchPair =
    (k : Packet) × (read_packet In p ≡ Some k) × ForGateway address k × (¬ (Fragment k)) × (¬ (TooShort k))
    × (live (protocol_of k) (spi_of p k) pairs ≡ false)
InboundRule search address pairs p DoesNotFit = ⊥
InboundRule search address pairs p IpsecFragment = (k : Packet) × (read_packet In p ≡ Some k) × ForGateway address k × Fragment k
InboundRule search address pairs p IpsecTooShort =
    (k : Packet) × (read_packet In p ≡ Some k) × ForGateway address k × (¬ (Fragment k)) × TooShort k
InboundRule search address pairs p TriggerUnreadable = ⊥
InboundRule search address pairs p TriggerDoesNotFit = ⊥

module _ (search : List ℕ → Action) (address : ℕ) (pairs : List Pair) (p : List ℕ) where
  ipsec-holds : (k : Packet) → read_packet In p ≡ Some k → ForGateway address k → InboundRule search address pairs p (to_ipsec pairs p k)
  unfolding to_ipsec
  ipsec-holds k r g = by (fragment_decides k)
    where
      named : ¬ (Fragment k) → ¬ (TooShort k) → (b : Bool) → live (protocol_of k) (spi_of p k) pairs ≡ b
          → InboundRule search address pairs p (cond b (ToIpsec (protocol_of k) (spi_of p k)) NoSuchPair)
      named f s true l = (k, r, g, f, s, refl, refl, l)
      named f s false l = (k, r, g, f, s, l)

      long : ¬ (Fragment k) → {b : Bool} → Decides (TooShort k) b
          → InboundRule search address pairs p (cond b IpsecTooShort (cond (live (protocol_of k) (spi_of p k) pairs) (ToIpsec (protocol_of k) (spi_of p k)) NoSuchPair))
      long f (holding s) = (k, r, g, f, s)
      long f (failing s) = named f s (live (protocol_of k) (spi_of p k) pairs) refl

      by : {b : Bool} → Decides (Fragment k) b
          → InboundRule search address pairs p (cond b IpsecFragment (cond (ltb (upper_bytes k) (cond (esp k) 8 12)) IpsecTooShort
          (cond (live (protocol_of k) (spi_of p k) pairs) (ToIpsec (protocol_of k) (spi_of p k)) NoSuchPair)))
      by (holding f) = (k, r, g, f)
      by (failing f) = long f (short_decides address k g)

  inbound-holds : InboundRule search address pairs p (inbound_by search address pairs p)
  unfolding inbound_by
  inbound-holds = by (read_packet In p) refl
    where
      acted : (k : Packet) → read_packet In p ≡ Some k → ¬ (ForGateway address k) → (a : Action) → search (shows k) ≡ a
          → InboundRule search address pairs p (inbound_action a)
      acted k r g Bypass s = (k, r, g, s)
      acted k r g Discard s = (k, r, g, s)
      acted k r g (ProtectWith n) s = (k, r, g, n, s)

      told : (k : Packet) → read_packet In p ≡ Some k → {b : Bool} → Decides (ForGateway address k) b
          → InboundRule search address pairs p (cond b (to_ipsec pairs p k) (inbound_action (search (shows k))))
      told k r (holding g) = ipsec-holds k r g
      told k r (failing g) = acted k r g (search (shows k)) refl

      by : (r : Option Packet) → read_packet In p ≡ r → InboundRule search address pairs p (inbound_read search address pairs p r)
      by (Some k) r = told k r (gateway_decides address k)
      by None r = (unreadable In p).0 r

  -- AH or ESP for the gateway that is no fragment and long enough: the pair decides.
  ipsec-named : (k : Packet) → read_packet In p ≡ Some k → ForGateway address k → ¬ (Fragment k) → ¬ (TooShort k)
      → inbound_by search address pairs p ≡ cond (live (protocol_of k) (spi_of p k) pairs) (ToIpsec (protocol_of k) (spi_of p k)) NoSuchPair
  unfolding inbound_by to_ipsec
  ipsec-named k r g f s = rw (r, is_true (gateway_decides address k) g, is_false (fragment_decides k) f, is_false (short_decides address k g) s)

  inbound_only : (v : Verdict) → InboundRule search address pairs p v → inbound_by search address pairs p ≡ v
  unfolding inbound_by to_ipsec
  inbound_only Pass h = rw (h.1, is_false (gateway_decides address h.0) h.2, h.3)
  inbound_only Deliver h = absurd h
  inbound_only (Protect n protocol spi) h = absurd h
  inbound_only (Wanted n) h = absurd h
  inbound_only (ToIpsec protocol spi) h = ipsec-named h.0 h.1 h.2 h.3 h.4 ∙ rw (h.6, h.5, h.7)
  inbound_only NotReadable h = rw ((unreadable In p).1 h)
  inbound_only Discarded h = rw (h.1, is_false (gateway_decides address h.0) h.2, h.3)
  inbound_only CameInClear h = rw (h.1, is_false (gateway_decides address h.0) h.2, h.4)
  inbound_only NoSuchPair h = ipsec-named h.0 h.1 h.2 h.3 h.4 ∙ rw h.5
  inbound_only DoesNotFit h = absurd h
  inbound_only IpsecFragment h = rw (h.1, is_true (gateway_decides address h.0) h.2, is_true (fragment_decides h.0) h.3)
  inbound_only IpsecTooShort h =
      rw (h.1, is_true (gateway_decides address h.0) h.2, is_false (fragment_decides h.0) h.3, is_true (short_decides address h.0 h.2) h.4)
  inbound_only TriggerUnreadable h = absurd h
  inbound_only TriggerDoesNotFit h = absurd h

  pub inbound-ruled : Ruled (InboundRule search address pairs p) (inbound_by search address pairs p)
  inbound-ruled = record { holds = inbound-holds; only = inbound_only }

-- Coming in from an association.
abbrev pub FromSaRule : ℕ → ℕ → List Pair → List ℕ → Verdict → Type 0
FromSaRule protocol spi pairs p Pass = ⊥
FromSaRule protocol spi pairs p Deliver =
    (live protocol spi pairs ≡ true) × (k : Packet) × (read_packet In p ≡ Some k)
    × ((fitting protocol spi (shows k) pairs ≡ true)
    ⊎ (IcmpError k × (t : Packet) × (read_trigger Out (returned p k) ≡ Some t) × (fitting protocol spi (shows t) pairs ≡ true)))
FromSaRule protocol spi pairs p (Protect n q s) = ⊥
FromSaRule protocol spi pairs p (Wanted n) = ⊥
FromSaRule protocol spi pairs p (ToIpsec q s) = ⊥
FromSaRule protocol spi pairs p NotReadable = (live protocol spi pairs ≡ true) × (¬ (ReadablePacket p))
FromSaRule protocol spi pairs p Discarded = ⊥
FromSaRule protocol spi pairs p CameInClear = ⊥
FromSaRule protocol spi pairs p NoSuchPair = live protocol spi pairs ≡ false
FromSaRule protocol spi pairs p DoesNotFit =
    (live protocol spi pairs ≡ true) × (k : Packet) × (read_packet In p ≡ Some k) × (fitting protocol spi (shows k) pairs ≡ false)
    × (¬ (IcmpError k))
FromSaRule protocol spi pairs p IpsecFragment = ⊥
FromSaRule protocol spi pairs p IpsecTooShort = ⊥
FromSaRule protocol spi pairs p TriggerUnreadable =
    (live protocol spi pairs ≡ true) × (k : Packet) × (read_packet In p ≡ Some k) × (fitting protocol spi (shows k) pairs ≡ false)
    × IcmpError k × (¬ (ReadableHeader (returned p k)))
FromSaRule protocol spi pairs p TriggerDoesNotFit =
    (live protocol spi pairs ≡ true) × (k : Packet) × (read_packet In p ≡ Some k) × (fitting protocol spi (shows k) pairs ≡ false)
    × IcmpError k × (t : Packet) × (read_trigger Out (returned p k) ≡ Some t) × (fitting protocol spi (shows t) pairs ≡ false)

module _ (protocol spi : ℕ) (pairs : List Pair) (p : List ℕ) where
  returned-holds : live protocol spi pairs ≡ true → (k : Packet) → read_packet In p ≡ Some k → fitting protocol spi (shows k) pairs ≡ false
      → IcmpError k → FromSaRule protocol spi pairs p (trigger_read (fits_pair protocol spi pairs) (read_trigger Out (returned p k)))
  returned-holds l k r f i = by (read_trigger Out (returned p k)) refl
    where
      fits : (t : Packet) → read_trigger Out (returned p k) ≡ Some t → (b : Bool) → fitting protocol spi (shows t) pairs ≡ b
          → FromSaRule protocol spi pairs p (cond b Deliver TriggerDoesNotFit)
      fits t q true g = (l, k, r, inr (i, t, q, g))
      fits t q false g = (l, k, r, f, i, t, q, g)

      by : (q : Option Packet) → read_trigger Out (returned p k) ≡ q → FromSaRule protocol spi pairs p (trigger_read (fits_pair protocol spi pairs) q)
      by (Some t) q = fits t q (fitting protocol spi (shows t) pairs) refl
      by None q = (l, k, r, f, i, (header_unreadable Out (returned p k)).0 q)

  from_sa-holds : FromSaRule protocol spi pairs p (from_sa_by protocol spi pairs p)
  unfolding from_sa_by
  from_sa-holds = by (live protocol spi pairs) refl
    where
      errs : live protocol spi pairs ≡ true → (k : Packet) → read_packet In p ≡ Some k → fitting protocol spi (shows k) pairs ≡ false
          → {b : Bool} → Decides (IcmpError k) b
          → FromSaRule protocol spi pairs p (cond b (trigger_read (fits_pair protocol spi pairs) (read_trigger Out (returned p k))) DoesNotFit)
      errs l k r f (holding i) = returned-holds l k r f i
      errs l k r f (failing i) = (l, k, r, f, i)

      fits : live protocol spi pairs ≡ true → (k : Packet) → read_packet In p ≡ Some k → (b : Bool) → fitting protocol spi (shows k) pairs ≡ b
          → FromSaRule protocol spi pairs p (cond b Deliver
          (cond (icmp_error (protocol_of k) (type_and_code k)) (trigger_read (fits_pair protocol spi pairs) (read_trigger Out (returned p k))) DoesNotFit))
      fits l k r true f = (l, k, r, inl f)
      fits l k r false f = errs l k r f (icmp_decides k)

      reads : live protocol spi pairs ≡ true → (r : Option Packet) → read_packet In p ≡ r → FromSaRule protocol spi pairs p (from_sa_read protocol spi pairs p r)
      reads l (Some k) r = fits l k r (fitting protocol spi (shows k) pairs) refl
      reads l None r = (l, (unreadable In p).0 r)

      by : (b : Bool) → live protocol spi pairs ≡ b
          → FromSaRule protocol spi pairs p (cond b (from_sa_read protocol spi pairs p (read_packet In p)) NoSuchPair)
      by true l = reads l (read_packet In p) refl
      by false l = l

  -- What does not fit itself and is an ICMP error: the triggering header decides.
  error_read : live protocol spi pairs ≡ true → (k : Packet) → read_packet In p ≡ Some k → fitting protocol spi (shows k) pairs ≡ false
      → IcmpError k → from_sa_by protocol spi pairs p ≡ trigger_read (fits_pair protocol spi pairs) (read_trigger Out (returned p k))
  unfolding from_sa_by
  error_read l k r f i = rw (l, r, f, is_true (icmp_decides k) i)

  fits_read : live protocol spi pairs ≡ true → (k : Packet) → read_packet In p ≡ Some k → fitting protocol spi (shows k) pairs ≡ true
      → from_sa_by protocol spi pairs p ≡ Deliver
  unfolding from_sa_by
  fits_read l k r f = rw (l, r, f)

  delivered : FromSaRule protocol spi pairs p Deliver → from_sa_by protocol spi pairs p ≡ Deliver
  delivered h = by h.3 (fitting protocol spi (shows h.1) pairs) refl
    where
      by : (fitting protocol spi (shows h.1) pairs ≡ true)
          ⊎ (IcmpError h.1 × (t : Packet) × (read_trigger Out (returned p h.1) ≡ Some t) × (fitting protocol spi (shows t) pairs ≡ true))
          → (b : Bool) → fitting protocol spi (shows h.1) pairs ≡ b → from_sa_by protocol spi pairs p ≡ Deliver
      by (inl f) b e = fits_read h.0 h.1 h.2 f
      by (inr g) true e = fits_read h.0 h.1 h.2 e
      by (inr g) false e = error_read h.0 h.1 h.2 e g.0 ∙ rw (g.2, g.3)

  from_sa_only : (v : Verdict) → FromSaRule protocol spi pairs p v → from_sa_by protocol spi pairs p ≡ v
  unfolding from_sa_by
  from_sa_only Pass h = absurd h
  from_sa_only Deliver h = delivered h
  from_sa_only (Protect n q s) h = absurd h
  from_sa_only (Wanted n) h = absurd h
  from_sa_only (ToIpsec q s) h = absurd h
  from_sa_only NotReadable h = rw (h.0, (unreadable In p).1 h.1)
  from_sa_only Discarded h = absurd h
  from_sa_only CameInClear h = absurd h
  from_sa_only NoSuchPair h = rw h
  from_sa_only DoesNotFit h = rw (h.0, h.2, h.3, is_false (icmp_decides h.1) h.4)
  from_sa_only IpsecFragment h = absurd h
  from_sa_only IpsecTooShort h = absurd h
  from_sa_only TriggerUnreadable h = error_read h.0 h.1 h.2 h.3 h.4 ∙ rw ((header_unreadable Out (returned p h.1)).1 h.5)
  from_sa_only TriggerDoesNotFit h = error_read h.0 h.1 h.2 h.3 h.4 ∙ rw (h.6, h.7)

  pub from_sa-ruled : Ruled (FromSaRule protocol spi pairs p) (from_sa_by protocol spi pairs p)
  from_sa-ruled = record { holds = from_sa-holds; only = from_sa_only }
