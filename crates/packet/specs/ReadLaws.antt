-- Laws of reading a packet. Assumes nothing.
use Rattle.std.specs.Prelude.{Option, Some, None, ℕ, ◌+◌, ◌≤◌, ◌<◌, min, ◌≡◌, ◌≢◌, ◌⊎◌, ◌↔◌, refl, Bool, false, cond, ◌&&◌, List, ◌++◌, eqb, length, take}
use Rattle.std.proofs.Common.{arith, sym, ap, ◌∙◌, inl, inr, length-append, length-take-le, get_or-take}
use Rattle.std.proofs.Math.Decide.{dec_lt, ℕ_discrete}
use Rattle.std.proofs.Math.Bool.{true}
use Rattle.std.proofs.lemmas.Bool.{false≢true}
use Rattle.std.proofs.Math.ListN.{get_or-append}
use borrow.Author.Tests.{leb-true, le-leb, eqb-true}
use Rattle.selectors.specs.Range.{absent, address_size, protocol_size, port_size}
use Rattle.selectors.proofs.RangeLaws.{both_true}
use Rattle.selectors.specs.Value.{number}
use Rattle.selectors.proofs.ValueLaws.{number-lower}
use Rattle.selectors.specs.declared.Value.{Value}
use Rattle.selectors.specs.declared.Fields.{Fields}
use Rattle.selectors.specs.declared.Direction.{Direction}
use Rattle.selectors.specs.declared.Direction.TheVariants.{Out, In}
use Rattle.packet.specs.Header.{Bytes, byte, two, four, total_length_at, flags_at, protocol_at, source_at, destination_at, shortest_header, header_end, total_length, fragment_offset, protocol, source, destination}
use Rattle.packet.specs.Read.{Shown, ports, type_and_code, nothing, ports_bytes, destination_port_at, type_and_code_bytes, shown, header_good, readable, trigger_readable, carries_ports, is_icmp, local, remote, local_port_of, remote_port_of, value, packet_of, read_packet, read_trigger}
use Rattle.packet.specs.StepsLaws.{Inside, good_header, good-field, good_upper, ports_not_icmp, shown_each, shown_later, shown-ports, shown_few-ports, shown_type, shown_few_type, shown_other}
use Rattle.packet.specs.declared.Packet.{Packet}

-- What a packet that was read shows: all of the definition, with an upper part that lies in the bytes.
pub record Shows (d : Direction) (p : List ℕ) (k : Packet) : Type 0 where
  pub end : ℕ
  pub inside : Inside p end
  pub is : packet_of d p end ≡ k

cond-readable : (b : Bool) (k' k : Packet) → cond b (Some k') None ≡ Some k → (b ≡ true) × (k' ≡ k)
cond-readable true k' k e = (refl, (cc))
cond-readable false k' k e = let z : ◌≡◌ {A = ℕ} 0 1 = cc in absurd (omega arith)

-- A packet that was read ends at its total length.
pub packet-shows : (d : Direction) (p : List ℕ) (k : Packet) → read_packet d p ≡ Some k → Shows d p k
unfolding read_packet readable
packet-shows d p k e =
    let r = cond-readable _ _ k e in
    let b = both_true (header_good p) _ r.0 in
    record {
      end = total_length p;
      inside =
          record {
            header = good_header p b.0;
            upper = good_upper p b.0;
            within = leb-true _ _ b.1;
          };
      is = r.1;
    }

-- A triggering header that was read ends there too, or at the last byte.
pub trigger-shows : (d : Direction) (p : List ℕ) (k : Packet) → read_trigger d p ≡ Some k → Shows d p k
unfolding read_trigger trigger_readable
trigger-shows d p k e =
    let r = cond-readable _ _ k e in
    let b = both_true (header_good p) _ r.0 in
    let h : header_end p ≤ length p = leb-true _ _ b.1 in
    let u : header_end p ≤ total_length p = good_upper p b.0 in
    record {
      end = min (total_length p) (length p);
      inside = record { header = good_header p b.0; upper = omega arith; within = omega arith };
      is = r.1;
    }

-- Its upper part lies in the bytes.
pub upper_inside : (d : Direction) (p : List ℕ) (k : Packet) → Shows d p k → (k.upper ≤ k.end) × (k.end ≤ length p)
upper_inside d p k s = rw (sym s.is) (s.inside.upper, s.inside.within)

-- Reading out and in: local and remote change places, except that ICMP's local port, type * 256 + code, stays.
abbrev pub opposite : Direction → Direction
opposite Out = In
opposite In = Out

unfoldable pub turned : Packet → Packet
turned k =
    let s = k.selectors in
    let icmp = is_icmp (number s.protocol) in
    record {
      selectors =
          record {
            local = s.remote;
            remote = s.local;
            protocol = s.protocol;
            local_port = cond icmp s.local_port s.remote_port;
            remote_port = cond icmp s.remote_port s.local_port;
          };
      offset = k.offset;
      more_fragments = k.more_fragments;
      upper = k.upper;
      end = k.end;
    }

unfoldable pub turned_reading : Option Packet → Option Packet
turned_reading (Some k) = Some (turned k)
turned_reading None = None

-- Ports are shown by other protocols than ICMP alone, and a type and code by ICMP alone.
abbrev Kind : Bool → Shown → Type 0
Kind icmp (ports s t) = icmp ≡ false
Kind icmp (type_and_code n) = icmp ≡ true
Kind icmp nothing = Unit

shown_kind : (p : List ℕ) (end : ℕ) → Kind (is_icmp (protocol p)) (shown p end)
shown_kind p end = shown_each p end (Kind (is_icmp (protocol p))) (ports_not_icmp (protocol p)) (λ e. e) tt

local-opposite : (d : Direction) (s t : ℕ) → local (opposite d) s t ≡ remote d s t
local-opposite Out s t = refl
local-opposite In s t = refl

remote-opposite : (d : Direction) (s t : ℕ) → remote (opposite d) s t ≡ local d s t
remote-opposite Out s t = refl
remote-opposite In s t = refl

local_port-opposite : (icmp : Bool) (d : Direction) (s : Shown) → Kind icmp s
    → value (local_port_of (opposite d) s) ≡ cond icmp (value (local_port_of d s)) (value (remote_port_of d s))
local_port-opposite icmp d (ports s t) e = rw (e, local-opposite d s t)
local_port-opposite icmp d (type_and_code n) e = rw e
local_port-opposite true d nothing e = refl
local_port-opposite false d nothing e = refl

remote_port-opposite : (icmp : Bool) (d : Direction) (s : Shown) → Kind icmp s
    → value (remote_port_of (opposite d) s) ≡ cond icmp (value (remote_port_of d s)) (value (local_port_of d s))
remote_port-opposite icmp d (ports s t) e = rw (e, remote-opposite d s t)
remote_port-opposite icmp d (type_and_code n) e = rw e
remote_port-opposite true d nothing e = refl
remote_port-opposite false d nothing e = refl

packet_of-opposite : (d : Direction) (p : List ℕ) (end : ℕ) → packet_of (opposite d) p end ≡ turned (packet_of d p end)
unfolding turned
packet_of-opposite d p end =
    rw (
      local-opposite d (source p) (destination p),
      remote-opposite d (source p) (destination p),
      local_port-opposite _ d (shown p end) (shown_kind p end),
      remote_port-opposite _ d (shown p end) (shown_kind p end),
      number-lower (value (protocol p)) refl,
    )

cond-turned : (b : Bool) (k' k : Packet) → k' ≡ turned k
    → cond b (Some k') None ≡ turned_reading (cond b (Some k) None)
unfolding turned_reading
cond-turned true k' k e = ap Some e
cond-turned false k' k e = refl

pub read-opposite : (d : Direction) (p : List ℕ) → read_packet (opposite d) p ≡ turned_reading (read_packet d p)
unfolding read_packet
read-opposite d p = cond-turned (readable p) _ _ (packet_of-opposite d p (total_length p))

pub trigger-opposite : (d : Direction) (p : List ℕ) → read_trigger (opposite d) p ≡ turned_reading (read_trigger d p)
unfolding read_trigger
trigger-opposite d p = cond-turned (trigger_readable p) _ _ (packet_of-opposite d p (min (total_length p) (length p)))

-- Bytes past the total length do not matter.
cond_alike : {A : Type 0} (b : Bool) (x x' y y' : A) → (b ≡ true → x ≡ x') → y ≡ y' → cond b x y ≡ cond b x' y'
cond_alike true x x' y y' e f = e refl
cond_alike false x x' y y' e f = f

module _ (p q : List ℕ) (n : ℕ) (alike : (i : ℕ) → i < n → byte p i ≡ byte q i) where
  two_alike : (i : ℕ) → i + 2 ≤ n → two p i ≡ two q i
  unfolding two
  two_alike i h = rw (alike i (omega arith), alike (i + 1) (omega arith))

  four_alike : (i : ℕ) → i + 4 ≤ n → four p i ≡ four q i
  unfolding four
  four_alike i h = rw (two_alike i (omega arith), two_alike (i + 2) (omega arith))

  header_good_alike : shortest_header ≤ n → n ≤ length p → n ≤ length q → header_good p ≡ header_good q
  unfolding header_good
  header_good_alike h l m =
      rw (le-leb shortest_header (length p) (omega arith), le-leb shortest_header (length q) (omega arith), alike 0 (omega arith), two_alike total_length_at (omega arith))

  shown_alike : (end : ℕ) → shortest_header ≤ n → end ≤ n → shown p end ≡ shown q end
  unfolding shown
  shown_alike end h l =
      rw (alike 0 (omega arith), alike flags_at (omega arith), alike (flags_at + 1) (omega arith), alike protocol_at (omega arith))
      (cond_alike _ _ _ _ _
      (λ e. let f : header_end q + ports_bytes ≤ end = leb-true _ _ (upper (carries_ports (protocol q)) _ e) in
      rw (two_alike (header_end q) (omega arith), two_alike (header_end q + destination_port_at) (omega arith)))
      (cond_alike _ _ _ _ _
      (λ e. let f : header_end q + type_and_code_bytes ≤ end = leb-true _ _ (upper (is_icmp (protocol q)) _ e) in
      rw (two_alike (header_end q) (omega arith)))
      refl))
    where
      upper : (b c : Bool) → (eqb (fragment_offset q) 0 && (b && c)) ≡ true → c ≡ true
      upper b c e = (both_true b c (both_true (eqb (fragment_offset q) 0) (b && c) e).1).1

  packet_of_alike : (d : Direction) (end : ℕ) → shortest_header ≤ n → end ≤ n → packet_of d p end ≡ packet_of d q end
  packet_of_alike d end h l =
      rw (
        four_alike source_at (omega arith),
        four_alike destination_at (omega arith),
        shown_alike end h l,
        alike 0 (omega arith),
        alike flags_at (omega arith),
        alike (flags_at + 1) (omega arith),
        alike protocol_at (omega arith),
      )

-- Two packets that are alike up to the total length of one that is readable read alike.
pub read_alike : (d : Direction) (p q : List ℕ) → readable p ≡ true → total_length p ≤ length q
    → ((i : ℕ) → i < total_length p → byte p i ≡ byte q i) → read_packet d p ≡ read_packet d q
unfolding read_packet readable
read_alike d p q e l alike =
    let n = total_length p in
    let g = both_true (header_good p) _ e in
    let h : shortest_header ≤ n = omega (arith, good-field p g.0, good_upper p g.0) in
    let t : n ≡ total_length q = two_alike p q n alike total_length_at (omega arith) in
    let g' : header_good q ≡ true = sym (header_good_alike p q n alike h (leb-true _ _ g.1) l) ∙ g.0 in
    let l' : total_length q ≤ length q = omega arith in
    rw (e, g', le-leb (total_length q) (length q) l')
    (ap Some (packet_of_alike p q n alike d n h (omega arith) ∙ ap (packet_of d q) t))

-- So what is appended to a readable packet is not seen, and the total length is all that is needed of one.
pub read-append : (d : Direction) (p q : List ℕ) → readable p ≡ true → read_packet d (p ++ q) ≡ read_packet d p
unfolding readable
read-append d p q e =
    let h : total_length p ≤ length p = leb-true _ _ (both_true (header_good p) _ e).1 in
    sym (read_alike d p (p ++ q) e (omega (arith, length-append p q)) (λ i l. sym (get_or-append p q 0 i (omega arith))))

pub read_take : (d : Direction) (p : List ℕ) → readable p ≡ true → read_packet d (take (total_length p) p) ≡ read_packet d p
unfolding readable
read_take d p e =
    let n = total_length p in
    let h : n ≤ length p = leb-true _ _ (both_true (header_good p) _ e).1 in
    sym (read_alike d p (take n p) e (omega (arith, length-take-le n p h)) (λ i l. sym (get_or-take n p i 0 l)))

-- A later fragment shows no port.
pub later-shows_no_port : (d : Direction) (p : List ℕ) (k : Packet) → Shows d p k → (k.offset ≡ 0 → ⊥)
    → (k.selectors.local_port ≡ value absent) × (k.selectors.remote_port ≡ value absent)
later-shows_no_port d p k s n =
    let e = shown_later p s.end (λ z. n (ap (λ (j : Packet). j.offset) (sym s.is) ∙ z)) in
    rw (sym s.is, e) (refl, refl)

two_below : (p : List ℕ) → Bytes p → (i : ℕ) → two p i < 65536
unfolding two
two_below p b i = omega (arith, b i, b (i + 1))

four_below : (p : List ℕ) → Bytes p → (i : ℕ) → four p i < address_size
unfolding four
four_below p b i = omega (arith, two_below p b i, two_below p b (i + 2))

-- What is shown is below 65,536, and so never the absent port.
abbrev pub Below : Shown → Type 0
Below (ports s t) = (s < absent) × (t < absent)
Below (type_and_code n) = n < absent
Below nothing = Unit

pub shown_below : (p : List ℕ) → Bytes p → (end : ℕ) → Below (shown p end)
shown_below p b end =
    let two_at = two_below p b in
    shown_each p end Below (λ e. (two_at (header_end p), two_at (header_end p + destination_port_at))) (λ e. two_at (header_end p)) tt

-- Each value that is read is one of its field: a port is below 65,536 or is absent.
pub record InFields (s : Fields Value) : Type 0 where
  pub local : number s.local < address_size
  pub remote : number s.remote < address_size
  pub protocol : number s.protocol < protocol_size
  pub local-port : number s.local_port < port_size
  pub remote-port : number s.remote_port < port_size

number_below : (n S : ℕ) → n < S → number (value n) < S
number_below n S h = rw (number-lower (value n) refl) h

local_below : (d : Direction) (s t S : ℕ) → s < S → t < S → local d s t < S
local_below Out s t S h h' = h
local_below In s t S h h' = h'

remote_below : (d : Direction) (s t S : ℕ) → s < S → t < S → remote d s t < S
remote_below Out s t S h h' = h'
remote_below In s t S h h' = h

local_port_below : (d : Direction) (s : Shown) → Below s → local_port_of d s < port_size
local_port_below d (ports s t) b = local_below d s t port_size (omega arith) (omega arith)
local_port_below d (type_and_code n) b = omega arith
local_port_below d nothing b = omega arith

remote_port_below : (d : Direction) (s : Shown) → Below s → remote_port_of d s < port_size
remote_port_below d (ports s t) b = remote_below d s t port_size (omega arith) (omega arith)
remote_port_below d (type_and_code n) b = omega arith
remote_port_below d nothing b = omega arith

pub read_in_fields : (d : Direction) (p : List ℕ) (k : Packet) → Bytes p → Shows d p k → InFields k.selectors
read_in_fields d p k b s =
    let w = shown_below p b s.end in
    rw (sym s.is)
    record {
      local = number_below _ _ (local_below d _ _ _ (four_below p b source_at) (four_below p b destination_at));
      remote = number_below _ _ (remote_below d _ _ _ (four_below p b source_at) (four_below p b destination_at));
      protocol = number_below _ _ (b protocol_at);
      local-port = number_below _ _ (local_port_below d (shown p s.end) w);
      remote-port = number_below _ _ (remote_port_below d (shown p s.end) w);
    }

-- Where nothing is shown, and where no remote port is.
icmp_not_ports : (n : ℕ) → is_icmp n ≡ true → carries_ports n ≡ false
icmp_not_ports n i = by (carries_ports n) refl
  where
    by : (b : Bool) → carries_ports n ≡ b → carries_ports n ≡ false
    by true h = absurd (false≢true (sym (ports_not_icmp n h) ∙ i))
    by false h = h

module _ (d : Direction) (p : List ℕ) (end : ℕ) where
  abbrev NoLocal : Type 0
  NoLocal =
      (fragment_offset p ≢ 0)
      ⊎ ((carries_ports (protocol p) ≡ false) × (is_icmp (protocol p) ≡ false))
      ⊎ ((carries_ports (protocol p) ≡ true) × (end < header_end p + ports_bytes))
      ⊎ ((is_icmp (protocol p) ≡ true) × (end < header_end p + type_and_code_bytes))

  abbrev NoRemote : Type 0
  NoRemote = (fragment_offset p ≢ 0) ⊎ (carries_ports (protocol p) ≡ false) ⊎ (end < header_end p + ports_bytes)

  no_local : NoLocal → shown p end ≡ nothing
  no_local (inl n) = shown_later p end n
  no_local (inr (inl h)) = shown_other p end h.0 h.1
  no_local (inr (inr (inl h))) = shown_few-ports p end h.0 h.1
  no_local (inr (inr (inr h))) = shown_few_type p end (icmp_not_ports (protocol p) h.0) h.1

  no_remote_ports : carries_ports (protocol p) ≡ false → remote_port_of d (shown p end) ≡ absent
  no_remote_ports h = shown_each p end (λ s. remote_port_of d s ≡ absent) (λ e. absurd (false≢true (sym h ∙ e))) (λ e. refl) refl

  no_remote : NoRemote → remote_port_of d (shown p end) ≡ absent
  no_remote (inl n) = rw (shown_later p end n)
  no_remote (inr (inl h)) = no_remote_ports h
  no_remote (inr (inr l)) = by (carries_ports (protocol p)) refl
    where
      by : (b : Bool) → carries_ports (protocol p) ≡ b → remote_port_of d (shown p end) ≡ absent
      by true h = rw (shown_few-ports p end h l)
      by false h = no_remote_ports h

  module _ (b : Bytes p) where
    local_none : local_port_of d (shown p end) ≡ absent → NoLocal
    local_none e =
        by (ℕ_discrete (fragment_offset p) 0) (carries_ports (protocol p)) refl (is_icmp (protocol p)) refl
        (dec_lt end (header_end p + ports_bytes)) (dec_lt end (header_end p + type_and_code_bytes))
      where
        by : Dec (fragment_offset p ≡ 0) → (h : Bool) → carries_ports (protocol p) ≡ h → (i : Bool) → is_icmp (protocol p) ≡ i
            → Dec (end < header_end p + ports_bytes) → Dec (end < header_end p + type_and_code_bytes) → NoLocal
        by (no n) h eh i ei l m = inl n
        by (yes o) true h i ei (yes l) m = inr (inr (inl (h, l)))
        by (yes o) true h i ei (no l) m =
            let at = two_below p b in
            let z : local d (two p (header_end p)) (two p (header_end p + destination_port_at)) ≡ absent = rw (shown-ports p end o h (omega arith)) at e in
            absurd (omega (arith, local_below d _ _ absent (at (header_end p)) (at (header_end p + destination_port_at))))
        by (yes o) false h false i l m = inr (inl (h, i))
        by (yes o) false h true i l (yes m) = inr (inr (inr (i, m)))
        by (yes o) false h true i l (no m) =
            let z : two p (header_end p) ≡ absent = rw (shown_type p end o h (eqb-true _ _ i) (omega arith)) at e in
            absurd (omega (arith, two_below p b (header_end p)))

    remote_none : remote_port_of d (shown p end) ≡ absent → NoRemote
    remote_none e = by (ℕ_discrete (fragment_offset p) 0) (carries_ports (protocol p)) refl (dec_lt end (header_end p + ports_bytes))
      where
        by : Dec (fragment_offset p ≡ 0) → (h : Bool) → carries_ports (protocol p) ≡ h → Dec (end < header_end p + ports_bytes) → NoRemote
        by (no n) h eh l = inl n
        by (yes o) h eh (yes l) = inr (inr l)
        by (yes o) false h (no l) = inr (inl h)
        by (yes o) true h (no l) =
            let at = two_below p b in
            let z : remote d (two p (header_end p)) (two p (header_end p + destination_port_at)) ≡ absent = rw (shown-ports p end o h (omega arith)) at e in
            absurd (omega (arith, remote_below d _ _ absent (at (header_end p)) (at (header_end p + destination_port_at))))

packet_is : (d : Direction) (p : List ℕ) (k : Packet) → read_packet d p ≡ Some k → packet_of d p (total_length p) ≡ k
unfolding read_packet
packet_is d p k e = (cond-readable (readable p) _ k e).1

-- 'Other protocols, a fragment offset other than 0, or too few upper bytes: both absent', and at no other time; ICMP's 'remote port is absent'.
module _ (d : Direction) (p : List ℕ) (k : Packet) (b : Bytes p) (e : read_packet d p ≡ Some k) where
  pub local_port-absent : (number k.selectors.local_port ≡ absent)
      ↔ ((fragment_offset p ≢ 0)
      ⊎ ((carries_ports (protocol p) ≡ false) × (is_icmp (protocol p) ≡ false))
      ⊎ ((carries_ports (protocol p) ≡ true) × (total_length p < header_end p + ports_bytes))
      ⊎ ((is_icmp (protocol p) ≡ true) × (total_length p < header_end p + type_and_code_bytes)))
  local_port-absent =
      rw (sym (packet_is d p k e), number-lower (value (local_port_of d (shown p (total_length p)))) refl)
      (local_none d p (total_length p) b, λ h. ap (local_port_of d) (no_local d p (total_length p) h))

  pub remote_port-absent : (number k.selectors.remote_port ≡ absent)
      ↔ ((fragment_offset p ≢ 0) ⊎ (carries_ports (protocol p) ≡ false) ⊎ (total_length p < header_end p + ports_bytes))
  remote_port-absent =
      rw (sym (packet_is d p k e), number-lower (value (remote_port_of d (shown p (total_length p)))) refl)
      (remote_none d p (total_length p) b, no_remote d p (total_length p))
