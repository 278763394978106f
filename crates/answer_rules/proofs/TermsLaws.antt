-- The tests of the definitions decide document 01's conditions. Assumes nothing.
use Rattle.std.specs.Prelude.{ℕ, ◌*◌, ◌/◌, ◌≤◌, ◌<◌, ◌≡◌, refl, Bool, cond, ◌&&◌, List, ◌↔◌, ◌⊎◌, leb, ltb, length, Some, None}
use Rattle.std.proofs.Common.{arith, inl, inr}
use Rattle.selectors.specs.Range.{absent}
use Rattle.selectors.specs.declared.Direction.{Direction}
use Rattle.packet.specs.Header.{version, header_field, total_length}
use Rattle.packet.specs.Read.{header_good, readable, trigger_readable, read_packet, read_trigger, error_type, icmp_error}
use Rattle.packet.specs.declared.Packet.{Packet}
use Rattle.verdicts.specs.Calls.{esp, for_gateway, fragment}
use Rattle.answer_rules.proofs.DecidesLaws.{Decides, holding, failing, decides_iff, decides_not, decides_and, decides_or, decides_le, decides_lt, decides_eq, decides_flag}
use Rattle.answer_rules.specs.Terms.{ReadablePacket, ReadableHeader, protocol_of, type_and_code, ForGateway, Fragment, TooShort, upper_bytes, ErrorType, IcmpError}

module _ (p : List ℕ) where
  good_decides : (n : ℕ) → Decides (((20 ≤ length p) × ((version p ≡ 4) × ((5 ≤ header_field p) × (4 * header_field p ≤ total_length p)))) × (n ≤ length p)) (header_good p && leb n (length p))
  unfolding header_good
  good_decides n =
      decides_and (decides_and (decides_le 20 (length p)) (decides_and (decides_eq (version p) 4) (decides_and (decides_le 5 (header_field p)) (decides_le (4 * header_field p) (total_length p)))))
      (decides_le n (length p))

  readable_decides : Decides (ReadablePacket p) (readable p)
  unfolding readable
  readable_decides =
      decides_iff
      (λ h. record { bytes = h.0.0; version-4 = h.0.1.0; header-5 = h.0.1.1.0; header_within = h.0.1.1.1; total_lent = h.1 })
      (λ r. ((r.bytes, (r.version-4, (r.header-5, r.header_within))), r.total_lent))
      (good_decides (total_length p))

  header_decides : Decides (ReadableHeader p) (trigger_readable p)
  unfolding trigger_readable
  header_decides =
      decides_iff
      (λ h. record { bytes = h.0.0; version-4 = h.0.1.0; header-5 = h.0.1.1.0; header_within = h.0.1.1.1; header_whole = h.1 })
      (λ r. ((r.bytes, (r.version-4, (r.header-5, r.header_within))), r.header_whole))
      (good_decides (4 * header_field p))

-- What is not readable is just what is read as such.
not_read : {P : Type 0} {b : Bool} → Decides P b → (k : Packet) → (cond b (Some k) None ≡ None) ↔ (¬ P)
not_read (holding h) k = (λ e. let z : ◌≡◌ {A = ℕ} 0 1 = cc in absurd (omega arith), λ n. absurd (n h))
not_read (failing n) k = (λ e. n, λ m. refl)

pub unreadable : (d : Direction) (p : List ℕ) → (read_packet d p ≡ None) ↔ (¬ (ReadablePacket p))
unfolding read_packet
unreadable d p = not_read (readable_decides p) _

pub header_unreadable : (d : Direction) (p : List ℕ) → (read_trigger d p ≡ None) ↔ (¬ (ReadableHeader p))
unfolding read_trigger
header_unreadable d p = not_read (header_decides p) _

-- Coming in from outside.
pub gateway_decides : (address : ℕ) (k : Packet) → Decides (ForGateway address k) (for_gateway address k)
unfolding for_gateway
gateway_decides address k = decides_and (decides_eq _ address) (decides_or (decides_eq _ 50) (decides_eq _ 51))

pub fragment_decides : (k : Packet) → Decides (Fragment k) (fragment k)
fragment_decides k = decides_or (decides_not (decides_eq _ 0)) (decides_flag k.more_fragments)

pub short_decides : (address : ℕ) (k : Packet) → ForGateway address k → Decides (TooShort k) (ltb (upper_bytes k) (cond (esp k) 8 12))
short_decides address k g = by (decides_eq (protocol_of k) 50)
  where
    by : {b : Bool} → Decides (protocol_of k ≡ 50) b → Decides (TooShort k) (ltb (upper_bytes k) (cond b 8 12))
    by (holding e) = decides_iff (λ h. inl (e, h)) under (decides_lt (upper_bytes k) 8)
      where
        under : TooShort k → upper_bytes k < 8
        under (inl h) = h.1
        under (inr h) = omega arith
    by (failing n) = decides_iff (λ h. inr (ah g.1, h)) under (decides_lt (upper_bytes k) 12)
      where
        ah : (protocol_of k ≡ 50) ⊎ (protocol_of k ≡ 51) → protocol_of k ≡ 51
        ah (inl e) = absurd (n e)
        ah (inr e) = e

        under : TooShort k → upper_bytes k < 12
        under (inl h) = absurd (n h.0)
        under (inr h) = h.1

-- Coming in from an association.
error_decides : (t : ℕ) → Decides (ErrorType t) (error_type t)
unfolding error_type
error_decides t = decides_or (decides_eq t 3) (decides_or (decides_eq t 4) (decides_or (decides_eq t 5) (decides_or (decides_eq t 11) (decides_eq t 12))))

pub icmp_decides : (k : Packet) → Decides (IcmpError k) (icmp_error (protocol_of k) (type_and_code k))
unfolding icmp_error
icmp_decides k =
    decides_iff (λ h. (h.0, h.1.0, h.1.1)) (λ h. (h.0, (h.1, h.2)))
    (decides_and (decides_eq (protocol_of k) 1) (decides_and (decides_not (decides_eq (type_and_code k) absent)) (error_decides (type_and_code k / 256))))
