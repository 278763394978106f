-- What the definitions of reading say, by the tests that lead to each case. Assumes nothing.
use Rattle.std.specs.Prelude.{ℕ, ◌+◌, ◌*◌, ◌/◌, ◌≤◌, ◌<◌, ◌≡◌, true, false, cond, ◌&&◌, List, length}
use Rattle.std.proofs.Common.{arith}
use Rattle.std.proofs.Math.Decide.{ℕ_discrete}
use Rattle.std.proofs.Math.Path.{refl}
use Rattle.std.proofs.Math.Bool.{Bool, and-false}
use Rattle.std.proofs.lemmas.Bool.{false≢true}
use Rattle.std.proofs.lemmas.Bool.Decides.{nat_tests}
use Rattle.std.proofs.Math.Dec.{leb, eqb}
use Rattle.std.proofs.Math.ListN.{get_or-eq_default}
use borrow.Author.Tests.{leb-true, le-leb, lt-leb, eq-eqb, ne_eqb}
use Rattle.selectors.proofs.RangeLaws.{both_true}
use Rattle.selectors.specs.Value.{number}
use Rattle.selectors.specs.declared.Value.{Value}
use Rattle.selectors.specs.declared.Direction.{Direction}
use Rattle.selectors.specs.declared.Direction.TheVariants.{Out, In}
use Rattle.packet.specs.Header.{byte, two, shortest_header, shortest_field, ip_version, version, header_field, header_end, total_length, fragment_offset, protocol}
use Rattle.packet.specs.Read.{Shown, ports, type_and_code, nothing, ports_bytes, destination_port_at, type_and_code_bytes, shown, header_good, carries_ports, is_icmp, local, remote, error_type, icmp_error}

-- A header and an upper part up to `end` lie in the bytes.
pub record Inside (p : List ℕ) (end : ℕ) : Type 0 where
  pub header : shortest_header ≤ length p
  pub upper : header_end p ≤ end
  pub within : end ≤ length p

-- A good header has its least length, and ends by the total length.
pub good_header : (p : List ℕ) → header_good p ≡ true → shortest_header ≤ length p
unfolding header_good
good_header p e = leb-true _ _ (both_true _ _ e).0

good_fields : (p : List ℕ) → header_good p ≡ true → (leb shortest_field (header_field p) && leb (header_end p) (total_length p)) ≡ true
unfolding header_good
good_fields p e = (both_true (eqb (version p) ip_version) _ (both_true (leb shortest_header (length p)) _ e).1).1

pub good-field : (p : List ℕ) → header_good p ≡ true → shortest_field ≤ header_field p
good-field p e = leb-true _ _ (both_true _ _ (good_fields p e)).0

pub good_upper : (p : List ℕ) → header_good p ≡ true → header_end p ≤ total_length p
good_upper p e = leb-true _ _ (both_true (leb shortest_field (header_field p)) _ (good_fields p e)).1

-- Past the end two bytes are 0, and at the last byte the second one is.
pub two_past : (p : List ℕ) (i : ℕ) → length p ≤ i → two p i ≡ 0
unfolding two
two_past p i h = let h' : length p ≤ i + 1 = omega arith in rw (get_or-eq_default p 0 h, get_or-eq_default p 0 h')

pub two_last : (p : List ℕ) (i : ℕ) → length p ≤ i + 1 → two p i ≡ byte p i * 256
unfolding two
two_last p i h = rw (get_or-eq_default p 0 h) (omega arith)

-- A protocol that has ports is not ICMP.
pub ports_not_icmp : (n : ℕ) → carries_ports n ≡ true → is_icmp n ≡ false
unfolding carries_ports
ports_not_icmp n e = ne_eqb n 1 (λ i. false≢true (rw i at e))

-- The other side's value is the one that the opposite order of source and destination makes local.
pub remote_local : (d : Direction) (s t : ℕ) → local d t s ≡ remote d s t
remote_local Out s t = refl
remote_local In s t = refl

module _ (p : List ℕ) (end : ℕ) where
  -- What holds of ports, of a type and code where there are such, and of nothing, holds of what is shown.
  pub shown_each : (P : Shown → Type 0) → (carries_ports (protocol p) ≡ true → P (ports (two p (header_end p)) (two p (header_end p + destination_port_at))))
      → (is_icmp (protocol p) ≡ true → P (type_and_code (two p (header_end p)))) → P nothing → P (shown p end)
  unfolding shown
  shown_each P f g n = by ports_shown refl type_shown refl
    where
      ports_shown : Bool
      ports_shown = eqb (fragment_offset p) 0 && (carries_ports (protocol p) && leb (header_end p + ports_bytes) end)

      type_shown : Bool
      type_shown = eqb (fragment_offset p) 0 && (is_icmp (protocol p) && leb (header_end p + type_and_code_bytes) end)

      by : (b : Bool) → ports_shown ≡ b → (c : Bool) → type_shown ≡ c
          → P (cond b (ports (two p (header_end p)) (two p (header_end p + destination_port_at))) (cond c (type_and_code (two p (header_end p))) nothing))
      by true e c e' = f (both_true _ _ (both_true (eqb (fragment_offset p) 0) _ e).1).0
      by false e true e' = g (both_true _ _ (both_true (eqb (fragment_offset p) 0) _ e').1).0
      by false e false e' = n

  -- A later fragment shows nothing.
  pub shown_later : (fragment_offset p ≡ 0 → ⊥) → shown p end ≡ nothing
  unfolding shown
  shown_later n = rw (ne_eqb (fragment_offset p) 0 n)

  -- A protocol that has ports: four upper bytes, or fewer.
  pub shown-ports : fragment_offset p ≡ 0 → carries_ports (protocol p) ≡ true → header_end p + ports_bytes ≤ end
      → shown p end ≡ ports (two p (header_end p)) (two p (header_end p + destination_port_at))
  unfolding shown
  shown-ports o h l = rw (eq-eqb (fragment_offset p) 0 o, h, le-leb (header_end p + ports_bytes) end l)

  pub shown_few-ports : carries_ports (protocol p) ≡ true → end < header_end p + ports_bytes → shown p end ≡ nothing
  unfolding shown
  shown_few-ports h l =
      rw (h, lt-leb (header_end p + ports_bytes) end l, ports_not_icmp (protocol p) h)
      (rw (and-false (eqb (fragment_offset p) 0)))

  -- ICMP: two upper bytes, or fewer.
  pub shown_type : fragment_offset p ≡ 0 → carries_ports (protocol p) ≡ false → protocol p ≡ 1 → header_end p + type_and_code_bytes ≤ end
      → shown p end ≡ type_and_code (two p (header_end p))
  unfolding shown
  shown_type o h i l = rw (eq-eqb (fragment_offset p) 0 o, h, eq-eqb (protocol p) 1 i, le-leb (header_end p + type_and_code_bytes) end l)

  pub shown_few_type : carries_ports (protocol p) ≡ false → end < header_end p + type_and_code_bytes → shown p end ≡ nothing
  unfolding shown
  shown_few_type h l =
      rw (h, lt-leb (header_end p + type_and_code_bytes) end l, and-false (is_icmp (protocol p)))
      (rw (and-false (eqb (fragment_offset p) 0)))

  -- Any other protocol.
  pub shown_other : carries_ports (protocol p) ≡ false → is_icmp (protocol p) ≡ false → shown p end ≡ nothing
  unfolding shown
  shown_other h i = rw (h, i, and-false (eqb (fragment_offset p) 0))

-- An error type is one of 3 to 5 and 11 to 12.
pub error_low : (n : ℕ) → 3 ≤ n → n ≤ 5 → error_type n ≡ true
unfolding error_type
error_low n l h = by (ℕ_discrete n 3) (ℕ_discrete n 4)
  where
    by : Dec (n ≡ 3) → Dec (n ≡ 4) → error_type n ≡ true
    by (yes e) d = rw e
    by (no a) (yes e) = rw e
    by (no a) (no b) = let e : n ≡ 5 = omega arith in rw e

pub error_high : (n : ℕ) → 11 ≤ n → n ≤ 12 → error_type n ≡ true
unfolding error_type
error_high n l h = by (ℕ_discrete n 11)
  where
    by : Dec (n ≡ 11) → error_type n ≡ true
    by (yes e) = rw e
    by (no a) = let e : n ≡ 12 = omega arith in rw e

error_none : (n : ℕ) → (n ≡ 3 → ⊥) → (n ≡ 4 → ⊥) → (n ≡ 5 → ⊥) → (n ≡ 11 → ⊥) → (n ≡ 12 → ⊥) → error_type n ≡ false
unfolding error_type
error_none n a b c d e = rw (ne_eqb n 3 a, ne_eqb n 4 b, ne_eqb n 5 c, ne_eqb n 11 d, ne_eqb n 12 e)

pub error_below : (n : ℕ) → n < 3 → error_type n ≡ false
error_below n h = error_none n (λ e. omega arith) (λ e. omega arith) (λ e. omega arith) (λ e. omega arith) (λ e. omega arith)

pub error_between : (n : ℕ) → 5 < n → n < 11 → error_type n ≡ false
error_between n h h' = error_none n (λ e. omega arith) (λ e. omega arith) (λ e. omega arith) (λ e. omega arith) (λ e. omega arith)

pub error_above : (n : ℕ) → 12 < n → error_type n ≡ false
unfolding error_type
error_above n h = grind (arith, nat_tests)

-- A value of more than one word.
pub number_large : (v : Value) → (v.upper ≡ 0 → ⊥) → 65536 ≤ number v
unfolding number
number_large v n = omega arith

-- An ICMP error by its protocol and type alone: the type that an absent port would show is no error type.
pub icmp_other : (n port : ℕ) → is_icmp n ≡ false → icmp_error n port ≡ false
unfolding icmp_error
icmp_other n port e = rw e

pub icmp_by_type : (n port : ℕ) → is_icmp n ≡ true → icmp_error n port ≡ error_type (port / 256)
unfolding icmp_error
icmp_by_type n port e = grind (arith, nat_tests, error_above)
