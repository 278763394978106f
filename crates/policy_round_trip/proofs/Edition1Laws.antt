-- Edition 1 obeys the laws of an edition. Assumes nothing.
use Rattle.std.specs.Prelude.{ℕ, ◌+◌, ◌-◌, ◌≤◌, ◌<◌, ◌%◌, ◌^◌, ◌≡◌, refl, Bool, true, false, cond, List, eqb, length, take, Some, None}
use Rattle.std.proofs.Common.{arith, ne_eqb}
use Rattle.std.proofs.Math.Decide.{ℕ_discrete}
use Rattle.std.proofs.Math.Option.{none, some}
use Rattle.std.proofs.lemmas.Bool.{eqb-false}
use Rattle.selectors.specs.Range.{Range, full, in_field, absent, address_size, protocol_size, port_size}
use Rattle.policy.specs.declared.Action.{Action}
use Rattle.policy.specs.declared.Action.TheVariants.{Discard, Bypass, Protect}
use Rattle.policy_text.specs.Bytes.{tab, lf, dash, slash, index, has, before, after, count, are_same_bytes}
use Rattle.policy_text.specs.Decimals.{Number, decimal, decimal_text}
use Rattle.policy_text.specs.Format.{AtMost, any}
use Rattle.policy_text.specs.Print.{range_text}
use Rattle.policy_text.specs.Edition1.{header, opaque_word, bypass_word, discard_word, protect_word, address, is_mask, masked_range, address_field, protocol_field, port_end, port_field, protect, action_field, lower, address_text, protocol_text, port_text, action_text, addresses, protocols, ports, edition1}
use Rattle.policy_text.proofs.FormatLaws.{decimal_at_most}
use Rattle.policy_text.proofs.PrintLaws.{decimal-length}
use Rattle.policy_round_trip.proofs.CutsLaws.{has_none}
use Rattle.policy_round_trip.proofs.DecimalsLaws.{decimal_back, decimal-without, decimal_no_word, address_back, address-without, address-length}
use Rattle.policy_round_trip.proofs.RangesLaws.{Outside, Values, span_text, span-without, span_not_any, range_back, ends_back, range_clean, Reads, either, In, made_in, ends-in, full_in}
use Rattle.policy_round_trip.specs.Proper.{Proper}
use Rattle.policy_round_trip.specs.Lawful.{Clean, HeaderLine, Spelled, Writable, Lawful}

-- The values of each field, with how many bytes the longest has.
pub address_values : Values address_size 15 address_text address address
address_values = record {
  low_back = λ n l. address_back n (omega arith);
  high_back = address_back;
  without = λ b o n. address-without b n o.0 o.1;
  short = address-length;
}

pub protocol_values : Values protocol_size 3 protocol_text (decimal 255) (decimal 255)
unfolding protocol_text
protocol_values = record {
  low_back = λ n l. back n (omega arith);
  high_back = back;
  without = λ b o n. decimal-without b (lower n) o.0;
  short = λ n h. let e : lower n ≡ n = omega arith in rw e (decimal-length 2 n (omega arith));
}
  where
    back : (n : ℕ) → n < 256 → decimal 255 (protocol_text n) ≡ Some n
    back n h = let e : lower n ≡ n = omega arith in rw e (decimal_back 255 n (omega arith) (omega arith))

-- A port: a number, or `opaque`.
port-number : (n : ℕ) → n < absent → port_text n ≡ decimal_text n
unfolding port_text
port-number n h =
    let e : lower n ≡ n = omega arith in
    rw (ne_eqb n absent (omega arith), e)

pub port_values : Values port_size 6 port_text (decimal 65535) port_end
unfolding port_text count are_same_bytes
port_values = record {
  low_back = λ n l. rw (port-number n (omega arith)) (decimal_back 65535 n (omega arith) (omega arith));
  high_back = λ n. high n (ℕ_discrete n absent);
  without = λ b o n. apart b n o (eqb n absent);
  short = λ n. short_of n (ℕ_discrete n absent);
}
  where
    high : (n : ℕ) → Dec (n ≡ absent) → n < port_size → port_end (port_text n) ≡ Some n
    high n (yes e) h = rw e
    high n (no g) h =
        rw (port-number n (omega arith), decimal_no_word 111 n opaque_word refl (omega arith)) (decimal_back 65535 n (omega arith) (omega arith))

    apart : (b n : ℕ) → Outside b → (e : Bool) → count b (cond e opaque_word (decimal_text (lower n))) ≡ 0
    apart b n o true = o.2
    apart b n o false = decimal-without b (lower n) o.0

    short_of : (n : ℕ) → Dec (n ≡ absent) → n < port_size → length (port_text n) ≤ 6
    short_of n (yes e) h = rw e (omega arith)
    short_of n (no g) h = rw (port-number n (omega arith)) (omega (arith, decimal-length 4 n (omega arith)))

-- The text of an address range is read as that range.
address_range_back : (r : Range) → in_field address_size r ≡ true → address_field (range_text address_size address_text r) ≡ some r
unfolding address_field are_same_bytes count
address_range_back r h =
    range_back address_values r address_field refl
    (rw (span_not_any address_values r, has_none slash (span_text address_text r) (span-without address_values r slash (refl, refl, refl) refl)) (ends_back address_values r h))

-- The text of a protocol range is read as that range.
protocol_range_back : (r : Range) → in_field protocol_size r ≡ true → protocol_field (range_text protocol_size protocol_text r) ≡ some r
unfolding protocol_field are_same_bytes
protocol_range_back r h = range_back protocol_values r protocol_field refl (rw (span_not_any protocol_values r) (ends_back protocol_values r h))

-- The text of a port range is read as that range.
port_range_back : (r : Range) → in_field port_size r ≡ true → port_field (range_text port_size port_text r) ≡ some r
unfolding port_field are_same_bytes
port_range_back r h = range_back port_values r port_field refl (rw (span_not_any port_values r) (ends_back port_values r h))

-- What is read of a field's text is a range of the field.
masked_in : (a m : Number) → Reads (In address_size) (masked_range a m)
masked_in None m = tt
masked_in (Some a) None = tt
masked_in (Some a) (Some m) = either (In address_size) (is_mask m) _ none (either (In address_size) (eqb (a % (2 ^ 32 - m)) 0) _ none (made_in address_size a (a + (2 ^ 32 - m - 1))) tt) tt

address_in : (s : List ℕ) → Reads (In address_size) (address_field s)
unfolding address_field
address_in s =
    either (In address_size) (are_same_bytes s any) (some (full address_size)) _ (full_in address_size (omega arith))
    (either (In address_size) (has slash s) _ _ (masked_in (address (before slash s)) (address (after slash s))) (ends-in address_size address address s))

protocol_in : (s : List ℕ) → Reads (In protocol_size) (protocol_field s)
unfolding protocol_field
protocol_in s = either (In protocol_size) (are_same_bytes s any) (some (full protocol_size)) _ (full_in protocol_size (omega arith)) (ends-in protocol_size (decimal 255) (decimal 255) s)

port_in : (s : List ℕ) → Reads (In port_size) (port_field s)
unfolding port_field
port_in s = either (In port_size) (are_same_bytes s any) (some (full port_size)) _ (full_in port_size (omega arith)) (ends-in port_size (decimal 65535) port_end s)

of_field : (size : ℕ) (r : Range) {o : _} → Reads (In size) o → o ≡ some r → in_field size r ≡ true
of_field size r h e = rw e at h

address_spelled : Spelled addresses
address_spelled = record { range_back = address_range_back; range_read = λ s r e. of_field address_size r (address_in s) e; range_clean = range_clean address_values }

protocol_spelled : Spelled protocols
protocol_spelled = record { range_back = protocol_range_back; range_read = λ s r e. of_field protocol_size r (protocol_in s) e; range_clean = range_clean protocol_values }

port_spelled : Spelled ports
port_spelled = record { range_back = port_range_back; range_read = λ s r e. of_field port_size r (port_in s) e; range_clean = range_clean port_values }

protect_in : (n : Number) → AtMost 255 n → Reads Proper (protect n)
protect_in None h = tt
protect_in (Some n) h = by (eqb n 0) refl
  where
    by : (e : Bool) → eqb n 0 ≡ e → Reads Proper (cond e none (some (Protect n)))
    by true e = tt
    by false e = let l : n ≡ 0 → ⊥ = eqb-false n 0 e in (omega arith, h)

action-in : (s : List ℕ) → Reads Proper (action_field s)
unfolding action_field
action-in s =
    either Proper (are_same_bytes s bypass_word) (some Bypass) _ tt
    (either Proper (are_same_bytes s discard_word) (some Discard) _ tt
    (either Proper (are_same_bytes (before dash s) protect_word) _ none (protect_in (decimal 255 (after dash s)) (decimal_at_most 255 (after dash s))) tt))

-- The text of an action is read as that action.
action_back : (a : Action) → Proper a → action_field (action_text a) ≡ some a
unfolding action_field action_text are_same_bytes before after index
action_back Discard p = refl
action_back Bypass p = refl
action_back (Protect n) p = rw (decimal_back 255 n p.1 (omega arith), ne_eqb n 0 (omega arith))

-- The actions that can be written are the proper ones.
pub proper : (a : Action) → Writable edition1 a → Proper a
proper a e = rw e at (action-in (action_text a))

action_clean : (a : Action) → Clean (action_text a)
unfolding count action_text
action_clean Discard = record { no-tab = refl; no-lf = refl }
action_clean Bypass = record { no-tab = refl; no-lf = refl }
action_clean (Protect n) = record { no-tab = decimal-without tab n refl; no-lf = decimal-without lf n refl }

header_line : HeaderLine header
unfolding count
header_line = record { words = take 8 header; ended = refl; one_line = refl }

pub edition1_lawful : Lawful edition1
edition1_lawful =
    record {
      header_line = header_line;
      fields_spelled = (address_spelled, (address_spelled, (protocol_spelled, (port_spelled, (port_spelled, tt)))));
      discard_writable = action_back Discard tt;
      action_read = λ s a e. action_back a (rw e at (action-in s));
      action_clean = action_clean;
    }
