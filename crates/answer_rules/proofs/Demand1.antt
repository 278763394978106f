-- Demand 1: 'Each refusal is given when its own rule says so and at no other time.' Document 01's table 'When the gate says what', in its
-- order: each answer of each call, and exactly when it is given. Assumes nothing.
-- The packet calls are by any search (`search`), any live pairs (`pairs`) and any bytes (`p`); `k` is what is read of a packet. A policy file
-- is any bytes (`s`). `limit` is 256 in the gateway. The conditions are those of Terms; `live` and `fitting` by the pairs themselves: Named.
use Rattle.std.specs.Prelude.{ℕ, ◌≤◌, ◌<◌, ◌≡◌, refl, true, false, List, [], ◌∷◌, ◌↔◌, ◌⊎◌, ◌≢◌, length, Some, None}
use Rattle.selectors.specs.declared.Direction.{Direction}
use Rattle.selectors.specs.declared.Direction.TheVariants.{Out, In}
use Rattle.policy.specs.declared.Action.{Action}
use Rattle.policy.specs.declared.Action.TheVariants.{Discard, Bypass, Protect}
use Rattle.packet.specs.Read.{read_packet, read_trigger}
use Rattle.packet.specs.declared.Packet.{Packet}
use Rattle.sad.specs.Pairs.{Pair, pairs, live, fitting, pair_for, outcome_number, add_outcome, remove_outcome}
use Rattle.sad.specs.declared.NewPair.{NewPair}
use Rattle.verdicts.specs.Calls.{shows, spi_of, outbound_by, inbound_by, from_sa_by}
use Rattle.verdicts.specs.Verdict.{verdict_number, carried}
use Rattle.policy_text.specs.declared.Edition.{Edition}
use Rattle.policy_text.specs.declared.Refusal.TheVariants.{NotHeader, NotEnded, TooMany, BadRow}
use Rattle.policy_text.specs.Editions.{row_count, Rules, refused, rows, parse_policy}
use Rattle.decorrelate.specs.Form.{form, direction_number}
use Rattle.normal_form_file.specs.Normalise.{form_file, normalised_number, normalised_carries}
use Rattle.acceptance.specs.Spd.{acceptance_number, acceptance_carries}
use Rattle.answer_rules.specs.Terms.{ReadablePacket, ReadableHeader, protocol_of, ForGateway, Fragment, TooShort, IcmpError, returned, LowSpi, NotIpsec, BadNumber, SomeBadRange, BadPair, Headed, HasHeader, EndsInLf, FirstBadRow, RowsAre, normalised_file, accepted_file}
use Rattle.answer_rules.proofs.ExactlyLaws.{rule_iff, verdict_exactly, verdict_carrying, outcome_exactly, normalised_exactly, normalised_carrying, acceptance_exactly, acceptance_carrying}
use Rattle.answer_rules.proofs.PacketRulesLaws.{outbound-ruled, inbound-ruled, from_sa-ruled}
use Rattle.answer_rules.proofs.PairRulesLaws.{add-ruled, remove-ruled}
use Rattle.answer_rules.proofs.FileRulesLaws.{file-ruled, accept-ruled, normalise-ruled, normalise_over}

-- 0, pass in clear. Going out: 'Read (10), search. Bypass: 0.'
pub out-0 : (search : List ℕ → Action) (pairs : List Pair) (p : List ℕ)
    → (verdict_number (outbound_by search pairs p) ≡ 0) ↔ ((k : Packet) × (read_packet Out p ≡ Some k) × (search (shows k) ≡ Bypass))
out-0 search pairs p = verdict_exactly (outbound-ruled search pairs p) 0 refl

-- (Coming in from outside: Demand1ClearIn.)

-- 1, deliver. From an association: 'Values in its ranges: 1', or an ICMP error message of which the triggering header is 'read as going out':
-- 'does it fit the ranges? Yes: 1'.
pub sa-1 : (protocol spi : ℕ) (pairs : List Pair) (p : List ℕ)
    → (verdict_number (from_sa_by protocol spi pairs p) ≡ 1)
    ↔ ((live protocol spi pairs ≡ true) × (k : Packet) × (read_packet In p ≡ Some k)
    × ((fitting protocol spi (shows k) pairs ≡ true)
    ⊎ (IcmpError k × (t : Packet) × (read_trigger Out (returned p k) ≡ Some t) × (fitting protocol spi (shows t) pairs ≡ true))))
sa-1 protocol spi pairs p = verdict_exactly (from_sa-ruled protocol spi pairs p) 1 refl

-- 2, protect: 'N, pair's protocol, outbound SPI'. 'Protect-N: among live pairs with number N whose ranges hold the values, the smallest inbound
-- SPI, ESP before AH on a tie: 2.' (That `pair_for` is that pair is `pair_for-found` in crate `sad`.)
pub out-2 : (search : List ℕ → Action) (pairs : List Pair) (p : List ℕ) (n protocol spi : ℕ)
    → ((verdict_number (outbound_by search pairs p) ≡ 2) × (carried (outbound_by search pairs p) ≡ n ∷ protocol ∷ spi ∷ []))
    ↔ ((k : Packet) × (read_packet Out p ≡ Some k) × (search (shows k) ≡ Protect n) × (pair_for n (shows k) pairs ≡ Some (record { protocol = protocol; spi = spi })))
out-2 search pairs p n protocol spi = verdict_carrying (outbound-ruled search pairs p) 2 (n ∷ protocol ∷ spi ∷ []) refl refl

-- 3, association wanted: 'N'. 'None: 3.' (`pair_for_nothing` in crate `sad`.)
pub out-3 : (search : List ℕ → Action) (pairs : List Pair) (p : List ℕ) (n : ℕ)
    → ((verdict_number (outbound_by search pairs p) ≡ 3) × (carried (outbound_by search pairs p) ≡ n ∷ 0 ∷ 0 ∷ []))
    ↔ ((k : Packet) × (read_packet Out p ≡ Some k) × (search (shows k) ≡ Protect n) × (pair_for n (shows k) pairs ≡ None))
out-3 search pairs p n = verdict_carrying (outbound-ruled search pairs p) 3 (n ∷ 0 ∷ 0 ∷ []) refl refl

-- 4, to AH/ESP: 'protocol, inbound SPI'. 'The SPI is upper bytes 0 to 3 for ESP, 4 to 7 for AH; no live pair is 13; else 4.'
pub in-4 : (search : List ℕ → Action) (address : ℕ) (pairs : List Pair) (p : List ℕ) (protocol spi : ℕ)
    → ((verdict_number (inbound_by search address pairs p) ≡ 4) × (carried (inbound_by search address pairs p) ≡ protocol ∷ spi ∷ 0 ∷ []))
    ↔ ((k : Packet) × (read_packet In p ≡ Some k) × ForGateway address k × (¬ (Fragment k)) × (¬ (TooShort k))
    × (protocol_of k ≡ protocol) × (spi_of p k ≡ spi) × (live protocol spi pairs ≡ true))
in-4 search address pairs p protocol spi = verdict_carrying (inbound-ruled search address pairs p) 4 (protocol ∷ spi ∷ 0 ∷ []) refl refl

-- 5, done: policy accepted. 'A policy is checked in the order 23, 24, 21, 20 (first bad row), 22', and none of them.
pub accept-5 : (limit : ℕ) (s : List ℕ)
    → (acceptance_number (accepted_file limit s) ≡ 5)
    ↔ ((rs : Rules) × (parse_policy limit s ≡ rows rs) × (length (form Out rs) ≤ limit) × (length (form In rs) ≤ limit))
accept-5 limit s = acceptance_exactly (accept-ruled limit s) 5 refl

-- Pair added. 'An added pair: 25, 28, 26, 27', and none of them.
pub add-5 : (ws : List ℕ) (q : NewPair)
    → (outcome_number (add_outcome (pairs ws) q) ≡ 5)
    ↔ ((¬ (LowSpi q)) × (¬ (BadPair q)) × (live q.protocol q.spi_in (pairs ws) ≡ false) × (length (pairs ws) ≢ 64))
add-5 ws q = outcome_exactly (add-ruled ws q) 5 refl

-- Pair removed. 'A removal, whatever it names: 29 only.'
pub remove-5 : (ws : List ℕ) (protocol spi : ℕ) → (outcome_number (remove_outcome (pairs ws) protocol spi) ≡ 5) ↔ (live protocol spi (pairs ws) ≡ true)
remove-5 ws protocol spi = outcome_exactly (remove-ruled ws protocol spi) 5 refl

-- File printed: 'for a print, the count of bytes written'.
pub normalise-5 : (limit : ℕ) (d : Direction) (room : ℕ) (s : List ℕ) (n : ℕ)
    → ((normalised_number (normalised_file limit d room s) ≡ 5) × (normalised_carries (normalised_file limit d room s) ≡ n))
    ↔ ((rs : Rules) × (parse_policy limit s ≡ rows rs) × (length (form d rs) ≤ limit) × (length (form_file d rs) ≤ room)
    × (length (form_file d rs) ≡ n))
normalise-5 limit d room s n = normalised_carrying (normalise-ruled limit d room s) 5 n refl refl

-- 10, not readable. 'Read (10)', first of all; from an association after 13.
pub out-10 : (search : List ℕ → Action) (pairs : List Pair) (p : List ℕ)
    → (verdict_number (outbound_by search pairs p) ≡ 10) ↔ (¬ (ReadablePacket p))
out-10 search pairs p = verdict_exactly (outbound-ruled search pairs p) 10 refl

pub in-10 : (search : List ℕ → Action) (address : ℕ) (pairs : List Pair) (p : List ℕ)
    → (verdict_number (inbound_by search address pairs p) ≡ 10) ↔ (¬ (ReadablePacket p))
in-10 search address pairs p = verdict_exactly (inbound-ruled search address pairs p) 10 refl

pub sa-10 : (protocol spi : ℕ) (pairs : List Pair) (p : List ℕ)
    → (verdict_number (from_sa_by protocol spi pairs p) ≡ 10) ↔ ((live protocol spi pairs ≡ true) × (¬ (ReadablePacket p)))
sa-10 protocol spi pairs p = verdict_exactly (from_sa-ruled protocol spi pairs p) 10 refl

-- 11, policy discards. 'Discard: 11'; 'anything else is searched: … discard 11'.
pub out-11 : (search : List ℕ → Action) (pairs : List Pair) (p : List ℕ)
    → (verdict_number (outbound_by search pairs p) ≡ 11) ↔ ((k : Packet) × (read_packet Out p ≡ Some k) × (search (shows k) ≡ Discard))
out-11 search pairs p = verdict_exactly (outbound-ruled search pairs p) 11 refl

pub in-11 : (search : List ℕ → Action) (address : ℕ) (pairs : List Pair) (p : List ℕ)
    → (verdict_number (inbound_by search address pairs p) ≡ 11)
    ↔ ((k : Packet) × (read_packet In p ≡ Some k) × (¬ (ForGateway address k)) × (search (shows k) ≡ Discard))
in-11 search address pairs p = verdict_exactly (inbound-ruled search address pairs p) 11 refl

-- 12, came in clear, policy says protect. 'Anything else is searched: … protect 12.'
pub in-12 : (search : List ℕ → Action) (address : ℕ) (pairs : List Pair) (p : List ℕ)
    → (verdict_number (inbound_by search address pairs p) ≡ 12)
    ↔ ((k : Packet) × (read_packet In p ≡ Some k) × (¬ (ForGateway address k)) × (n : ℕ) × (search (shows k) ≡ Protect n))
in-12 search address pairs p = verdict_exactly (inbound-ruled search address pairs p) 12 refl

-- 13, no such pair. For the gateway, after 15 and 16: 'no live pair is 13'. From an association: 'Pair not live: 13.'
pub in-13 : (search : List ℕ → Action) (address : ℕ) (pairs : List Pair) (p : List ℕ)
    → (verdict_number (inbound_by search address pairs p) ≡ 13)
    ↔ ((k : Packet) × (read_packet In p ≡ Some k) × ForGateway address k × (¬ (Fragment k)) × (¬ (TooShort k))
    × (live (protocol_of k) (spi_of p k) pairs ≡ false))
in-13 search address pairs p = verdict_exactly (inbound-ruled search address pairs p) 13 refl

pub sa-13 : (protocol spi : ℕ) (pairs : List Pair) (p : List ℕ)
    → (verdict_number (from_sa_by protocol spi pairs p) ≡ 13) ↔ (live protocol spi pairs ≡ false)
sa-13 protocol spi pairs p = verdict_exactly (from_sa-ruled protocol spi pairs p) 13 refl

-- 14, doesn't fit the pair. 'Otherwise, unless it is ICMP with a seen type 3, 4, 5, 11 or 12 …: 14.'
pub sa-14 : (protocol spi : ℕ) (pairs : List Pair) (p : List ℕ)
    → (verdict_number (from_sa_by protocol spi pairs p) ≡ 14)
    ↔ ((live protocol spi pairs ≡ true) × (k : Packet) × (read_packet In p ≡ Some k)
    × (fitting protocol spi (shows k) pairs ≡ false) × (¬ (IcmpError k)))
sa-14 protocol spi pairs p = verdict_exactly (from_sa-ruled protocol spi pairs p) 14 refl

-- 15, AH/ESP fragment. 'If the destination is the gateway and the protocol 50 or 51: a fragment (offset not 0, or more-fragments set) is 15'.
pub in-15 : (search : List ℕ → Action) (address : ℕ) (pairs : List Pair) (p : List ℕ)
    → (verdict_number (inbound_by search address pairs p) ≡ 15)
    ↔ ((k : Packet) × (read_packet In p ≡ Some k) × ForGateway address k × Fragment k)
in-15 search address pairs p = verdict_exactly (inbound-ruled search address pairs p) 15 refl

-- 16, AH/ESP too short. 'An upper part under 8 bytes for ESP or 12 for AH is 16'.
pub in-16 : (search : List ℕ → Action) (address : ℕ) (pairs : List Pair) (p : List ℕ)
    → (verdict_number (inbound_by search address pairs p) ≡ 16)
    ↔ ((k : Packet) × (read_packet In p ≡ Some k) × ForGateway address k × (¬ (Fragment k)) × TooShort k)
in-16 search address pairs p = verdict_exactly (inbound-ruled search address pairs p) 16 refl

-- 17, returned header unreadable. 'For those the triggering header … Unreadable: 17.'
pub sa-17 : (protocol spi : ℕ) (pairs : List Pair) (p : List ℕ)
    → (verdict_number (from_sa_by protocol spi pairs p) ≡ 17)
    ↔ ((live protocol spi pairs ≡ true) × (k : Packet) × (read_packet In p ≡ Some k)
    × (fitting protocol spi (shows k) pairs ≡ false) × IcmpError k × (¬ (ReadableHeader (returned p k))))
sa-17 protocol spi pairs p = verdict_exactly (from_sa-ruled protocol spi pairs p) 17 refl

-- 18, returned header doesn't fit. 'Read as going out (that is RFC 4301's reversal), does it fit the ranges? … No: 18.'
pub sa-18 : (protocol spi : ℕ) (pairs : List Pair) (p : List ℕ)
    → (verdict_number (from_sa_by protocol spi pairs p) ≡ 18)
    ↔ ((live protocol spi pairs ≡ true) × (k : Packet) × (read_packet In p ≡ Some k)
    × (fitting protocol spi (shows k) pairs ≡ false) × IcmpError k
    × (t : Packet) × (read_trigger Out (returned p k) ≡ Some t) × (fitting protocol spi (shows t) pairs ≡ false))
sa-18 protocol spi pairs p = verdict_exactly (from_sa-ruled protocol spi pairs p) 18 refl

-- A policy file is one that 23, 24, 21 and 20 let through; `rs` has its edition and rows.
pub file_rows : (limit : ℕ) (s : List ℕ) (rs : Rules)
    → (parse_policy limit s ≡ rows rs)
    ↔ (Headed rs.edition s × EndsInLf s × (row_count rs.edition s ≤ limit) × RowsAre rs.edition s rs.entries)
file_rows limit s rs = rule_iff (file-ruled limit s) (rows rs)

-- 20, bad row: 'its number, first row 1'. 'A policy is checked in the order 23, 24, 21, 20 (first bad row)'.
pub file-20 : (limit : ℕ) (s : List ℕ) (i : ℕ)
    → (parse_policy limit s ≡ refused (BadRow i)) ↔ ((e : Edition) × Headed e s × EndsInLf s × (row_count e s ≤ limit) × FirstBadRow e s i)
file-20 limit s i = rule_iff (file-ruled limit s) (refused (BadRow i))

pub accept-20 : (limit : ℕ) (s : List ℕ) (i : ℕ)
    → ((acceptance_number (accepted_file limit s) ≡ 20) × (acceptance_carries (accepted_file limit s) ≡ i))
    ↔ ((e : Edition) × Headed e s × EndsInLf s × (row_count e s ≤ limit) × FirstBadRow e s i)
accept-20 limit s i = acceptance_carrying (accept-ruled limit s) 20 i refl refl

pub normalise-20 : (limit : ℕ) (d : Direction) (room : ℕ) (s : List ℕ) (i : ℕ)
    → ((normalised_number (normalised_file limit d room s) ≡ 20) × (normalised_carries (normalised_file limit d room s) ≡ i))
    ↔ ((e : Edition) × Headed e s × EndsInLf s × (row_count e s ≤ limit) × FirstBadRow e s i)
normalise-20 limit d room s i = normalised_carrying (normalise-ruled limit d room s) 20 i refl refl

-- 21, more than 256 rows.
pub file-21 : (limit : ℕ) (s : List ℕ) → (parse_policy limit s ≡ refused TooMany) ↔ ((e : Edition) × Headed e s × EndsInLf s × (limit < row_count e s))
file-21 limit s = rule_iff (file-ruled limit s) (refused TooMany)

pub accept-21 : (limit : ℕ) (s : List ℕ) → (acceptance_number (accepted_file limit s) ≡ 21) ↔ ((e : Edition) × Headed e s × EndsInLf s × (limit < row_count e s))
accept-21 limit s = acceptance_exactly (accept-ruled limit s) 21 refl

pub normalise-21 : (limit : ℕ) (d : Direction) (room : ℕ) (s : List ℕ)
    → (normalised_number (normalised_file limit d room s) ≡ 21) ↔ ((e : Edition) × Headed e s × EndsInLf s × (limit < row_count e s))
normalise-21 limit d room s = normalised_exactly (normalise-ruled limit d room s) 21 refl

-- 22, normal form over 256 rows: 'way, out tried first'. 1 is out and 2 in.
pub accept-22-out : (limit : ℕ) (s : List ℕ)
    → ((acceptance_number (accepted_file limit s) ≡ 22) × (acceptance_carries (accepted_file limit s) ≡ 1))
    ↔ ((rs : Rules) × (parse_policy limit s ≡ rows rs) × (limit < length (form Out rs)))
accept-22-out limit s = acceptance_carrying (accept-ruled limit s) 22 1 refl refl

pub accept-22-in : (limit : ℕ) (s : List ℕ)
    → ((acceptance_number (accepted_file limit s) ≡ 22) × (acceptance_carries (accepted_file limit s) ≡ 2))
    ↔ ((rs : Rules) × (parse_policy limit s ≡ rows rs) × (length (form Out rs) ≤ limit) × (limit < length (form In rs)))
accept-22-in limit s = acceptance_carrying (accept-ruled limit s) 22 2 refl refl

-- 'A call for one way alone tries 22 for that way only'.
pub normalise-22 : (limit : ℕ) (d : Direction) (room : ℕ) (s : List ℕ) (way : ℕ)
    → ((normalised_number (normalised_file limit d room s) ≡ 22) × (normalised_carries (normalised_file limit d room s) ≡ way))
    ↔ ((way ≡ direction_number d) × (rs : Rules) × (parse_policy limit s ≡ rows rs) × (limit < length (form d rs)))
normalise-22 limit d room s way = normalise_over limit d room s way

-- 23, first nine bytes aren't the header line.
pub file-23 : (limit : ℕ) (s : List ℕ) → (parse_policy limit s ≡ refused NotHeader) ↔ (¬ (HasHeader s))
file-23 limit s = rule_iff (file-ruled limit s) (refused NotHeader)

pub accept-23 : (limit : ℕ) (s : List ℕ) → (acceptance_number (accepted_file limit s) ≡ 23) ↔ (¬ (HasHeader s))
accept-23 limit s = acceptance_exactly (accept-ruled limit s) 23 refl

pub normalise-23 : (limit : ℕ) (d : Direction) (room : ℕ) (s : List ℕ)
    → (normalised_number (normalised_file limit d room s) ≡ 23) ↔ (¬ (HasHeader s))
normalise-23 limit d room s = normalised_exactly (normalise-ruled limit d room s) 23 refl

-- 24, last byte isn't LF.
pub file-24 : (limit : ℕ) (s : List ℕ) → (parse_policy limit s ≡ refused NotEnded) ↔ (HasHeader s × (¬ (EndsInLf s)))
file-24 limit s = rule_iff (file-ruled limit s) (refused NotEnded)

pub accept-24 : (limit : ℕ) (s : List ℕ) → (acceptance_number (accepted_file limit s) ≡ 24) ↔ (HasHeader s × (¬ (EndsInLf s)))
accept-24 limit s = acceptance_exactly (accept-ruled limit s) 24 refl

pub normalise-24 : (limit : ℕ) (d : Direction) (room : ℕ) (s : List ℕ)
    → (normalised_number (normalised_file limit d room s) ≡ 24) ↔ (HasHeader s × (¬ (EndsInLf s)))
normalise-24 limit d room s = normalised_exactly (normalise-ruled limit d room s) 24 refl

-- 25, either SPI below 256. 'An added pair: 25, 28, 26, 27'.
pub add-25 : (ws : List ℕ) (q : NewPair) → (outcome_number (add_outcome (pairs ws) q) ≡ 25) ↔ ((q.spi_in < 256) ⊎ (q.spi_out < 256))
add-25 ws q = outcome_exactly (add-ruled ws q) 25 refl

-- 26, pair already live: 'protocol and inbound SPI name a pair'.
pub add-26 : (ws : List ℕ) (q : NewPair)
    → (outcome_number (add_outcome (pairs ws) q) ≡ 26)
    ↔ ((¬ (LowSpi q)) × (¬ (BadPair q)) × (live q.protocol q.spi_in (pairs ws) ≡ true))
add-26 ws q = outcome_exactly (add-ruled ws q) 26 refl

-- 27, 64 pairs live.
pub add-27 : (ws : List ℕ) (q : NewPair)
    → (outcome_number (add_outcome (pairs ws) q) ≡ 27)
    ↔ ((¬ (LowSpi q)) × (¬ (BadPair q)) × (live q.protocol q.spi_in (pairs ws) ≡ false) × (length (pairs ws) ≡ 64))
add-27 ws q = outcome_exactly (add-ruled ws q) 27 refl

-- 28, protocol not 50 or 51, number not 1 to 255, a range value beyond its field, or low above high.
pub add-28 : (ws : List ℕ) (q : NewPair)
    → (outcome_number (add_outcome (pairs ws) q) ≡ 28) ↔ ((¬ (LowSpi q)) × (NotIpsec q ⊎ BadNumber q ⊎ SomeBadRange q))
add-28 ws q = outcome_exactly (add-ruled ws q) 28 refl

-- 29, nothing to remove.
pub remove-29 : (ws : List ℕ) (protocol spi : ℕ) → (outcome_number (remove_outcome (pairs ws) protocol spi) ≡ 29) ↔ (live protocol spi (pairs ws) ≡ false)
remove-29 ws protocol spi = outcome_exactly (remove-ruled ws protocol spi) 29 refl

-- 31, lent room shorter than the printed file. '31 comes last.'
pub normalise-31 : (limit : ℕ) (d : Direction) (room : ℕ) (s : List ℕ)
    → (normalised_number (normalised_file limit d room s) ≡ 31)
    ↔ ((rs : Rules) × (parse_policy limit s ≡ rows rs) × (length (form d rs) ≤ limit) × (room < length (form_file d rs)))
normalise-31 limit d room s = normalised_exactly (normalise-ruled limit d room s) 31 refl
