-- The rules of adding and removing a pair, a rule for each outcome: the outcome's own rule holds, and no other's. Assumes nothing.
use Rattle.std.specs.Prelude.{ℕ, zero, suc, ◌≤◌, ◌<◌, ◌≡◌, Bool, cond, not, ◌&&◌, ◌||◌, List, ◌∷◌, leb, length, Ok, Err}
use Rattle.std.proofs.Common.{arith, inl, inr, ⊎_elim}
use Rattle.std.proofs.Math.Decide.{dec_le, dec_lt}
use Rattle.std.proofs.Math.Path.{refl}
use Rattle.std.proofs.Math.Bool.{true, false}
use Rattle.selectors.specs.Range.{in_field, address_size, protocol_size, port_size}
use Rattle.selectors.specs.Value.{number}
use Rattle.selectors.specs.declared.ranges.Ends.{Ends}
use Rattle.sad.specs.Pairs.{place_count, pair_at, pairs_from, pairs, live, is_live_at, ipsec, reserved_spi, ends_in, ranges_in_fields, well_formed, add_outcome, remove_outcome}
use Rattle.sad.specs.declared.NewPair.{NewPair}
use Rattle.sad.specs.Pairs.{Outcome, done}
use Rattle.sad.specs.declared.PairError.TheVariants.{ReservedSpi, AlreadyLive, TableFull, BadPair as Malformed, NothingToRemove}
use Rattle.answer_rules.proofs.DecidesLaws.{Decides, holding, failing, is_true, is_false, decides_iff, decides_equal, decides_not, decides_and, decides_or, decides_le, decides_lt, decides_eq}
use Rattle.answer_rules.specs.Terms.{LowSpi, NotIpsec, BadRange, SomeBadRange, BadPair}
use Rattle.answer_rules.specs.PairRules.{AddRule, RemoveRule}
use Rattle.answer_rules.proofs.ExactlyLaws.{Ruled}

spi_decides : (q : NewPair) → Decides (LowSpi q) (reserved_spi q)
unfolding reserved_spi
spi_decides q = decides_or (decides_lt q.spi_in 256) (decides_lt q.spi_out 256)

-- Tests that do not all hold: one of them does not.
not_all-four : (a b c d : Bool) → (not a || ((not b || not c) || not d)) ≡ not (((a && b) && c) && d)
not_all-four false b c d = refl
not_all-four true false c d = refl
not_all-four true true false d = refl
not_all-four true true true d = refl

not_all_five : (a b c d e : Bool) → (not a || (not b || (not c || (not d || not e)))) ≡ not ((((a && b) && c) && d) && e)
not_all_five false b c d e = refl
not_all_five true false c d e = refl
not_all_five true true false d e = refl
not_all_five true true true false e = refl
not_all_five true true true true e = refl

decides_above : (a b : ℕ) → Decides (b < a) (not (leb a b))
decides_above a b = decides_iff (λ n. omega arith) (λ h. omega arith) (decides_not (decides_le a b))

ipsec_decides : (q : NewPair) → Decides (NotIpsec q) (not (ipsec q.protocol))
ipsec_decides q =
    decides_iff (λ n. (λ e. n (inl e), λ e. n (inr e))) (λ t. ⊎_elim t.0 t.1)
    (decides_not (decides_or (decides_eq q.protocol 50) (decides_eq q.protocol 51)))

range_decides : (size : ℕ) (e : Ends) → Decides (BadRange size e) (not (ends_in size e))
unfolding in_field
range_decides size e =
    decides_iff (λ n. bad n (dec_le (number e.low) (number e.high))) not_good
    (decides_not (decides_and (decides_le (number e.low) (number e.high)) (decides_lt (number e.high) size)))
  where
    bad : ¬ ((number e.low ≤ number e.high) × (number e.high < size)) → Dec (number e.low ≤ number e.high) → BadRange size e
    bad n (no a) = inr (inr (omega arith))
    bad n (yes a) = by (dec_lt (number e.high) size)
      where
        by : Dec (number e.high < size) → BadRange size e
        by (yes b) = absurd (n (a, b))
        by (no b) = inr (inl (omega arith))

    not_good : BadRange size e → ¬ ((number e.low ≤ number e.high) × (number e.high < size))
    not_good (inl h) = λ g. omega arith
    not_good (inr (inl h)) = λ g. omega arith
    not_good (inr (inr h)) = λ g. omega arith

ranges-decide : (q : NewPair) → Decides (SomeBadRange q) (not (ranges_in_fields q.ranges))
unfolding ranges_in_fields
ranges-decide q =
    decides_equal
    (not_all_five (ends_in address_size q.ranges.local) (ends_in address_size q.ranges.remote) (ends_in protocol_size q.ranges.protocol)
    (ends_in port_size q.ranges.local_port) (ends_in port_size q.ranges.remote_port))
    (decides_or (range_decides address_size q.ranges.local) (decides_or (range_decides address_size q.ranges.remote)
    (decides_or (range_decides protocol_size q.ranges.protocol)
    (decides_or (range_decides port_size q.ranges.local_port) (range_decides port_size q.ranges.remote_port)))))

bad_decides : (q : NewPair) → Decides (BadPair q) (not (well_formed q))
unfolding well_formed
bad_decides q =
    decides_equal (not_all-four (ipsec q.protocol) (leb 1 q.number) (leb q.number 255) (ranges_in_fields q.ranges))
    (decides_or (ipsec_decides q)
    (decides_or (decides_or (decides_above 1 q.number) (decides_above q.number 255)) (ranges-decide q)))

-- No more pairs than places.
pairs_at_most : (ws : List ℕ) (i n : ℕ) → length (pairs_from ws i n) ≤ n
unfolding pairs_from
pairs_at_most ws i zero = omega arith
pairs_at_most ws i (suc n) = by (is_live_at ws i) (pairs_at_most ws (suc i) n)
  where
    by : (b : Bool) → length (pairs_from ws (suc i) n) ≤ n → length (cond b (pair_at ws i ∷ pairs_from ws (suc i) n) (pairs_from ws (suc i) n)) ≤ suc n
    by true h = omega arith
    by false h = omega arith

full_decides : (ws : List ℕ) → Decides (length (pairs ws) ≡ 64) (leb place_count (length (pairs ws)))
full_decides ws =
    let m : length (pairs ws) ≤ 64 = pairs_at_most ws 0 64 in
    decides_iff (λ h. omega arith) (λ e. omega arith) (decides_le 64 (length (pairs ws)))

module _ (ws : List ℕ) (q : NewPair) where
  add_holds : AddRule ws q (add_outcome (pairs ws) q)
  unfolding add_outcome
  add_holds = by (spi_decides q) (bad_decides q) (live q.protocol q.spi_in (pairs ws)) refl (full_decides ws)
    where
      by : {a b c : Bool} → Decides (LowSpi q) a → Decides (BadPair q) b → (l : Bool) → live q.protocol q.spi_in (pairs ws) ≡ l
          → Decides (length (pairs ws) ≡ 64) c
          → AddRule ws q (cond a (Err ReservedSpi) (cond b (Err Malformed) (cond l (Err AlreadyLive) (cond c (Err TableFull) done))))
      by (holding s) b l e f = s
      by (failing s) (holding b) l e f = (s, b)
      by (failing s) (failing b) true e f = (s, b, e)
      by (failing s) (failing b) false e (holding f) = (s, b, e, f)
      by (failing s) (failing b) false e (failing f) = (s, b, e, f)

  add_only : (o : Outcome) → AddRule ws q o → add_outcome (pairs ws) q ≡ o
  unfolding add_outcome
  add_only (Err ReservedSpi) h = rw (is_true (spi_decides q) h)
  add_only (Err Malformed) h = rw (is_false (spi_decides q) h.0, is_true (bad_decides q) h.1)
  add_only (Err AlreadyLive) h = rw (is_false (spi_decides q) h.0, is_false (bad_decides q) h.1, h.2)
  add_only (Err TableFull) h = rw (is_false (spi_decides q) h.0, is_false (bad_decides q) h.1, h.2, is_true (full_decides ws) h.3)
  add_only (Ok u) h = rw (is_false (spi_decides q) h.0, is_false (bad_decides q) h.1, h.2, is_false (full_decides ws) h.3)
  add_only (Err NothingToRemove) h = absurd h

  pub add-ruled : Ruled (AddRule ws q) (add_outcome (pairs ws) q)
  add-ruled = record { holds = add_holds; only = add_only }

module _ (ws : List ℕ) (protocol spi : ℕ) where
  remove-holds : RemoveRule ws protocol spi (remove_outcome (pairs ws) protocol spi)
  unfolding remove_outcome
  remove-holds = by (live protocol spi (pairs ws)) refl
    where
      by : (l : Bool) → live protocol spi (pairs ws) ≡ l → RemoveRule ws protocol spi (cond l done (Err NothingToRemove))
      by true e = e
      by false e = e

  remove_only : (o : Outcome) → RemoveRule ws protocol spi o → remove_outcome (pairs ws) protocol spi ≡ o
  unfolding remove_outcome
  remove_only (Ok u) h = rw h
  remove_only (Err ReservedSpi) h = absurd h
  remove_only (Err AlreadyLive) h = absurd h
  remove_only (Err TableFull) h = absurd h
  remove_only (Err Malformed) h = absurd h
  remove_only (Err NothingToRemove) h = rw h

  pub remove-ruled : Ruled (RemoveRule ws protocol spi) (remove_outcome (pairs ws) protocol spi)
  remove-ruled = record { holds = remove-holds; only = remove_only }
