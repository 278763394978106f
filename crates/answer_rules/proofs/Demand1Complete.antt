-- Demand 1: 'Any bytes at all, as packet, policy file or association, get an answer from document 01's list': the numbers that each call
-- answers with, and what an answer carries. Assumes nothing.
use Rattle.std.specs.Prelude.{ℕ, ◌≡◌, refl, true, Result, Ok, Err}
use mathlib.Core.List.{List, [], ◌∷◌, Memᴰ}
use Rattle.selectors.specs.declared.Direction.{Direction}
use Rattle.policy.specs.declared.Action.{Action}
use Rattle.sad.specs.Pairs.{Pair, pairs, outcome_number, add_outcome, remove_outcome}
use Rattle.sad.specs.declared.NewPair.{NewPair}
use Rattle.sad.specs.Pairs.{Outcome}
use Rattle.sad.specs.declared.PairError.TheVariants.{ReservedSpi, AlreadyLive, TableFull, BadPair, NothingToRemove}
use Rattle.verdicts.specs.Calls.{outbound_by, inbound_by, from_sa_by}
use Rattle.verdicts.specs.Verdict.{verdict_number, carried}
use Rattle.verdicts.specs.declared.Verdict.{Verdict}
use Rattle.verdicts.specs.declared.Verdict.TheVariants.{Pass, Deliver, Protect, Wanted, ToIpsec, NotReadable, Discarded, CameInClear, NoSuchPair, DoesNotFit, IpsecFragment, IpsecTooShort, TriggerUnreadable, TriggerDoesNotFit}
use Rattle.policy_text.specs.declared.Refusal.TheVariants.{NotHeader, NotEnded, TooMany, BadRow}
use Rattle.normal_form_file.specs.Normalise.{normalised_number, normalised_carries}
use Rattle.normal_form_file.specs.declared.NormaliseError.{NormaliseError}
use Rattle.normal_form_file.specs.declared.NormaliseError.TheVariants.{Refused, TooLarge, NoRoom}
use Rattle.acceptance.specs.Spd.{acceptance_number, acceptance_carries}
use Rattle.acceptance.specs.declared.AcceptError.{AcceptError}
use Rattle.acceptance.specs.declared.AcceptError.TheVariants.{Refused as RefusedFile, TooLarge as OverForm}
use Rattle.answer_rules.proofs.AmongLaws.{among, among_list}
use Rattle.answer_rules.specs.Terms.{normalised_file, accepted_file}
use Rattle.answer_rules.specs.AnswerNumbers.{out_numbers, in_numbers, sa_numbers, add_numbers, remove_numbers, accept_numbers, normalise_numbers}
use Rattle.answer_rules.proofs.PacketRulesLaws.{OutboundRule, InboundRule, FromSaRule, outbound-ruled, inbound-ruled, from_sa-ruled}
use Rattle.answer_rules.specs.PairRules.{AddRule, RemoveRule}
use Rattle.answer_rules.proofs.PairRulesLaws.{add-ruled, remove-ruled}

-- Going out.
pub out_answers : (search : List ℕ → Action) (pairs : List Pair) (p : List ℕ)
    → Memᴰ (verdict_number (outbound_by search pairs p)) out_numbers
out_answers search pairs p = among_list _ _ (by (outbound_by search pairs p) (outbound-ruled search pairs p).holds)
  where
    by : (v : Verdict) → OutboundRule search pairs p v → among (verdict_number v) out_numbers ≡ true
    by Pass h = refl
    by Deliver h = absurd h
    by (Protect n protocol spi) h = refl
    by (Wanted n) h = refl
    by (ToIpsec protocol spi) h = absurd h
    by NotReadable h = refl
    by Discarded h = refl
    by CameInClear h = absurd h
    by NoSuchPair h = absurd h
    by DoesNotFit h = absurd h
    by IpsecFragment h = absurd h
    by IpsecTooShort h = absurd h
    by TriggerUnreadable h = absurd h
    by TriggerDoesNotFit h = absurd h

-- Coming in from outside.
pub in_answers : (search : List ℕ → Action) (address : ℕ) (pairs : List Pair) (p : List ℕ)
    → Memᴰ (verdict_number (inbound_by search address pairs p)) in_numbers
in_answers search address pairs p = among_list _ _ (by (inbound_by search address pairs p) (inbound-ruled search address pairs p).holds)
  where
    by : (v : Verdict) → InboundRule search address pairs p v → among (verdict_number v) in_numbers ≡ true
    by Pass h = refl
    by Deliver h = absurd h
    by (Protect n protocol spi) h = absurd h
    by (Wanted n) h = absurd h
    by (ToIpsec protocol spi) h = refl
    by NotReadable h = refl
    by Discarded h = refl
    by CameInClear h = refl
    by NoSuchPair h = refl
    by DoesNotFit h = absurd h
    by IpsecFragment h = refl
    by IpsecTooShort h = refl
    by TriggerUnreadable h = absurd h
    by TriggerDoesNotFit h = absurd h

-- Coming in from an association.
pub sa_answers : (protocol spi : ℕ) (pairs : List Pair) (p : List ℕ)
    → Memᴰ (verdict_number (from_sa_by protocol spi pairs p)) sa_numbers
sa_answers protocol spi pairs p = among_list _ _ (by (from_sa_by protocol spi pairs p) (from_sa-ruled protocol spi pairs p).holds)
  where
    by : (v : Verdict) → FromSaRule protocol spi pairs p v → among (verdict_number v) sa_numbers ≡ true
    by Pass h = absurd h
    by Deliver h = refl
    by (Protect n q s) h = absurd h
    by (Wanted n) h = absurd h
    by (ToIpsec q s) h = absurd h
    by NotReadable h = refl
    by Discarded h = absurd h
    by CameInClear h = absurd h
    by NoSuchPair h = refl
    by DoesNotFit h = refl
    by IpsecFragment h = absurd h
    by IpsecTooShort h = absurd h
    by TriggerUnreadable h = refl
    by TriggerDoesNotFit h = refl

-- Adding a pair, and removing one.
pub add_answers : (ws : List ℕ) (q : NewPair) → Memᴰ (outcome_number (add_outcome (pairs ws) q)) add_numbers
add_answers ws q = among_list _ _ (by (add_outcome (pairs ws) q) (add-ruled ws q).holds)
  where
    by : (o : Outcome) → AddRule ws q o → among (outcome_number o) add_numbers ≡ true
    by (Ok u) h = refl
    by (Err ReservedSpi) h = refl
    by (Err AlreadyLive) h = refl
    by (Err TableFull) h = refl
    by (Err BadPair) h = refl
    by (Err NothingToRemove) h = absurd h

pub remove_answers : (ws : List ℕ) (protocol spi : ℕ) → Memᴰ (outcome_number (remove_outcome (pairs ws) protocol spi)) remove_numbers
remove_answers ws protocol spi = among_list _ _ (by (remove_outcome (pairs ws) protocol spi) (remove-ruled ws protocol spi).holds)
  where
    by : (o : Outcome) → RemoveRule ws protocol spi o → among (outcome_number o) remove_numbers ≡ true
    by (Ok u) h = refl
    by (Err ReservedSpi) h = absurd h
    by (Err AlreadyLive) h = absurd h
    by (Err TableFull) h = absurd h
    by (Err BadPair) h = absurd h
    by (Err NothingToRemove) h = refl

-- Accepting a policy file.
pub accept_answers : (limit : ℕ) (s : List ℕ) → Memᴰ (acceptance_number (accepted_file limit s)) accept_numbers
accept_answers limit s = among_list _ _ (by (accepted_file limit s))
  where
    by : (a : Result Unit AcceptError) → among (acceptance_number a) accept_numbers ≡ true
    by (Ok u) = refl
    by (Err (RefusedFile NotHeader)) = refl
    by (Err (RefusedFile NotEnded)) = refl
    by (Err (RefusedFile TooMany)) = refl
    by (Err (RefusedFile (BadRow i))) = refl
    by (Err (OverForm w)) = refl

-- Normalising.
pub normalise_answers : (limit : ℕ) (d : Direction) (room : ℕ) (s : List ℕ)
    → Memᴰ (normalised_number (normalised_file limit d room s)) normalise_numbers
normalise_answers limit d room s = among_list _ _ (by (normalised_file limit d room s))
  where
    by : (a : Result ℕ NormaliseError) → among (normalised_number a) normalise_numbers ≡ true
    by (Ok n) = refl
    by (Err (Refused NotHeader)) = refl
    by (Err (Refused NotEnded)) = refl
    by (Err (Refused TooMany)) = refl
    by (Err (Refused (BadRow i))) = refl
    by (Err (TooLarge w)) = refl
    by (Err NoRoom) = refl

-- 'An answer carries zeros where nothing is listed': of the answers to packets all but 2, 3 and 4, and of those to a policy all but 20 and 22,
-- and of those to a print all but 5, 20 and 22.
pub packet_zeros : (v : Verdict) → (Memᴰ (verdict_number v) (2 ∷ 3 ∷ 4 ∷ []) → ⊥) → carried v ≡ 0 ∷ 0 ∷ 0 ∷ []
packet_zeros Pass n = refl
packet_zeros Deliver n = refl
packet_zeros (Protect m protocol spi) n = absurd (n (among_list 2 _ refl))
packet_zeros (Wanted m) n = absurd (n (among_list 3 _ refl))
packet_zeros (ToIpsec protocol spi) n = absurd (n (among_list 4 _ refl))
packet_zeros NotReadable n = refl
packet_zeros Discarded n = refl
packet_zeros CameInClear n = refl
packet_zeros NoSuchPair n = refl
packet_zeros DoesNotFit n = refl
packet_zeros IpsecFragment n = refl
packet_zeros IpsecTooShort n = refl
packet_zeros TriggerUnreadable n = refl
packet_zeros TriggerDoesNotFit n = refl

pub policy_zeros : (a : Result Unit AcceptError) → (Memᴰ (acceptance_number a) (20 ∷ 22 ∷ []) → ⊥) → acceptance_carries a ≡ 0
policy_zeros (Ok u) n = refl
policy_zeros (Err (RefusedFile NotHeader)) n = refl
policy_zeros (Err (RefusedFile NotEnded)) n = refl
policy_zeros (Err (RefusedFile TooMany)) n = refl
policy_zeros (Err (RefusedFile (BadRow i))) n = absurd (n (among_list 20 _ refl))
policy_zeros (Err (OverForm w)) n = absurd (n (among_list 22 _ refl))

pub print_zeros : (a : Result ℕ NormaliseError) → (Memᴰ (normalised_number a) (5 ∷ 20 ∷ 22 ∷ []) → ⊥) → normalised_carries a ≡ 0
print_zeros (Ok m) n = absurd (n (among_list 5 _ refl))
print_zeros (Err (Refused NotHeader)) n = refl
print_zeros (Err (Refused NotEnded)) n = refl
print_zeros (Err (Refused TooMany)) n = refl
print_zeros (Err (Refused (BadRow i))) n = absurd (n (among_list 20 _ refl))
print_zeros (Err (TooLarge w)) n = absurd (n (among_list 22 _ refl))
print_zeros (Err NoRoom) n = refl
