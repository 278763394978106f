-- An answer is given exactly where its rule says so, for answers that are told by their number and values. Assumes nothing.
use Rattle.std.specs.Prelude.{ℕ, ◌≡◌, refl, cond, List, ◌↔◌, eqb, get_or, Result, Ok, Err}
use Rattle.std.proofs.Common.{sym, ap, ◌∙◌, subst}
use Rattle.selectors.specs.declared.Direction.{Direction}
use Rattle.selectors.specs.declared.Direction.TheVariants.{Out, In}
use Rattle.verdicts.specs.Verdict.{verdict_number, carried}
use Rattle.verdicts.specs.declared.Verdict.{Verdict}
use Rattle.verdicts.specs.declared.Verdict.TheVariants.{Pass, Deliver, Protect, Wanted, ToIpsec, NotReadable, Discarded, CameInClear, NoSuchPair, DoesNotFit, IpsecFragment, IpsecTooShort, TriggerUnreadable, TriggerDoesNotFit}
use Rattle.sad.specs.Pairs.{outcome_number}
use Rattle.sad.specs.Pairs.{Outcome, done}
use Rattle.sad.specs.declared.PairError.TheVariants.{ReservedSpi, AlreadyLive, TableFull, BadPair, NothingToRemove}
use Rattle.policy_text.specs.declared.Refusal.{Refusal}
use Rattle.policy_text.specs.declared.Refusal.TheVariants.{NotHeader, NotEnded, TooMany, BadRow}
use Rattle.normal_form_file.specs.Normalise.{normalised_number, normalised_carries}
use Rattle.normal_form_file.specs.declared.NormaliseError.{NormaliseError}
use Rattle.normal_form_file.specs.declared.NormaliseError.TheVariants.{Refused, TooLarge, NoRoom}
use Rattle.acceptance.specs.Spd.{acceptance_number, acceptance_carries}
use Rattle.acceptance.specs.declared.AcceptError.{AcceptError}
use Rattle.acceptance.specs.declared.AcceptError.TheVariants.{Refused as RefusedFile, TooLarge as OverForm}

-- A rule for each answer: the answer's own rule holds, and no other answer's does.
pub record Ruled {A : Type 0} (Rule : A → Type 0) (a : A) : Type 0 where
  pub holds : Rule a
  pub only : (b : A) → Rule b → a ≡ b

pub rule_iff : {A : Type 0} {Rule : A → Type 0} {a : A} → Ruled Rule a → (b : A) → (a ≡ b) ↔ Rule b
rule_iff {A} {Rule} r b = (λ e. subst Rule e r.holds, r.only b)

-- Answers of a kind, told by their number and what they carry: `answer_of` is the answer of a number and values.
module _ {A X : Type 0} (number : A → ℕ) (values : A → X) (answer_of : ℕ → X → A) (told : (a : A) → answer_of (number a) (values a) ≡ a)
    {Rule : A → Type 0} {a : A} (r : Ruled Rule a) where
  -- By the number alone, and by the number and what is carried.
  by_number : (n : ℕ) → number (answer_of n (values a)) ≡ n → (number a ≡ n) ↔ Rule (answer_of n (values a))
  by_number n e =
      let iff = rule_iff r (answer_of n (values a)) in
      (λ h. iff.0 (sym (told a) ∙ ap (λ (m : ℕ). answer_of m (values a)) h), λ q. ap number (iff.1 q) ∙ e)

  by_both : (n : ℕ) (x : X) → number (answer_of n x) ≡ n → values (answer_of n x) ≡ x → ((number a ≡ n) × (values a ≡ x)) ↔ Rule (answer_of n x)
  by_both n x e f =
      let iff = rule_iff r (answer_of n x) in
      (λ h. iff.0 (sym (told a) ∙ rw (h.0, h.1)), λ q. (ap number (iff.1 q) ∙ e, ap values (iff.1 q) ∙ f))

-- The verdict of a number and values.
abbrev pub verdict_of : ℕ → List ℕ → Verdict
verdict_of n xs =
    cond (eqb n 0) Pass
    (cond (eqb n 1) Deliver
    (cond (eqb n 2) (Protect (get_or xs 0 0) (get_or xs 1 0) (get_or xs 2 0))
    (cond (eqb n 3) (Wanted (get_or xs 0 0))
    (cond (eqb n 4) (ToIpsec (get_or xs 0 0) (get_or xs 1 0))
    (cond (eqb n 10) NotReadable
    (cond (eqb n 11) Discarded
    (cond (eqb n 12) CameInClear
    (cond (eqb n 13) NoSuchPair
    (cond (eqb n 14) DoesNotFit
    (cond (eqb n 15) IpsecFragment
    (cond (eqb n 16) IpsecTooShort
    (cond (eqb n 17) TriggerUnreadable
    TriggerDoesNotFit))))))))))))

verdict_told : (v : Verdict) → verdict_of (verdict_number v) (carried v) ≡ v
verdict_told Pass = refl
verdict_told Deliver = refl
verdict_told (Protect n protocol spi) = refl
verdict_told (Wanted n) = refl
verdict_told (ToIpsec protocol spi) = refl
verdict_told NotReadable = refl
verdict_told Discarded = refl
verdict_told CameInClear = refl
verdict_told NoSuchPair = refl
verdict_told DoesNotFit = refl
verdict_told IpsecFragment = refl
verdict_told IpsecTooShort = refl
verdict_told TriggerUnreadable = refl
verdict_told TriggerDoesNotFit = refl

module _ {Rule : Verdict → Type 0} {v : Verdict} (r : Ruled Rule v) where
  pub verdict_exactly : (n : ℕ) → verdict_number (verdict_of n (carried v)) ≡ n → (verdict_number v ≡ n) ↔ Rule (verdict_of n (carried v))
  verdict_exactly = by_number verdict_number carried verdict_of verdict_told r

  pub verdict_carrying : (n : ℕ) (xs : List ℕ) → verdict_number (verdict_of n xs) ≡ n → carried (verdict_of n xs) ≡ xs
      → ((verdict_number v ≡ n) × (carried v ≡ xs)) ↔ Rule (verdict_of n xs)
  verdict_carrying = by_both verdict_number carried verdict_of verdict_told r

-- The outcome of a number: it carries nothing.
abbrev pub outcome_of : ℕ → Outcome
outcome_of n =
    cond (eqb n 5) done
    (cond (eqb n 25) (Err ReservedSpi)
    (cond (eqb n 26) (Err AlreadyLive)
    (cond (eqb n 27) (Err TableFull)
    (cond (eqb n 28) (Err BadPair)
    (Err NothingToRemove)))))

outcome_told : (o : Outcome) → outcome_of (outcome_number o) ≡ o
outcome_told (Ok u) = refl
outcome_told (Err ReservedSpi) = refl
outcome_told (Err AlreadyLive) = refl
outcome_told (Err TableFull) = refl
outcome_told (Err BadPair) = refl
outcome_told (Err NothingToRemove) = refl

pub outcome_exactly : {Rule : Outcome → Type 0} {o : Outcome} → Ruled Rule o → (n : ℕ) → outcome_number (outcome_of n) ≡ n
    → (outcome_number o ≡ n) ↔ Rule (outcome_of n)
outcome_exactly r = by_number outcome_number (λ (o : Outcome). 0) (λ (n x : ℕ). outcome_of n) outcome_told r

-- The refusal of a file, of a number and a value.
abbrev pub refusal_of : ℕ → ℕ → Refusal
refusal_of n x = cond (eqb n 20) (BadRow x) (cond (eqb n 21) TooMany (cond (eqb n 23) NotHeader NotEnded))

-- The answer of a print, of a number and a value.
abbrev pub direction_of : ℕ → Direction
direction_of x = cond (eqb x 1) Out In

abbrev pub normalised_of : ℕ → ℕ → Result ℕ NormaliseError
normalised_of n x =
    cond (eqb n 5) (Ok x)
    (cond (eqb n 22) (Err (TooLarge (direction_of x)))
    (cond (eqb n 31) (Err NoRoom)
    (Err (Refused (refusal_of n x)))))

normalised_told : (a : Result ℕ NormaliseError) → normalised_of (normalised_number a) (normalised_carries a) ≡ a
normalised_told (Ok n) = refl
normalised_told (Err (Refused NotHeader)) = refl
normalised_told (Err (Refused NotEnded)) = refl
normalised_told (Err (Refused TooMany)) = refl
normalised_told (Err (Refused (BadRow i))) = refl
normalised_told (Err (TooLarge Out)) = refl
normalised_told (Err (TooLarge In)) = refl
normalised_told (Err NoRoom) = refl

module _ {Rule : Result ℕ NormaliseError → Type 0} {a : Result ℕ NormaliseError} (r : Ruled Rule a) where
  pub normalised_exactly : (n : ℕ) → normalised_number (normalised_of n (normalised_carries a)) ≡ n
      → (normalised_number a ≡ n) ↔ Rule (normalised_of n (normalised_carries a))
  normalised_exactly = by_number normalised_number normalised_carries normalised_of normalised_told r

  pub normalised_carrying : (n x : ℕ) → normalised_number (normalised_of n x) ≡ n → normalised_carries (normalised_of n x) ≡ x
      → ((normalised_number a ≡ n) × (normalised_carries a ≡ x)) ↔ Rule (normalised_of n x)
  normalised_carrying = by_both normalised_number normalised_carries normalised_of normalised_told r

-- The answer to a policy file, of a number and a value.
abbrev pub acceptance_of : ℕ → ℕ → Result Unit AcceptError
acceptance_of n x =
    cond (eqb n 5) (Ok tt)
    (cond (eqb n 22) (Err (OverForm (direction_of x)))
    (Err (RefusedFile (refusal_of n x))))

acceptance_told : (a : Result Unit AcceptError) → acceptance_of (acceptance_number a) (acceptance_carries a) ≡ a
acceptance_told (Ok u) = refl
acceptance_told (Err (RefusedFile NotHeader)) = refl
acceptance_told (Err (RefusedFile NotEnded)) = refl
acceptance_told (Err (RefusedFile TooMany)) = refl
acceptance_told (Err (RefusedFile (BadRow i))) = refl
acceptance_told (Err (OverForm Out)) = refl
acceptance_told (Err (OverForm In)) = refl

module _ {Rule : Result Unit AcceptError → Type 0} {a : Result Unit AcceptError} (r : Ruled Rule a) where
  pub acceptance_exactly : (n : ℕ) → acceptance_number (acceptance_of n (acceptance_carries a)) ≡ n
      → (acceptance_number a ≡ n) ↔ Rule (acceptance_of n (acceptance_carries a))
  acceptance_exactly = by_number acceptance_number acceptance_carries acceptance_of acceptance_told r

  pub acceptance_carrying : (n x : ℕ) → acceptance_number (acceptance_of n x) ≡ n → acceptance_carries (acceptance_of n x) ≡ x
      → ((acceptance_number a ≡ n) × (acceptance_carries a ≡ x)) ↔ Rule (acceptance_of n x)
  acceptance_carrying = by_both acceptance_number acceptance_carries acceptance_of acceptance_told r
