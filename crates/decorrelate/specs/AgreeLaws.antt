-- A difference without rows: the policies agree. Assumes nothing.
use Rattle.std.specs.Prelude.{ℕ, ◌≤◌, ◌≡◌, refl, Bool, true, false, ◌↔◌, eqb, length, Result, Ok, Err}
use Rattle.std.proofs.Common.{arith, sym, ap, ◌∙◌, ne_eqb, eq-eqb, eqb-true}
use Rattle.std.proofs.Math.Decide.{ℕ_discrete}
use Rattle.std.proofs.lemmas.Bool.{false≢true}
use mathlib.Core.List.{List, [], ◌∷◌, cons-ne-nil}
use Rattle.selectors.specs.declared.Direction.{Direction}
use Rattle.normal_form.proofs.ShapeLaws.{normal_form_empty}
use Rattle.policy.specs.declared.Action.{Action}
use Rattle.policy.specs.declared.Action.TheVariants.{Discard}
use Rattle.policy.specs.ActionLaws.{action-≟}
use Rattle.policy.specs.Policy.{PolicyRow, ordered_search}
use Rattle.policy.specs.Words.{action_of_word, action_word}
use Rattle.policy.proofs.WordsLaws.{word_action}
use Rattle.layout.specs.Parting.{parting-≟, agreed, parted, parting_at, difference_form}
use Rattle.layout.specs.Laid.{sizes_of, room_for, Outcome}
use Rattle.layout.specs.declared.Point.{Point}
use Rattle.layout.specs.declared.LayoutError.{LayoutError}
use Rattle.layout.specs.declared.LayoutError.TheVariants.{Over, NoRoom}
use Rattle.policy_text.specs.declared.Edition.{Edition}
use Rattle.policy_text.specs.Editions.{edition_sizes, rules}
use Rattle.decorrelate.specs.Form.{form}
use Rattle.decorrelate.specs.FormLaws.{Counted, counted}
use Rattle.decorrelate.specs.Agree.{Agree}

-- The policy without rows has a normal form without rows.
pub empty-form : (d : Direction) (e : Edition) → form d (rules e []) ≡ []
unfolding ordered_search
empty-form d e = (normal_form_empty action-≟ Discard (edition_sizes e) (ordered_search d [])).1 (λ vs ok. refl)

parted-agreed : (a b : ℕ) → (parted a b ≡ agreed) ↔ (a ≡ b)
parted-agreed a b = by (ℕ_discrete a b)
  where
    by : Dec (a ≡ b) → (parted a b ≡ agreed) ↔ (a ≡ b)
    by (yes e) = (λ q. e, λ q. rw (eq-eqb a b e))
    by (no n) =
        rw (ne_eqb a b n) (
          λ q.
              let z : a ≡ 0 = λ i. (q i).first in
              let y : b ≡ 0 = λ i. (q i).second in
              z ∙ sym y,
          λ q. absurd (n q),
        )

same_action : (a b : Action) → action_word a ≡ action_word b → a ≡ b
same_action a b e = sym (word_action a) ∙ ap action_of_word e ∙ word_action b

-- Two policies have no difference exactly where they agree.
pub difference_none : (sizes : List ℕ) (d : Direction) (ps qs : List PolicyRow) → (difference_form sizes d ps qs ≡ []) ↔ Agree sizes d ps qs
unfolding parting_at
difference_none sizes d ps qs =
    let empty = normal_form_empty parting-≟ agreed sizes (parting_at d ps qs) in (
      λ e vs ok.
          same_action (ordered_search d ps vs) (ordered_search d qs vs)
          ((parted-agreed (action_word (ordered_search d ps vs)) (action_word (ordered_search d qs vs))).0 (empty.0 e vs ok)),
      λ same. empty.1
          (λ vs ok. (parted-agreed (action_word (ordered_search d ps vs)) (action_word (ordered_search d qs vs))).1 (ap action_word (same vs ok))),
    )

-- Whether an answer says that there is no difference.
abbrev pub no_rows : Result ℕ LayoutError → Bool
no_rows (Ok n) = eqb n 0
no_rows (Err e) = false

no-rows : (limit : ℕ) {A : Type 0} (L : List A) (r : Result ℕ LayoutError) → Counted limit (length L) r → (no_rows r ≡ true) ↔ (L ≡ [])
unfolding Counted
no-rows limit [] (Ok n) c = (λ e. refl, λ e. eq-eqb n 0 c.1)
no-rows limit (x ∷ L) (Ok n) c = (λ e. let h = eqb-true n 0 e in absurd (omega arith), λ e. absurd (cons-ne-nil x L e))
no-rows limit [] (Err Over) c = absurd (omega arith)
no-rows limit (x ∷ L) (Err Over) c = (λ e. absurd (false≢true e), λ e. absurd (cons-ne-nil x L e))
no-rows limit L (Err NoRoom) c = absurd c

-- What the layout of a difference answers says whether the policies agree.
pub answers_agree : (limit : ℕ) (sizes : List ℕ) (highest : Point) (d : Direction) (ps qs : List PolicyRow) (room room' : List ℕ) (r : Result ℕ LayoutError)
    → room_for limit ≤ length room → Outcome limit (difference_form (sizes_of highest) d ps qs) room room' r → sizes_of highest ≡ sizes
    → (no_rows r ≡ true) ↔ Agree sizes d ps qs
answers_agree limit sizes highest d ps qs room room' r enough o same =
    let D = difference_form (sizes_of highest) d ps qs in
    let none = no-rows limit D r (counted limit (length D) (length room) r enough o.answer) in
    let e : D ≡ difference_form sizes d ps qs = rw same in
    let agree = difference_none sizes d ps qs in
    (λ h. agree.0 (sym e ∙ none.0 h), λ h. none.1 (e ∙ agree.1 h))
