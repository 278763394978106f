-- Document 01's description of the normal form and the computation are one. Assumes nothing.
-- So rows are shown to be a normal form by naming their intervals, at any sizes, without computing it.
use Prim.Native.Nat.{ℕ}
use Rattle.std.proofs.Common.{arith, ◌∙◌}
use Rattle.std.specs.Prelude.{◌≡◌, refl, ◌↔◌}
use Rattle.std.proofs.Math.Path.{sym, ap}
use mathlib.Core.List.{List, [], ◌∷◌}
use Rattle.std.proofs.Math.Logic.{inl, inr, ⊎_elim}
use Rattle.normal_form.specs.Search.{Row}
use Rattle.normal_form.specs.NormalForm.{Interval, Intervals, start, ◌▸◌, rows_of, runs, normal_form}
use Rattle.normal_form.specs.Layout.{Alike, Parted, Longest, Each, Layout}
use Rattle.normal_form.proofs.RunsLaws.{Ends, Runs, runs_longest, longest-runs}
use Rattle.normal_form.proofs.Laws.{leaf_cases, normal_form_alike}

module _ {A : Type 0} where
  each_map : (P Q : Interval A → Type 0) → ((t : Interval A) → P t → Q t) → (ts : Intervals A) → Each P ts → Each Q ts
  unfolding Each
  each_map P Q h start p = tt
  each_map P Q h (ts ▸ t) p = (each_map P Q h ts p.0, h t p.1)

  module _ (alike : ℕ → ℕ → Type 0) (k : ℕ → List (Row A)) (same : (v w : ℕ) → (k v ≡ k w) ↔ alike v w) where
    parted_iff : (n : ℕ) (ts : Intervals A) (v : ℕ) → Runs k n ts → Parted alike ts v ↔ Ends (k v) ts
    unfolding Parted Ends Runs
    parted_iff n start v g = (λ p. tt, λ p. tt)
    parted_iff n (ts ▸ t) v g =
        let high : k t.high ≡ t.layout = g.2 t.high g.0 (omega arith) in
        (λ p e. p ((same t.high v).0 (high ∙ e)), λ p a. p (sym high ∙ (same t.high v).1 a))

    -- Where alike values are those of one layout, the longest intervals with their lowest values' layouts are the runs.
    pub longest_iff : (n : ℕ) (ts : Intervals A) → (Longest alike n ts × Each (λ t. t.layout ≡ k t.low) ts) ↔ Runs k n ts
    unfolding Longest Each Runs
    longest_iff n start = (λ g. g.0, λ g. (g, tt))
    longest_iff n (ts ▸ t) =
        let ih = longest_iff t.low ts in
        let parted = parted_iff t.low ts t.low in (
          λ g.
              let below = ih.0 (g.0.4, g.1.0) in
              (g.0.0, g.0.1, λ v p q. sym (g.1.1 ∙ (same t.low v).1 (g.0.2 v p q)), rw g.1.1 ((parted below).0 g.0.3), below),
          λ g.
              let low : k t.low ≡ t.layout = g.2 t.low (omega arith) g.0 in
              let below = ih.1 g.4 in
              ((g.0, g.1, λ v p q. (same t.low v).0 (low ∙ sym (g.2 v p q)), (parted g.4).1 (rw low g.3), below.0), (below.1, sym low)),
        )

module _ {A : Type 0} (same? : Discrete A) where
  -- Rows are a layout as document 01 describes it exactly if they are the normal form.
  pub layout_iff : (none : A) (sizes : List ℕ) (f : List ℕ → A) (rows : List (Row A))
      → Layout none sizes f rows ↔ (rows ≡ normal_form same? none sizes f)
  unfolding Layout normal_form
  layout_iff none [] f rows =
      ⊎_elim
      (λ c. (⊎_elim (λ p. p.1 ∙ sym c.1) (λ p. absurd (p.0 c.0)), λ e. inl (c.0, e ∙ c.1)))
      (λ c. (⊎_elim (λ p. absurd (c.0 p.0)) (λ p. p.1 ∙ sym c.1), λ e. inr (c.0, e ∙ c.1)))
      (leaf_cases same? none f)
  layout_iff none (S ∷ Ss) f rows =
      let k : ℕ → List (Row A) = λ v. normal_form same? none Ss (λ vs. f (v ∷ vs)) in
      let iff = longest_iff (Alike Ss f) k (normal_form_alike same? none Ss f) S in
      let ih : (t : Interval A) → Layout none Ss (λ vs. f (t.low ∷ vs)) t.layout ↔ (t.layout ≡ k t.low)
      = λ t. layout_iff none Ss (λ vs. f (t.low ∷ vs)) t.layout in (
        λ l. l.3 ∙ ap rows_of (longest-runs same? k S l.0 ((iff l.0).0 (l.1, each_map _ _ (λ t. (ih t).0) l.0 l.2))),
        λ e.
            let g = (iff (runs same? k S)).1 (runs_longest same? k S) in
            (runs same? k S, g.0, each_map _ _ (λ t. (ih t).1) (runs same? k S) g.1, e),
      )

  -- A layout with a field at one value is the layout at any value treated alike: so any value of an interval may stand for its lowest.
  pub layout_alike : (none : A) (Ss : List ℕ) (f : List ℕ → A) (u v : ℕ) (rows : List (Row A)) → Alike Ss f u v
      → Layout none Ss (λ vs. f (u ∷ vs)) rows → Layout none Ss (λ vs. f (v ∷ vs)) rows
  layout_alike none Ss f u v rows a l =
      (layout_iff none Ss (λ vs. f (v ∷ vs)) rows).1
      ((layout_iff none Ss (λ vs. f (u ∷ vs)) rows).0 l ∙ (normal_form_alike same? none Ss f u v).1 a)

-- Whatever decides equality, the normal form is the same.
pub normal_form_decision : {A : Type 0} (same? same?' : Discrete A) (none : A) (sizes : List ℕ) (f : List ℕ → A)
    → normal_form same? none sizes f ≡ normal_form same?' none sizes f
normal_form_decision same? same?' none sizes f = (layout_iff same?' none sizes f _).0 ((layout_iff same? none sizes f _).1 refl)
