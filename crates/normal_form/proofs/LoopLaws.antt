-- A loop that goes from cut to cut of a field computes its intervals. Assumes nothing.
use Rattle.std.specs.Prelude.{ℕ, suc, ◌≤◌, ◌<◌, ◌-◌, ◌≡◌, refl, Bool, cond, ◌↔◌}
use Rattle.std.proofs.Common.{arith, sym, ◌∙◌}
use Rattle.std.proofs.Math.Path.{ap}
use Rattle.std.proofs.Math.Bool.{true, false, false≢true}
use mathlib.Core.List.{List, [], ◌∷◌, ◌++◌, map}
use Rattle.normal_form.specs.Search.{Row}
use Rattle.normal_form.specs.NormalForm.{Interval, Intervals, ◌▸◌, under, rows_of, push, runs, normal_form}
use Rattle.normal_form.specs.Layout.{Alike}
use Rattle.normal_form.proofs.RunsLaws.{Ends, rows_last, push_same, push_new, runs_block}
use Rattle.normal_form.proofs.Laws.{normal_form_alike}

-- The cuts rise from v to n, and from one to the next the layout is the same.
unfoldable pub Cuts : {A : Type 0} → (ℕ → List (Row A)) → ℕ → List ℕ → ℕ → Type 0
Cuts k v [] n = v ≡ n
Cuts k v (w ∷ ws) n = (v < w) × ((u : ℕ) → v ≤ u → u < w → k u ≡ k v) × Cuts k w ws n

module _ {A : Type 0} (same? : Discrete A) where
  -- One turn of the loop: the values from v up to the next cut w, and without w, are pushed in one step.
  pub runs_step : (k : ℕ → List (Row A)) (v w : ℕ) → v < w → ((u : ℕ) → v ≤ u → u < w → k u ≡ k v)
      → push same? v (w - 1) (k v) (runs same? k v) ≡ runs same? k w
  runs_step k v w h c =
      let e : suc (w - 1) ≡ w = omega arith in
      sym (runs_block same? k v (w - 1) (k v) (omega arith) (λ u p q. c u p (omega arith))) ∙ ap (runs same? k) e

  -- One turn on the rows, by a test b of whether the last interval has the layout L.
  pub rows-push : (v w : ℕ) (L : List (Row A)) (ts : Intervals A) (t : Interval A) (b : Bool) → (b ≡ true) ↔ (t.layout ≡ L)
      → rows_of (push same? v w L (ts ▸ t))
      ≡ cond b (rows_of ts ++ map (under t.low w) L) (rows_of (ts ▸ t) ++ map (under v w) L)
  unfolding Ends
  rows-push v w L ts t true e = ap rows_of (push_same same? v w L ts t (e.0 refl)) ∙ rows_last ts _
  rows-push v w L ts t false e = ap rows_of (push_new same? v w L (ts ▸ t) (λ h. false≢true (e.1 h))) ∙ rows_last (ts ▸ t) _

  -- The loop: from v, with the intervals so far, through the cuts.
  unfoldable pub jump : (ℕ → List (Row A)) → ℕ → List ℕ → Intervals A → Intervals A
  jump k v [] ts = ts
  jump k v (w ∷ ws) ts = jump k w ws (push same? v (w - 1) (k v) ts)

  -- The loop through the cuts up to n gives the intervals of the values below n.
  pub jump-runs : (k : ℕ → List (Row A)) (v : ℕ) (ws : List ℕ) (n : ℕ) → Cuts k v ws n → jump k v ws (runs same? k v) ≡ runs same? k n
  unfolding jump Cuts
  jump-runs k v [] n c = ap (runs same? k) c
  jump-runs k v (w ∷ ws) n c = ap (jump k w ws) (runs_step k v w c.0 c.1) ∙ jump-runs k w ws n c.2

  -- Where the values from v up to w are treated alike, they have the layout of v: so such a w may be the next cut.
  pub normal_form_between : (none : A) (Ss : List ℕ) (f : List ℕ → A) (v w : ℕ) → ((u : ℕ) → v ≤ u → u < w → Alike Ss f u v)
      → (u : ℕ) → v ≤ u → u < w → normal_form same? none Ss (λ vs. f (u ∷ vs)) ≡ normal_form same? none Ss (λ vs. f (v ∷ vs))
  normal_form_between none Ss f v w c u p q = (normal_form_alike same? none Ss f u v).1 (c u p q)
