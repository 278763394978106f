-- Renaming leaves: where different leaves stay different, the normal form is only renamed. Assumes nothing.
use Prim.Native.Nat.{ℕ}
use Rattle.std.specs.Prelude.{◌≡◌}
use Rattle.std.proofs.Math.Path.{refl, sym, ap}
use Rattle.std.proofs.Common.{◌∙◌}
use mathlib.Core.List.{List, [], ◌∷◌, map, map-append, map-map}
use Rattle.std.proofs.Math.Logic.{⊎_elim}
use Rattle.normal_form.specs.Search.{Row, row}
use Rattle.normal_form.specs.NormalForm.{interval, Intervals, start, ◌▸◌, rows_of, runs, normal_form}
use Rattle.normal_form.proofs.RunsLaws.{Ends, Runs, runs_ext, runs_longest, longest-runs}
use Rattle.normal_form.proofs.Laws.{leaf_cases}

-- A row with its leaf renamed.
abbrev pub map_leaf : {A B : Type 0} → (A → B) → Row A → Row B
map_leaf g r = row r.ranges (g r.leaf)

module _ {A B : Type 0} (g : A → B) where
  renamed : Intervals A → Intervals B
  renamed start = start
  renamed (ts ▸ t) = renamed ts ▸ interval t.low t.high (map (map_leaf g) t.layout)

  rows_renamed : (ts : Intervals A) → rows_of (renamed ts) ≡ map (map_leaf g) (rows_of ts)
  unfolding rows_of renamed
  rows_renamed start = refl
  rows_renamed (ts ▸ t) = simp (map-append, map-map, rows_renamed ts)

  module _ (inj : (a a' : A) → g a ≡ g a' → a ≡ a') where
    map_inj : (L M : List (Row A)) → map (map_leaf g) L ≡ map (map_leaf g) M → L ≡ M
    map_inj [] [] e = refl
    map_inj [] (q ∷ M) e = cc
    map_inj (r ∷ L) [] e = cc
    map_inj (r ∷ L) (q ∷ M) e =
        let h : map_leaf g r ≡ map_leaf g q = cc in
        let h' : r ≡ q = λ i. row (h i).ranges (inj r.leaf q.leaf (λ j. (h j).leaf) i) in
        let t : L ≡ M = map_inj L M (cc) in
        cc

    runs_renamed : (k : ℕ → List (Row A)) (n : ℕ) (ts : Intervals A) → Runs k n ts → Runs (λ v. map (map_leaf g) (k v)) n (renamed ts)
    unfolding Runs Ends renamed
    runs_renamed k n start r = r
    runs_renamed k n (ts ▸ t) r = (r.0, r.1, λ v p q. ap (map (map_leaf g)) (r.2 v p q), ends ts r.3, runs_renamed k t.low ts r.4)
      where
        ends : (us : Intervals A) → Ends t.layout us → Ends (map (map_leaf g) t.layout) (renamed us)
        ends start d = tt
        ends (us ▸ u) d = λ e. d (map_inj _ _ e)

    -- The normal form of a function with its leaves renamed is the normal form with its rows' leaves renamed.
    pub normal_form-map : (same? : Discrete A) (same?' : Discrete B) (none : A) (sizes : List ℕ) (f : List ℕ → A)
        → map (map_leaf g) (normal_form same? none sizes f) ≡ normal_form same?' (g none) sizes (λ vs. g (f vs))
    unfolding normal_form
    normal_form-map same? same?' none [] f =
        let image = leaf_cases same?' (g none) (λ vs. g (f vs)) in
        ⊎_elim
        (λ c. ⊎_elim (λ d. rw (c.1, d.1)) (λ d. absurd (d.0 (ap g c.0))) image)
        (λ c. ⊎_elim (λ d. absurd (c.0 (inj _ _ d.0))) (λ d. rw (c.1, d.1)) image)
        (leaf_cases same? none f)
    normal_form-map same? same?' none (S ∷ Ss) f =
        let k : ℕ → List (Row A) = λ v. normal_form same? none Ss (λ vs. f (v ∷ vs)) in
        sym (rows_renamed (runs same? k S))
        ∙ ap rows_of
        (longest-runs same?' _ S (renamed (runs same? k S)) (runs_renamed k S _ (runs_longest same? k S))
        ∙ runs_ext same?' _ _ S (λ v h. normal_form-map same? same?' none Ss (λ vs. f (v ∷ vs))))
