-- The normal form of rows that are searched in order, computed from cut points: so an example at the real sizes is proved by computing it.
-- Assumes nothing.
use Rattle.std.specs.Prelude.{ℕ, suc, ◌≤◌, ◌<◌, ◌≡◌, Bool, not, ◌&&◌, ◌||◌, ◌⊎◌, leb, ltb, eqb}
use Rattle.std.proofs.Common.{arith, ◌∙◌, inl, inr, ⊎_elim}
use Rattle.std.proofs.Math.Decide.{dec_le}
use Rattle.std.proofs.Math.Path.{refl, ap}
use Rattle.std.proofs.Math.Bool.{true, false, cond}
use Rattle.std.proofs.lemmas.Bool.{false≢true}
use mathlib.Core.List.{List, [], ◌∷◌}
use borrow.Author.Tests.{ltb-true, eqb-true, le-leb, lt-leb}
use Rattle.selectors.specs.Range.{Range, contains, holds}
use Rattle.selectors.proofs.RangeLaws.{both_true}
use Rattle.normal_form.specs.Search.{Row, row, find}
use Rattle.normal_form.specs.NormalForm.{start, rows_of, runs, normal_form}
use Rattle.normal_form.proofs.RunsLaws.{runs_ext}
use Rattle.normal_form.proofs.LoopLaws.{jump, Cuts, jump-runs}
use Rattle.normal_form.proofs.Laws.{normal_form_ext}

unfoldable pub is_cut : ℕ → List ℕ → Bool
is_cut x [] = false
is_cut x (w ∷ ws) = eqb x w || is_cut x ws

-- The cuts of a field rise from v to its size.
unfoldable pub rising : ℕ → List ℕ → ℕ → Bool
rising v [] n = eqb v n
rising v (w ∷ ws) n = ltb v w && rising w ws n

unfoldable pub cuts_rise : List ℕ → List (List ℕ) → Bool
cuts_rise [] [] = true
cuts_rise [] (ws ∷ wss) = false
cuts_rise (S ∷ Ss) [] = false
cuts_rise (S ∷ Ss) (ws ∷ wss) = rising 0 ws S && cuts_rise Ss wss

-- Each range of each row begins at 0 or at a cut of its field, and a cut follows its end.
unfoldable pub ranges_cut : List (List ℕ) → List Range → Bool
ranges_cut [] [] = true
ranges_cut [] (r ∷ rs) = false
ranges_cut (ws ∷ wss) [] = false
ranges_cut (ws ∷ wss) (r ∷ rs) = ((eqb r.low 0 || is_cut r.low ws) && is_cut (suc r.high) ws) && ranges_cut wss rs

module _ {A : Type 0} where
  unfoldable pub are_rows_cut : List (List ℕ) → List (Row A) → Bool
  are_rows_cut cuts [] = true
  are_rows_cut cuts (r ∷ rs) = ranges_cut cuts r.ranges && are_rows_cut cuts rs

  -- The rows whose first range holds v, without that range.
  unfoldable pub narrowed : ℕ → List Range → A → List (Row A) → List (Row A)
  narrowed v [] a rest = rest
  narrowed v (q ∷ qs) a rest = cond (contains q v) (row qs a ∷ rest) rest

  unfoldable pub behind : ℕ → List (Row A) → List (Row A)
  behind v [] = []
  behind v (r ∷ rs) = narrowed v r.ranges r.leaf (behind v rs)

  find-narrowed : (none : A) (v : ℕ) (vs : List ℕ) (rs : List Range) (a : A) (rest : List (Row A))
      → find none (narrowed v rs a rest) vs ≡ cond (holds rs (v ∷ vs)) a (find none rest vs)
  unfolding find holds narrowed
  find-narrowed none v vs [] a rest = refl
  find-narrowed none v vs (q ∷ qs) a rest = by (contains q v) refl
    where
      by : (b : Bool) → contains q v ≡ b
          → find none (cond (contains q v) (row qs a ∷ rest) rest) vs ≡ cond (contains q v && holds qs vs) a (find none rest vs)
      by true e = rw e
      by false e = rw e

  -- The search with the first value at v is the search of the rows behind it.
  find-behind : (none : A) (v : ℕ) (vs : List ℕ) (rows : List (Row A)) → find none (behind v rows) vs ≡ find none rows (v ∷ vs)
  unfolding find behind
  find-behind none v vs [] = refl
  find-behind none v vs (r ∷ rs) =
      find-narrowed none v vs r.ranges r.leaf (behind v rs)
      ∙ ap (cond (holds r.ranges (v ∷ vs)) r.leaf) (find-behind none v vs rs)

-- A cut is not above v, or is one of the cuts that follow.
abbrev Placed : ℕ → ℕ → List ℕ → Type 0
Placed x v ws = (x ≤ v) ⊎ (is_cut x ws ≡ true)

either : (a b : Bool) → (a || b) ≡ true → (a ≡ true) ⊎ (b ≡ true)
either true b e = inl refl
either false b e = inr e

above : (v : ℕ) (ws : List ℕ) (n x : ℕ) → rising v ws n ≡ true → is_cut x ws ≡ true → v < x
unfolding rising is_cut
above v [] n x r i = absurd (false≢true i)
above v (w ∷ ws) n x r i =
    let p = both_true (ltb v w) (rising w ws n) r in
    let h : v < w = ltb-true v w p.0 in
    ⊎_elim (λ e. let q : x ≡ w = eqb-true x w e in omega arith) (λ e. omega (arith, above w ws n x p.1 e)) (either (eqb x w) (is_cut x ws) i)

-- Between two cuts that follow each other no cut lies, so x stands to each value there as to the first.
placed-next : (x v w : ℕ) (ws : List ℕ) → v < w → Placed x v (w ∷ ws) → Placed x w ws
unfolding is_cut
placed-next x v w ws h (inl p) = inl (omega arith)
placed-next x v w ws h (inr i) = ⊎_elim (λ e. let q : x ≡ w = eqb-true x w e in inl (omega arith)) inr (either (eqb x w) (is_cut x ws) i)

placed_same : (x v w : ℕ) (ws : List ℕ) (n : ℕ) → rising v (w ∷ ws) n ≡ true → Placed x v (w ∷ ws) → (u : ℕ) → v ≤ u → u < w → leb x u ≡ leb x v
unfolding rising is_cut
placed_same x v w ws n r (inl p) u h g = rw (le-leb x u (omega arith), le-leb x v p)
placed_same x v w ws n r (inr i) u h g =
    let k : w ≤ x = ⊎_elim (λ e. let q : x ≡ w = eqb-true x w e in omega arith)
    (λ e. omega (arith, above w ws n x (both_true (ltb v w) (rising w ws n) r).1 e)) (either (eqb x w) (is_cut x ws) i) in
    rw (lt-leb x u (omega arith), lt-leb x v (omega arith))

not_above : (h u : ℕ) → leb u h ≡ not (leb (suc h) u)
not_above h u = by (dec_le u h)
  where
    by : Dec (u ≤ h) → leb u h ≡ not (leb (suc h) u)
    by (yes p) = rw (le-leb u h p, lt-leb (suc h) u (omega arith))
    by (no p) = rw (lt-leb u h (omega arith), le-leb (suc h) u (omega arith))

-- Where the low end and the value after the high end are so placed, the range holds all values up to the next cut or none.
contains_same : (r : Range) (v w : ℕ) (ws : List ℕ) (n : ℕ) → rising v (w ∷ ws) n ≡ true → Placed r.low v (w ∷ ws) → Placed (suc r.high) v (w ∷ ws)
    → (u : ℕ) → v ≤ u → u < w → contains r u ≡ contains r v
unfolding contains
contains_same r v w ws n g p q u h k =
    rw (placed_same r.low v w ws n g p u h k, not_above r.high u, placed_same (suc r.high) v w ws n g q u h k, ← not_above r.high v)

-- The ends of the first range are so placed; and those of each row.
unfoldable FirstPlaced : List Range → ℕ → List ℕ → Type 0
FirstPlaced [] v ws = Unit
FirstPlaced (r ∷ rs) v ws = Placed r.low v ws × Placed (suc r.high) v ws

first_start : (ws : List ℕ) (wss : List (List ℕ)) (rs : List Range) → ranges_cut (ws ∷ wss) rs ≡ true → FirstPlaced rs 0 ws
unfolding ranges_cut FirstPlaced
first_start ws wss [] e = tt
first_start ws wss (r ∷ rs) e =
    let p = both_true ((eqb r.low 0 || is_cut r.low ws) && is_cut (suc r.high) ws) (ranges_cut wss rs) e in
    let q = both_true (eqb r.low 0 || is_cut r.low ws) (is_cut (suc r.high) ws) p.0 in
    (⊎_elim (λ z. let k : r.low ≡ 0 = eqb-true r.low 0 z in inl (omega arith)) inr (either _ _ q.0), inr q.1)

first_next : (rs : List Range) (v w : ℕ) (ws : List ℕ) → v < w → FirstPlaced rs v (w ∷ ws) → FirstPlaced rs w ws
unfolding FirstPlaced
first_next [] v w ws h p = tt
first_next (r ∷ rs) v w ws h p = (placed-next r.low v w ws h p.0, placed-next (suc r.high) v w ws h p.1)

module _ {A : Type 0} where
  unfoldable AllPlaced : List (Row A) → ℕ → List ℕ → Type 0
  AllPlaced [] v ws = Unit
  AllPlaced (r ∷ rs) v ws = FirstPlaced r.ranges v ws × AllPlaced rs v ws

  placed_start : (ws : List ℕ) (wss : List (List ℕ)) (rows : List (Row A)) → are_rows_cut (ws ∷ wss) rows ≡ true → AllPlaced rows 0 ws
  unfolding are_rows_cut AllPlaced
  placed_start ws wss [] e = tt
  placed_start ws wss (r ∷ rs) e =
      let p = both_true (ranges_cut (ws ∷ wss) r.ranges) (are_rows_cut (ws ∷ wss) rs) e in
      (first_start ws wss r.ranges p.0, placed_start ws wss rs p.1)

  all-next : (rows : List (Row A)) (v w : ℕ) (ws : List ℕ) → v < w → AllPlaced rows v (w ∷ ws) → AllPlaced rows w ws
  unfolding AllPlaced
  all-next [] v w ws h p = tt
  all-next (r ∷ rs) v w ws h p = (first_next r.ranges v w ws h p.0, all-next rs v w ws h p.1)

  narrowed_same : (rs : List Range) (a : A) (rest : List (Row A)) (v w : ℕ) (ws : List ℕ) (n : ℕ) → rising v (w ∷ ws) n ≡ true
      → FirstPlaced rs v (w ∷ ws) → (u : ℕ) → v ≤ u → u < w → narrowed u rs a rest ≡ narrowed v rs a rest
  unfolding FirstPlaced narrowed
  narrowed_same [] a rest v w ws n g p u h k = refl
  narrowed_same (r ∷ rs) a rest v w ws n g p u h k = rw (contains_same r v w ws n g p.0 p.1 u h k)

  behind_same : (rows : List (Row A)) (v w : ℕ) (ws : List ℕ) (n : ℕ) → rising v (w ∷ ws) n ≡ true
      → AllPlaced rows v (w ∷ ws) → (u : ℕ) → v ≤ u → u < w → behind u rows ≡ behind v rows
  unfolding AllPlaced behind
  behind_same [] v w ws n g p u h k = refl
  behind_same (r ∷ rs) v w ws n g p u h k =
      ap (narrowed u r.ranges r.leaf) (behind_same rs v w ws n g p.1 u h k)
      ∙ narrowed_same r.ranges r.leaf (behind v rs) v w ws n g p.0 u h k

  -- The rows behind a value are cut by the later fields' cuts.
  narrowed-cut : (ws : List ℕ) (wss : List (List ℕ)) (v : ℕ) (rs : List Range) (a : A) (rest : List (Row A))
      → ranges_cut (ws ∷ wss) rs ≡ true → are_rows_cut wss rest ≡ true → are_rows_cut wss (narrowed v rs a rest) ≡ true
  unfolding ranges_cut are_rows_cut narrowed
  narrowed-cut ws wss v [] a rest e c = c
  narrowed-cut ws wss v (r ∷ rs) a rest e c = by (contains r v) refl
    where
      by : (b : Bool) → contains r v ≡ b → are_rows_cut wss (cond (contains r v) (row rs a ∷ rest) rest) ≡ true
      by true h =
          let f : ranges_cut wss rs ≡ true = (both_true ((eqb r.low 0 || is_cut r.low ws) && is_cut (suc r.high) ws) (ranges_cut wss rs) e).1 in
          rw (h, f) c
      by false h = rw h c

  behind-cut : (ws : List ℕ) (wss : List (List ℕ)) (v : ℕ) (rows : List (Row A)) → are_rows_cut (ws ∷ wss) rows ≡ true
      → are_rows_cut wss (behind v rows) ≡ true
  unfolding are_rows_cut behind
  behind-cut ws wss v [] e = refl
  behind-cut ws wss v (r ∷ rs) e =
      let p = both_true (ranges_cut (ws ∷ wss) r.ranges) (are_rows_cut (ws ∷ wss) rs) e in
      narrowed-cut ws wss v r.ranges r.leaf (behind v rs) p.0 (behind-cut ws wss v rs p.1)

  -- What depends on the rows behind a value alone does not change between cuts.
  behind-cuts : (k : List (Row A) → List (Row A)) (rows : List (Row A)) (v : ℕ) (ws : List ℕ) (n : ℕ) → rising v ws n ≡ true
      → AllPlaced rows v ws → Cuts (λ u. k (behind u rows)) v ws n
  unfolding rising Cuts
  behind-cuts k rows v [] n g p = eqb-true v n g
  behind-cuts k rows v (w ∷ ws) n g p =
      let q = both_true (ltb v w) (rising w ws n) g in
      let h : v < w = ltb-true v w q.0 in
      (h, λ u i j. ap k (behind_same rows v w ws n g p u i j), behind-cuts k rows w ws n q.1 (all-next rows v w ws h p))

module _ {A : Type 0} (same? : Discrete A) (none : A) where
  -- The normal form by the loop from cut to cut in each field.
  unfoldable pub compute : List (List ℕ) → List (Row A) → List (Row A)
  compute [] rows = normal_form same? none [] (find none rows)
  compute (ws ∷ wss) rows = rows_of (jump same? (λ v. compute wss (behind v rows)) 0 ws start)

  -- It is the normal form where the cuts rise to the fields' sizes and cut the rows' ranges: two tests that compute.
  pub compute-normal_form : (sizes : List ℕ) (cuts : List (List ℕ)) (rows : List (Row A)) → cuts_rise sizes cuts ≡ true → are_rows_cut cuts rows ≡ true
      → compute cuts rows ≡ normal_form same? none sizes (find none rows)
  unfolding cuts_rise compute normal_form runs
  compute-normal_form [] [] rows g c = refl
  compute-normal_form [] (ws ∷ wss) rows g c = absurd (false≢true g)
  compute-normal_form (S ∷ Ss) [] rows g c = absurd (false≢true g)
  compute-normal_form (S ∷ Ss) (ws ∷ wss) rows g c =
      let p = both_true (rising 0 ws S) (cuts_rise Ss wss) g in
      ap rows_of
      (jump-runs same? (λ v. compute wss (behind v rows)) 0 ws S (behind-cuts (compute wss) rows 0 ws S p.0 (placed_start ws wss rows c))
      ∙ runs_ext same? _ _ S
      (λ v h.
      compute-normal_form Ss wss (behind v rows) p.1 (behind-cut ws wss v rows c)
      ∙ normal_form_ext same? none Ss _ _ (λ vs ok. find-behind none v vs rows)))
