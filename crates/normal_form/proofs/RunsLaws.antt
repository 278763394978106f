-- Laws of the intervals of one field: what `runs` cuts, and that nothing else is so cut. Assumes nothing.
use Prim.Native.Nat.{ℕ, zero, suc, ◌≤◌, ◌<◌}
use Rattle.std.proofs.Common.{arith, ◌∙◌}
use Rattle.std.proofs.Math.Decide.{dec_le, dec_lt}
use Rattle.std.specs.Prelude.{◌≡◌, List, ◌∷◌, ◌++◌, map, ◌≢◌, ◌↔◌}
use Rattle.std.proofs.Math.Path.{refl, sym, ap}
use Rattle.std.proofs.Math.Logic.{if_pos, if_neg}
use Rattle.normal_form.specs.Search.{Row, find}
use Rattle.normal_form.specs.SameLaws.{list-≟, row-≟}
use Rattle.normal_form.specs.NormalForm.{Interval, interval, Intervals, start, ◌▸◌, under, rows_of, push, runs}
use Rattle.selectors.proofs.RangeLaws.{contains_in, contains_below, contains_above}
use Rattle.normal_form.proofs.SearchLaws.{find-nil, find-append, find-under, find_outside}

module _ {A : Type 0} where
  -- The last of the intervals has another layout than L.
  unfoldable pub Ends : List (Row A) → Intervals A → Type 0
  Ends L start = Unit
  Ends L (ts ▸ t) = t.layout ≢ L

  -- The intervals follow each other from 0 to n - 1, the value v has the layout k v, and neighbours have different layouts.
  unfoldable pub Runs : (ℕ → List (Row A)) → ℕ → Intervals A → Type 0
  Runs k n start = n ≡ 0
  Runs k n (ts ▸ t) =
      (t.low ≤ t.high)
      × (suc t.high ≡ n)
      × ((v : ℕ) → t.low ≤ v → v ≤ t.high → k v ≡ t.layout)
      × Ends t.layout ts
      × Runs k t.low ts

  -- The rows of the last interval stand last.
  pub rows_last : (ts : Intervals A) (t : Interval A) → rows_of (ts ▸ t) ≡ rows_of ts ++ map (under t.low t.high) t.layout
  unfolding rows_of
  rows_last ts t = refl

  find_rows_above : (none : A) (k : ℕ → List (Row A)) (n : ℕ) (ts : Intervals A) → Runs k n ts → (v : ℕ) (vs : List ℕ)
      → n ≤ v → find none (rows_of ts) (v ∷ vs) ≡ none
  unfolding Runs rows_of
  find_rows_above none k n start g v vs h = find-nil none (v ∷ vs)
  find_rows_above none k n (ts ▸ t) g v vs h =
      find-append none (rows_of ts) _ (v ∷ vs)
      ∙ find_rows_above (find none (map (under t.low t.high) t.layout) (v ∷ vs)) k t.low ts g.4 v vs (omega arith)
      ∙ find_outside none t.low t.high v vs (contains_above _ v (omega arith)) t.layout

  -- The search of the rows of the intervals is, at the first value v, the search of the layout k v.
  pub find_rows : (none : A) (k : ℕ → List (Row A)) (n : ℕ) (ts : Intervals A) → Runs k n ts → (v : ℕ) (vs : List ℕ)
      → v < n → find none (rows_of ts) (v ∷ vs) ≡ find none (k v) vs
  unfolding Runs rows_of
  find_rows none k n start g v vs h = absurd (omega arith)
  find_rows none k n (ts ▸ t) g v vs h =
      find-append none (rows_of ts) _ (v ∷ vs) ∙ by (dec_lt v t.low) (λ lt. find_rows (find none (map (under t.low t.high) t.layout) (v ∷ vs)) k t.low ts g.4 v vs lt)
    where
      last : A
      last = find none (map (under t.low t.high) t.layout) (v ∷ vs)

      by : Dec (v < t.low) → (v < t.low → find last (rows_of ts) (v ∷ vs) ≡ find last (k v) vs)
          → find last (rows_of ts) (v ∷ vs) ≡ find none (k v) vs
      by (yes lt) ih =
          ih lt ∙ ap (λ (e : A). find e (k v) vs) (find_outside none t.low t.high v vs (contains_below _ v lt) t.layout)
      by (no ge) ih =
          find_rows_above last k t.low ts g.4 v vs (omega arith)
          ∙ find-under none t.low t.high v vs (contains_in _ v (omega arith) (omega arith)) t.layout
          ∙ ap (λ (L : List (Row A)). find none L vs) (sym (g.2 v (omega arith) (omega arith)))

module _ {A : Type 0} (same? : Discrete A) where
  abbrev decide : (L M : List (Row A)) → Dec (L ≡ M)
  decide = list-≟ (row-≟ same?)

  -- Behind an interval of the same layout, that interval grows.
  pub push_same : (v w : ℕ) (L : List (Row A)) (ts : Intervals A) (t : Interval A) → t.layout ≡ L
      → push same? v w L (ts ▸ t) ≡ ts ▸ interval t.low w L
  unfolding push
  push_same v w L ts t e = if_pos (decide t.layout L) e _ _

  -- Behind another layout, a new interval begins.
  pub push_new : (v w : ℕ) (L : List (Row A)) (ts : Intervals A) → Ends L ts → push same? v w L ts ≡ ts ▸ interval v w L
  unfolding push Ends
  push_new v w L start e = refl
  push_new v w L (ts ▸ t) e = if_neg (decide t.layout L) e _ _

  -- What is pushed in two steps with one layout is pushed in one.
  pub push-push : (u v v' w : ℕ) (L : List (Row A)) (ts : Intervals A)
      → push same? v' w L (push same? u v L ts) ≡ push same? u w L ts
  unfolding push Ends
  push-push u v v' w L start = push_same v' w L start _ refl
  push-push u v v' w L (ts ▸ t) = by (decide t.layout L)
    where
      by : Dec (t.layout ≡ L) → push same? v' w L (push same? u v L (ts ▸ t)) ≡ push same? u w L (ts ▸ t)
      by (yes e) = ap (push same? v' w L) (push_same u v L ts t e) ∙ push_same v' w L ts _ refl ∙ sym (push_same u w L ts t e)
      by (no e) =
          ap (push same? v' w L) (push_new u v L (ts ▸ t) e) ∙ push_same v' w L (ts ▸ t) _ refl ∙ sym (push_new u w L (ts ▸ t) e)

  -- What is below n alone decides the intervals.
  pub runs_ext : (k m : ℕ → List (Row A)) (n : ℕ) → ((v : ℕ) → v < n → k v ≡ m v) → runs same? k n ≡ runs same? m n
  unfolding runs
  runs_ext k m zero e = refl
  runs_ext k m (suc n) e = rw (e n (omega arith), runs_ext k m n (λ v h. e v (omega arith)))

  one : (k : ℕ → List (Row A)) (v w : ℕ) (L : List (Row A)) → v ≡ w → k w ≡ L → runs same? k (suc w) ≡ push same? v w L (runs same? k v)
  unfolding runs
  one k v w L e f = rw (e, ← f)

  -- The values v to w, all with the layout L, may be pushed in one step.
  pub runs_block : (k : ℕ → List (Row A)) (v w : ℕ) (L : List (Row A)) → v ≤ w → ((u : ℕ) → v ≤ u → u ≤ w → k u ≡ L)
      → runs same? k (suc w) ≡ push same? v w L (runs same? k v)
  runs_block k v zero L h c = one k v zero L (omega arith) (c zero (omega arith) (omega arith))
  runs_block k v (suc w) L h c = by (dec_le v w) (λ le. runs_block k v w L le (λ u p q. c u p (omega arith)))
    where
      last : k (suc w) ≡ L
      last = c (suc w) (omega arith) (omega arith)

      by : Dec (v ≤ w) → (v ≤ w → runs same? k (suc w) ≡ push same? v w L (runs same? k v))
          → runs same? k (suc (suc w)) ≡ push same? v (suc w) L (runs same? k v)
      by (yes le) ih =
          one k (suc w) (suc w) L refl last ∙ ap (push same? (suc w) (suc w) L) (ih le) ∙ push-push v w (suc w) (suc w) L (runs same? k v)
      by (no gt) ih = one k v (suc w) L (omega arith) last

  -- The intervals that `runs` cuts are as `Runs` says.
  pub runs_longest : (k : ℕ → List (Row A)) (n : ℕ) → Runs k n (runs same? k n)
  unfolding runs Runs Ends
  runs_longest k zero = refl
  runs_longest k (suc n) = grow (runs same? k n) (runs_longest k n)
    where
      at : (u : ℕ) → n ≤ u → u ≤ n → k u ≡ k n
      at u p q = ap k (omega arith)

      on : (ts : Intervals A) (t : Interval A) → Runs k n (ts ▸ t) → t.layout ≡ k n
          → (u : ℕ) → t.low ≤ u → u ≤ n → Dec (u ≤ t.high) → k u ≡ k n
      on ts t g e u p q (yes le) = g.2 u p le ∙ e
      on ts t g e u p q (no gt) = at u (omega arith) q

      by : (ts : Intervals A) (t : Interval A) → Runs k n (ts ▸ t) → Dec (t.layout ≡ k n) → Runs k (suc n) (push same? n n (k n) (ts ▸ t))
      by ts t g (yes e) =
          rw (push_same n n (k n) ts t e) (omega arith, refl, λ u p q. on ts t g e u p q (dec_le u t.high), rw e at g.3, g.4)
      by ts t g (no e) = rw (push_new n n (k n) (ts ▸ t) e) (omega arith, refl, at, e, g)

      grow : (ts : Intervals A) → Runs k n ts → Runs k (suc n) (push same? n n (k n) ts)
      grow start g = rw (push_new n n (k n) start tt) (omega arith, refl, at, tt, g)
      grow (ts ▸ t) g = by ts t g (decide t.layout (k n))

  -- And no others are.
  pub longest-runs : (k : ℕ → List (Row A)) (n : ℕ) (ts : Intervals A) → Runs k n ts → ts ≡ runs same? k n
  unfolding runs Runs
  longest-runs k n start g = rw g
  longest-runs k n (ts ▸ t) g =
      sym (push_new t.low t.high t.layout ts g.3)
      ∙ ap (push same? t.low t.high t.layout) (longest-runs k t.low ts g.4)
      ∙ sym (runs_block k t.low t.high t.layout g.0 g.2)
      ∙ ap (runs same? k) g.1

  -- So the intervals of `runs` are the ones described by `Runs`.
  pub runs_iff : (k : ℕ → List (Row A)) (n : ℕ) (ts : Intervals A) → (ts ≡ runs same? k n) ↔ Runs k n ts
  runs_iff k n ts = (λ e. rw e (runs_longest k n), longest-runs k n ts)
