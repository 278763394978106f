-- One turn of the loop over a field: its value v has the layout k v. Assumes nothing.
use Prim.Native.Nat.{ℕ, zero, suc, ◌+◌, ◌-◌, ◌≤◌, ◌<◌}
use native.Mathlib.Omega.{arith}
use Rattle.std.proofs.Math.Decide.{dec_lt}
use Rattle.std.specs.Prelude.{◌≡◌, List, [], ◌++◌, map, ◌≢◌}
use Rattle.std.proofs.Math.Path.{refl, ap}
use Rattle.std.proofs.Common.{sym, ◌∙◌, length-append}
use Rattle.std.proofs.Math.ListN.{length}
use Rattle.std.proofs.lemmas.List.{length-map}
use Rattle.normal_form.specs.Search.{Row}
use Rattle.normal_form.specs.SameLaws.{list-≟, row-≟}
use Rattle.normal_form.specs.NormalForm.{interval, Intervals, start, ◌▸◌, under, rows_of, push, runs}
use Rattle.normal_form.proofs.RunsLaws.{Ends, Runs, rows_last, push_same, push_new, runs_block, runs_longest}

module _ {A : Type 0} where
  -- The rows of all intervals but the last, and the layout and the low end of the last.
  unfoldable pub earlier : Intervals A → List (Row A)
  earlier start = []
  earlier (ts ▸ t) = rows_of ts

  unfoldable pub last_layout : Intervals A → List (Row A)
  last_layout start = []
  last_layout (ts ▸ t) = t.layout

  unfoldable pub last_low : Intervals A → ℕ
  last_low start = 0
  last_low (ts ▸ t) = t.low

  rows-of : (k : ℕ → List (Row A)) (v : ℕ) (ts : Intervals A) → Runs k v ts → rows_of ts ≡ earlier ts ++ map (under (last_low ts) (v - 1)) (last_layout ts)
  unfolding Runs rows_of earlier last_layout last_low
  rows-of k v start g = refl
  rows-of k v (ts ▸ t) g = let e : v - 1 ≡ t.high = omega arith in rw e

  -- `done` are the rows of all intervals but the last, whose layout is `block` and which begins at `low`.
  pub record Stand (ts : Intervals A) (done block : List (Row A)) (low : ℕ) : Type 0 where
    pub rows : earlier ts ≡ done
    pub layout : last_layout ts ≡ block
    pub begins : (h : ℕ) → map (under (last_low ts) h) block ≡ map (under low h) block

module _ {A : Type 0} (same? : Discrete A) where
  -- Behind a layout that is the same, the last interval grows; without intervals, that is one without rows.
  merge : (v w : ℕ) (L : List (Row A)) (ts : Intervals A) → last_layout ts ≡ L
      → (earlier (push same? v w L ts) ≡ earlier ts)
      × (last_layout (push same? v w L ts) ≡ L)
      × ((h : ℕ) → map (under (last_low (push same? v w L ts)) h) L ≡ map (under (last_low ts) h) L)
  unfolding earlier last_layout last_low rows_of Ends
  merge v w L start e = rw (push_new same? v w L start tt) (refl, refl, λ h. rw (← e))
  merge v w L (ts ▸ t) e = rw (push_same same? v w L ts t e) (refl, refl, λ h. refl)

  -- Behind another one, a new interval begins.
  begin : (v w : ℕ) (L : List (Row A)) (ts : Intervals A) → last_layout ts ≢ L → push same? v w L ts ≡ ts ▸ interval v w L
  unfolding last_layout Ends
  begin v w L start n = push_new same? v w L start tt
  begin v w L (ts ▸ t) n = push_new same? v w L (ts ▸ t) n

  longer : (v w : ℕ) (L : List (Row A)) (ts : Intervals A)
      → (length (rows_of ts) ≤ length (rows_of (push same? v w L ts))) × (length L ≤ length (rows_of (push same? v w L ts)))
  unfolding Ends rows_of
  longer v w L ts = by ts
    where
      new : (us : Intervals A) → push same? v w L us ≡ us ▸ interval v w L
          → (length (rows_of us) ≤ length (rows_of (push same? v w L us))) × (length L ≤ length (rows_of (push same? v w L us)))
      new us e = rw (e, rows_last us (interval v w L)) (simp (length-append, length-map) (omega arith))

      by : (us : Intervals A) → (length (rows_of us) ≤ length (rows_of (push same? v w L us))) × (length L ≤ length (rows_of (push same? v w L us)))
      by start = new start (push_new same? v w L start tt)
      by (us ▸ t) = on (list-≟ (row-≟ same?) t.layout L)
        where
          on : Dec (t.layout ≡ L)
              → (length (rows_of (us ▸ t)) ≤ length (rows_of (push same? v w L (us ▸ t)))) × (length L ≤ length (rows_of (push same? v w L (us ▸ t))))
          on (yes e) = let l : length t.layout ≡ length L = ap length e in rw (push_same same? v w L us t e) (simp (length-append, length-map) (omega arith))
          on (no e) = new (us ▸ t) (push_new same? v w L (us ▸ t) e)

  module _ (k : ℕ → List (Row A)) where
    -- The loop has come to v.
    abbrev pub Reached : ℕ → List (Row A) → List (Row A) → ℕ → Type 0
    Reached v = Stand (runs same? k v)

    pub reached_start : (low : ℕ) → Reached 0 [] [] low
    unfolding runs earlier last_layout
    reached_start low = record { rows = refl; layout = refl; begins = λ h. refl }

    -- The last interval so far has the layout of the last value.
    last-run : (v : ℕ) → 0 < v → last_layout (runs same? k v) ≡ k (v - 1)
    unfolding runs last_layout
    last-run zero h = absurd (omega arith)
    last-run (suc u) h = let e : suc u - 1 ≡ u = omega arith in by (list-≟ (row-≟ same?) (last_layout (runs same? k u)) (k u)) ∙ ap k (sym e)
      where
        by : Dec (last_layout (runs same? k u) ≡ k u) → last_layout (push same? u u (k u) (runs same? k u)) ≡ k u
        by (yes q) = (merge u u (k u) (runs same? k u) q).1
        by (no n) = rw (begin u u (k u) (runs same? k u) n)

    -- The rows so far, the last interval ending before v.
    pub reached_rows : (v : ℕ) (done block : List (Row A)) (low : ℕ) → Reached v done block low → rows_of (runs same? k v) ≡ done ++ map (under low (v - 1)) block
    reached_rows v done block low r =
        rows-of k v (runs same? k v) (runs_longest same? k v) ∙ rw (r.rows, r.layout, r.begins (v - 1))

    pub reached-length : (v : ℕ) (done block : List (Row A)) (low : ℕ) → Reached v done block low
        → length (rows_of (runs same? k v)) ≡ length done + length block
    reached-length v done block low r = ap length (reached_rows v done block low r) ∙ simp (length-append, length-map)

    module _ (v w : ℕ) (h : v ≤ w) (c : (u : ℕ) → v ≤ u → u ≤ w → k u ≡ k v) (done block : List (Row A)) (low : ℕ) (r : Reached v done block low) where
      -- The values v to w have the last interval's layout, or another one.
      pub reached_merged : block ≡ k v → Reached (suc w) done block low
      reached_merged e =
          let m = merge v w (k v) (runs same? k v) (r.layout ∙ e) in
          rw (runs_block same? k v w (k v) h c) record {
            rows = m.0 ∙ r.rows;
            layout = m.1 ∙ sym e;
            begins = λ g. rw e (m.2 g ∙ rw e at (r.begins g));
          }

      -- Behind a value that has the layout of the one before, the last interval goes on.
      pub reached_again : 0 < v → k v ≡ k (v - 1) → Reached (suc w) done block low
      reached_again z e = reached_merged (sym r.layout ∙ last-run v z ∙ sym e)

      pub reached_begun : block ≢ k v → Reached (suc w) (done ++ map (under low (v - 1)) block) (k v) v
      unfolding earlier last_layout last_low
      reached_begun n =
          rw (runs_block same? k v w (k v) h c ∙ begin v w (k v) (runs same? k v) (λ e. n (sym r.layout ∙ e)))
          record { rows = reached_rows v done block low r; layout = refl; begins = λ g. refl }

    -- Further on there are no fewer rows, and none fewer than any layout has.
    pub rows_grow : (v w : ℕ) → v ≤ w → length (rows_of (runs same? k v)) ≤ length (rows_of (runs same? k w))
    unfolding runs
    rows_grow v zero h = let e : v ≡ 0 = omega arith in rw e (omega arith)
    rows_grow v (suc w) h = by (dec_lt w v) (λ g. rows_grow v w g)
      where
        by : Dec (w < v) → (v ≤ w → length (rows_of (runs same? k v)) ≤ length (rows_of (runs same? k w)))
            → length (rows_of (runs same? k v)) ≤ length (rows_of (push same? w w (k w) (runs same? k w)))
        by (yes g) ih = let e : v ≡ suc w = omega arith in rw e (omega arith)
        by (no g) ih = omega (arith, ih (omega arith), (longer w w (k w) (runs same? k w)).0)

    pub layout_within : (v n : ℕ) → v < n → length (k v) ≤ length (rows_of (runs same? k n))
    unfolding runs
    layout_within v n h = omega (arith, (longer v v (k v) (runs same? k v)).1, rows_grow (suc v) n h)
