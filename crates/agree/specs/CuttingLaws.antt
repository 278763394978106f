-- Laws of the rows that may part two values of a field: how they are listed, and why they are enough. Assumes nothing.
use Rattle.std.specs.Prelude.{ℕ, zero, suc, ◌+◌, ◌≤◌, ◌<◌, ◌≡◌, Bool, ◌⊎◌, ◌++◌, length, get_or}
use Rattle.std.specs.List.{filter}
use Rattle.std.proofs.Common.{arith, sym, ◌∙◌, inl, inr, below_more}
use Rattle.std.proofs.Math.ListN.{get_or-append}
use Rattle.std.proofs.Math.Seq.{get_or-append_seam}
use Rattle.std.proofs.lemmas.List.{length-append}
use Rattle.std.proofs.lemmas.Bool.{false≢true}
use Rattle.std.proofs.Math.Path.{refl}
use Rattle.std.proofs.Math.Bool.{true, false, cond}
use mathlib.Core.List.{List, [], ◌∷◌, map}
use Rattle.std.proofs.Math.Logic.{⊎_elim}
use Rattle.std.proofs.Math.Dec.{eqb}
use borrow.Author.Tests.{eqb-true}
use Rattle.selectors.specs.Range.{contains, holds}
use Rattle.selectors.proofs.HeldLaws.{ranges-next}
use Rattle.selectors.specs.Words.{field_count}
use Rattle.normal_form.specs.Search.{Row, find}
use Rattle.policy.specs.Words.{row_limit}
use Rattle.cover.specs.Boxes.{ranges_word, RowsApart}
use Rattle.agree.specs.Sides.{action_in, does_act, row_behind, range_of, Early, Cutting}

-- The first of two rows that hold values or not, with what is found behind them.
first_like : (l a b : ℕ) (p q : Bool) (P Q : Type 0) → (p ≡ q) ⊎ ((l ≡ 0) × ((p ≡ true → Q) × (q ≡ true → P))) → a ≡ b → (P → a ≡ 0) → (Q → b ≡ 0)
    → cond p l a ≡ cond q l b
first_like l a b p q P Q (inl e) t m n = rw (e, t)
first_like l a b true true P Q (inr s) t m n = refl
first_like l a b true false P Q (inr s) t m n = s.0 ∙ sym (n (s.1.0 refl))
first_like l a b false true P Q (inr s) t m n = m (s.1.1 refl) ∙ sym s.0
first_like l a b false false P Q (inr s) t m n = t

module _ (g : ℕ → Row ℕ) where
  -- Each row that holds the values discards: so does the search.
  unfoldable Quiet : List ℕ → List ℕ → Type 0
  Quiet vs xs = (j : ℕ) → j < length xs → holds (g (get_or xs j 0)).ranges vs ≡ true → (g (get_or xs j 0)).leaf ≡ 0

  quiet-behind : (vs : List ℕ) (x : ℕ) (xs : List ℕ) → Quiet vs (x ∷ xs) → Quiet vs xs
  unfolding Quiet
  quiet-behind vs x xs q j h = q (suc j) (omega arith)

  find_quiet : (vs xs : List ℕ) → Quiet vs xs → find 0 (map g xs) vs ≡ 0
  unfolding find Quiet
  find_quiet vs [] q = refl
  find_quiet vs (x ∷ xs) q = by (holds (g x).ranges vs) (q 0 (omega arith)) (find_quiet vs xs (λ j h. q (suc j) (omega arith)))
    where
      by : (b : Bool) → (b ≡ true → (g x).leaf ≡ 0) → find 0 (map g xs) vs ≡ 0 → cond b (g x).leaf (find 0 (map g xs) vs) ≡ 0
      by true e ih = e refl
      by false e ih = ih

  -- Each row holds both values or none, or discards where all that hold the other values do: the searches find the same.
  find_like : (us vs : List ℕ) (P Q : Type 0) (xs : List ℕ) → (P → Quiet us xs) → (Q → Quiet vs xs)
      → ((j : ℕ) → j < length xs → (holds (g (get_or xs j 0)).ranges us ≡ holds (g (get_or xs j 0)).ranges vs)
      ⊎ (((g (get_or xs j 0)).leaf ≡ 0) × ((holds (g (get_or xs j 0)).ranges us ≡ true → Q) × (holds (g (get_or xs j 0)).ranges vs ≡ true → P))))
      → find 0 (map g xs) us ≡ find 0 (map g xs) vs
  unfolding find
  find_like us vs P Q [] p q t = refl
  find_like us vs P Q (x ∷ xs) p q t =
      let p' : P → Quiet us xs = λ w. quiet-behind us x xs (p w) in
      let q' : Q → Quiet vs xs = λ w. quiet-behind vs x xs (q w) in
      first_like (g x).leaf _ _ (holds (g x).ranges us) (holds (g x).ranges vs) P Q (t 0 (omega arith)) (find_like us vs P Q xs p' q' (λ j h. t (suc j) (omega arith)))
      (λ w. find_quiet us xs (p' w)) (λ w. find_quiet vs xs (q' w))

-- A row of a list is spare if it discards and is apart from each row of the list that does not.
module _ (ws : List ℕ) (f : ℕ) (xs : List ℕ) where
  abbrev Spare : ℕ → Type 0
  Spare x =
      (action_in ws x ≡ 0)
      × ((j : ℕ) → j < length xs → does_act ws (get_or xs j 0) ≡ true → RowsApart ws x (get_or xs j 0) f)

  abbrev Treated : List ℕ → List ℕ → Type 0
  Treated us vs =
      (j : ℕ) → j < length xs
      → (holds (row_behind ws f (get_or xs j 0)).ranges us ≡ holds (row_behind ws f (get_or xs j 0)).ranges vs) ⊎ Spare (get_or xs j 0)

  spare_quiet : (us vs : List ℕ) → Treated us vs → (x : ℕ) → Spare x → holds (row_behind ws f x).ranges us ≡ true → Quiet (row_behind ws f) vs xs
  unfolding Quiet RowsApart
  spare_quiet us vs t x s h j l m = by (eqb (action_in ws (get_or xs j 0)) 0) refl
    where
      by : (b : Bool) → eqb (action_in ws (get_or xs j 0)) 0 ≡ b → action_in ws (get_or xs j 0) ≡ 0
      by true e = eqb-true _ _ e
      by false e = ⊎_elim (λ q. absurd (s.1 j l (rw e) us h (q ∙ m))) (λ w. w.0) (t j l)

  rows_like : (us vs : List ℕ) → Treated us vs → find 0 (map (row_behind ws f) xs) us ≡ find 0 (map (row_behind ws f) xs) vs
  rows_like us vs t =
      let t' : Treated vs us = λ j l. ⊎_elim (λ e. inl (sym e)) (λ s. inr s) (t j l) in
      find_like (row_behind ws f) us vs (Quiet (row_behind ws f) us xs) (Quiet (row_behind ws f) vs xs) xs (λ q. q) (λ q. q)
      (λ j l. ⊎_elim (λ e. inl e) (λ s. inr (s.0, (spare_quiet us vs t _ s, spare_quiet vs us t' _ s))) (t j l))

-- A row treats values alike that its range of the first field does.
held_like : (ws : List ℕ) (x f u v : ℕ) (us : List ℕ) → f < field_count → contains (range_of ws x f) u ≡ contains (range_of ws x f) v
    → holds (row_behind ws f x).ranges (u ∷ us) ≡ holds (row_behind ws f x).ranges (v ∷ us)
unfolding holds
held_like ws x f u v us h e = rw (ranges-next ws (ranges_word x) f field_count h, e)

-- The numbers of a list are some of the first i of another, and of these are all that are not spare.
pub record Chosen (spare : ℕ → Type 0) (list : List ℕ) (i : ℕ) (cuts : List ℕ) : Type 0 where
  pub fits : length cuts ≤ i
  pub among : (k : ℕ) → k < length cuts → Early list i (get_or cuts k 0)
  pub rest : (j : ℕ) → j < i → Early cuts (length cuts) (get_or list j 0) ⊎ spare (get_or list j 0)

module _ (spare : ℕ → Type 0) (list : List ℕ) where
  pub chosen_none : Chosen spare list 0 []
  chosen_none = record { fits = omega arith; among = λ k h. absurd (omega arith); rest = λ j h. absurd (omega arith) }

  -- The next number: behind the others, or passed over.
  module _ (i : ℕ) (cuts : List ℕ) (t : Chosen spare list i cuts) where
    abbrev next : List ℕ
    next = cuts ++ get_or list i 0 ∷ []

    later : (x : ℕ) → Early list i x → Early list (i + 1) x
    later x o = record { place = o.place; below = omega (arith, o.below); same = o.same }

    kept : (x : ℕ) → Early cuts (length cuts) x → Early next (length cuts + 1) x
    kept x o = record { place = o.place; below = omega (arith, o.below); same = o.same ∙ sym (get_or-append cuts _ 0 o.place o.below) }

    pub chosen_kept : Chosen spare list (i + 1) next
    chosen_kept =
        let e : get_or next (length cuts) 0 ≡ get_or list i 0 = get_or-append_seam cuts _ [] 0 in
        let n : length next ≡ length cuts + 1 = length-append cuts (get_or list i 0 ∷ []) in
        record {
          fits = omega (arith, t.fits);
          among = rw n (below_more _ _ (λ k h. rw (get_or-append cuts (get_or list i 0 ∷ []) 0 k h) (later _ (t.among k h))) record { place = i; below = omega arith; same = e });
          rest = rw n (below_more _ _ (λ j h. ⊎_elim (λ o. inl (kept _ o)) (λ s. inr s) (t.rest j h)) (inl record { place = length cuts; below = omega arith; same = sym e }));
        }

    pub chosen_passed : spare (get_or list i 0) → Chosen spare list (i + 1) cuts
    chosen_passed s = record {
      fits = omega (arith, t.fits);
      among = λ k h. later _ (t.among k h);
      rest = below_more _ _ t.rest (inr s);
    }

    pub chosen-next : (cuts' : List ℕ) → (cuts' ≡ next) ⊎ (spare (get_or list i 0) × (cuts' ≡ cuts)) → Chosen spare list (i + 1) cuts'
    chosen-next cuts' o = ⊎_elim (λ e. rw e chosen_kept) (λ w. rw w.1 (chosen_passed w.0)) o

-- What is true of each number that a test takes is true of each for which the test is.
pub filter_each : (p : ℕ → Bool) (Q : ℕ → Type 0) (xs : List ℕ) → ((k : ℕ) → k < length (filter p xs) → Q (get_or (filter p xs) k 0))
    → (j : ℕ) → j < length xs → p (get_or xs j 0) ≡ true → Q (get_or xs j 0)
filter_each p Q [] q j h e = absurd (omega arith)
filter_each p Q (x ∷ xs) q j h e = by (p x) refl (filter p xs) q (filter_each p Q xs) j h e
  where
    by : (b : Bool) → p x ≡ b → (ys : List ℕ) → ((k : ℕ) → k < length (cond (p x) (x ∷ ys) ys) → Q (get_or (cond (p x) (x ∷ ys) ys) k 0))
        → (((k : ℕ) → k < length ys → Q (get_or ys k 0)) → (j : ℕ) → j < length xs → p (get_or xs j 0) ≡ true → Q (get_or xs j 0))
        → (j : ℕ) → j < length (x ∷ xs) → p (get_or (x ∷ xs) j 0) ≡ true → Q (get_or (x ∷ xs) j 0)
    by true a ys all ih zero h e = (rw a at all) 0 (omega arith)
    by true a ys all ih (suc j) h e = let each = rw a at all in ih (λ k m. each (suc k) (omega arith)) j (omega arith) e
    by false a ys all ih zero h e = absurd (false≢true (sym a ∙ e))
    by false a ys all ih (suc j) h e = ih (rw a at all) j (omega arith) e

-- The rows that are not spare are enough.
module _ (ws : List ℕ) (f : ℕ) (actors : List ℕ) where
  -- A row that discards and is apart from the listed ones.
  abbrev pub Idle : ℕ → Type 0
  Idle x = (action_in ws x ≡ 0) × ((k : ℕ) → k < length actors → RowsApart ws x (get_or actors k 0) f)

  pub cutting_of : (list cuts : List ℕ) → f < field_count → length list ≤ row_limit → actors ≡ filter (λ i. does_act ws i) list → Chosen Idle list (length list) cuts
      → Cutting ws list f cuts
  cutting_of list cuts h g t c = record {
    fits = omega (arith, c.fits);
    among = c.among;
    alike = λ u v s us. rows_like ws f list (u ∷ us) (v ∷ us) (λ j m.
        ⊎_elim (λ (o : Early cuts (length cuts) (get_or list j 0)). inl (held_like ws _ f u v us h (rw o.same (s o.place o.below))))
        (λ r. inr (r.0, filter_each (λ i. does_act ws i) (λ y. RowsApart ws (get_or list j 0) y f) list (rw t at r.1))) (c.rest j m));
  }

-- What is true of all places is true of those that may part values.
pub cutting_each : (ws xs : List ℕ) (f : ℕ) (cuts : List ℕ) → Cutting ws xs f cuts → (Q : ℕ → Type 0) → ((j : ℕ) → j < length xs → Q (get_or xs j 0))
    → (k : ℕ) → k < length cuts → Q (get_or cuts k 0)
cutting_each ws xs f cuts t Q q k h = let o = t.among k h in rw o.same (q o.place o.below)
