-- Document 01's description of the normal form to the letter, the earlier fields at any values of the stretches already cut, and the one with
-- them at the stretches' lowest values describe the same rows. Assumes nothing.
use Rattle.std.specs.Prelude.{ℕ, ◌≤◌, ◌<◌, ◌≡◌, refl, true, List, [], ◌∷◌, ◌++◌, ◌↔◌}
use Rattle.std.proofs.Common.{arith, sym, ap, ◌∙◌, append_assoc, append-nil}
use Rattle.std.proofs.lemmas.Bool.{false≢true}
use Rattle.selectors.specs.Range.{Range, range, contains, holds}
use Rattle.selectors.proofs.RangeLaws.{contains_in, contains_between}
use Rattle.normal_form.specs.Search.{Row, Combination}
use Rattle.normal_form.proofs.SearchLaws.{holds-cons}
use Rattle.normal_form.specs.NormalForm.{Interval, Intervals, start, ◌▸◌, normal_form}
use Rattle.normal_form.specs.Layout.{Alike, Parted, Longest, Each, Layout, AlikeBehind, LayoutBehind, LayoutAsWritten}
use Rattle.normal_form.proofs.LayoutLaws.{layout_iff}

-- Values that ranges and one more hold: values that the ranges hold, and one more that it holds.
snoc_held : (rs : List Range) (r : Range) (us : List ℕ) → holds (rs ++ (r ∷ [])) us ≡ true
    → (ws : List ℕ) × (v : ℕ) × (ws ++ (v ∷ []) ≡ us) × (holds rs ws ≡ true) × (contains r v ≡ true)
unfolding holds
snoc_held [] r [] p = absurd (false≢true p)
snoc_held [] r (v ∷ []) p = ([], v, refl, refl, (holds-cons r [] v [] p).0)
snoc_held [] r (v ∷ w ∷ us) p = absurd (false≢true (holds-cons r [] v (w ∷ us) p).1)
snoc_held (q ∷ rs) r [] p = absurd (false≢true p)
snoc_held (q ∷ rs) r (v ∷ us) p =
    let h = holds-cons q (rs ++ (r ∷ [])) v us p in
    let i = snoc_held rs r us h.1 in
    (v ∷ i.0, i.1, ap (λ (l : List ℕ). v ∷ l) i.2, rw h.0 i.3, i.4)

held_snoc : (rs : List Range) (r : Range) (ws : List ℕ) (v : ℕ) → holds rs ws ≡ true → contains r v ≡ true
    → holds (rs ++ (r ∷ [])) (ws ++ (v ∷ [])) ≡ true
unfolding holds
held_snoc [] r [] v p q = rw q
held_snoc [] r (w ∷ ws) v p q = absurd (false≢true p)
held_snoc (s ∷ rs) r [] v p q = absurd (false≢true p)
held_snoc (s ∷ rs) r (w ∷ ws) v p q = let h = holds-cons s rs w ws p in rw h.0 (held_snoc rs r ws v h.1 q)

-- Some values are held by the stretches already cut.
Held : List Range → Type 0
Held earlier = (us : List ℕ) × (holds earlier us ≡ true)

module _ {A : Type 0} where
  -- An interval of a field of the size S, alike throughout.
  Stretch : (ℕ → ℕ → Type 0) → ℕ → Interval A → Type 0
  Stretch alike S t = (t.low ≤ t.high) × (t.high < S) × ((v : ℕ) → t.low ≤ v → v ≤ t.high → alike t.low v)

  longest_stretches : (alike : ℕ → ℕ → Type 0) (S n : ℕ) (ts : Intervals A) → n ≤ S → Longest alike n ts → Each (Stretch alike S) ts
  unfolding Longest Each Stretch
  longest_stretches alike S n start h g = tt
  longest_stretches alike S n (ts ▸ t) h g =
      (longest_stretches alike S t.low ts (omega arith) g.4, (g.0, omega arith, g.2))

  each_both : (P Q R : Interval A → Type 0) → ((t : Interval A) → P t → Q t → R t) → (ts : Intervals A) → Each P ts → Each Q ts → Each R ts
  unfolding Each
  each_both P Q R h start p q = tt
  each_both P Q R h (ts ▸ t) p q = (each_both P Q R h ts p.0 q.0, h t p.1 q.1)

  -- Which values of a field are alike alone decides its longest intervals.
  module _ (alike alike' : ℕ → ℕ → Type 0) (S : ℕ) (same : (u v : ℕ) → u < S → v < S → alike u v ↔ alike' u v) where
    parted_map : (n : ℕ) (ts : Intervals A) (v : ℕ) → n ≤ S → v < S → Longest alike n ts → Parted alike ts v → Parted alike' ts v
    unfolding Parted Longest
    parted_map n start v h k g p = tt
    parted_map n (ts ▸ t) v h k g p = λ a. p ((same t.high v (omega arith) k).1 a)

    longest_map : (n : ℕ) (ts : Intervals A) → n ≤ S → Longest alike n ts → Longest alike' n ts
    unfolding Longest
    longest_map n start h g = g
    longest_map n (ts ▸ t) h g = (
      g.0,
      g.1,
      λ v p q. (same t.low v (omega arith) (omega arith)).0 (g.2 v p q),
      parted_map t.low ts t.low (omega arith) (omega arith) g.4 g.3,
      longest_map t.low ts (omega arith) g.4,
    )

  -- The search f, at any values of the stretches already cut, is g at the fields that are left.
  Behind : List Range → List ℕ → (List ℕ → A) → (List ℕ → A) → Type 0
  Behind earlier Ss f g = (us vs : List ℕ) → holds earlier us ≡ true → Combination Ss vs → f (us ++ vs) ≡ g vs

  -- Then two values of the next field are treated alike behind the stretches exactly where they are for g.
  alike_behind : (earlier : List Range) (S : ℕ) (Ss : List ℕ) (f g : List ℕ → A) → Held earlier → Behind earlier (S ∷ Ss) f g
      → (u v : ℕ) → u < S → v < S → AlikeBehind earlier Ss f u v ↔ Alike Ss g u v
  unfolding AlikeBehind Alike Behind Held Combination
  alike_behind earlier S Ss f g some b u v p q = (
    λ a vs ok. sym (b some.0 (u ∷ vs) some.1 (p, ok)) ∙ a some.0 vs some.1 ok ∙ b some.0 (v ∷ vs) some.1 (q, ok),
    λ a us vs h ok. b us (u ∷ vs) h (p, ok) ∙ a vs ok ∙ sym (b us (v ∷ vs) h (q, ok)),
  )

  -- One more stretch holds values too, and behind it the search is g with the next field at the stretch's lowest value.
  held_more : (earlier : List Range) (S : ℕ) (g : ℕ → ℕ → Type 0) (t : Interval A) → Stretch g S t → Held earlier
      → Held (earlier ++ (range t.low t.high ∷ []))
  unfolding Stretch Held
  held_more earlier S g t s some =
      let r : Range = range t.low t.high in
      (some.0 ++ (t.low ∷ []), held_snoc earlier r some.0 t.low some.1 (contains_in r t.low (omega arith) s.0))

  behind_more : (earlier : List Range) (S : ℕ) (Ss : List ℕ) (f g : List ℕ → A) (t : Interval A) → Behind earlier (S ∷ Ss) f g
      → Stretch (Alike Ss g) S t → Behind (earlier ++ (range t.low t.high ∷ [])) Ss f (λ vs. g (t.low ∷ vs))
  unfolding Behind Stretch Alike Combination
  behind_more earlier S Ss f g t b s us vs h ok =
      let r : Range = range t.low t.high in
      let i = snoc_held earlier r us h in
      let k = contains_between r i.1 i.4 in
      ap (λ (l : List ℕ). f (l ++ vs)) (sym i.2)
      ∙ ap f (append_assoc i.0 (i.1 ∷ []) vs)
      ∙ b i.0 (i.1 ∷ vs) i.3 (omega (arith, k.0, k.1, s.1), ok)
      ∙ sym (s.2 i.1 k.0 k.1 vs ok)

  -- Behind the last field.
  leaf_behind : (none : A) (earlier : List Range) (f g : List ℕ → A) (rows : List (Row A)) → Held earlier → Behind earlier [] f g
      → LayoutBehind none earlier [] f rows ↔ Layout none [] g rows
  unfolding LayoutBehind Layout Held Behind Combination
  leaf_behind none earlier f g rows some b = (
    λ l. rw (sym (at some.0 some.1) ∙ l.1 some.0 some.1) l.2,
    λ l. (g [], at, l),
  )
    where
      at : (us : List ℕ) → holds earlier us ≡ true → f us ≡ g []
      at us h = ap f (sym (append-nil us)) ∙ b us [] h tt

  -- One field, where it is so of the fields behind each of its stretches.
  field_behind : (none : A) (S : ℕ) (Ss : List ℕ) (earlier : List Range) (f g : List ℕ → A) (rows : List (Row A)) → Held earlier
      → Behind earlier (S ∷ Ss) f g
      → ((t : Interval A) → Stretch (Alike Ss g) S t
      → LayoutBehind none (earlier ++ (range t.low t.high ∷ [])) Ss f t.layout ↔ Layout none Ss (λ vs. g (t.low ∷ vs)) t.layout)
      → LayoutBehind none earlier (S ∷ Ss) f rows ↔ Layout none (S ∷ Ss) g rows
  unfolding LayoutBehind Layout
  field_behind none S Ss earlier f g rows some b inner = (
    λ l.
        let cut = longest_map (AlikeBehind earlier Ss f) (Alike Ss g) S same S l.0 (omega arith) l.1 in
        let stretches = longest_stretches (Alike Ss g) S S l.0 (omega arith) cut in
        (l.0, cut, each_both _ _ _ (λ t s. (inner t s).0) l.0 stretches l.2, l.3),
    λ l.
        let cut = longest_map (Alike Ss g) (AlikeBehind earlier Ss f) S (λ u v p q. ((same u v p q).1, (same u v p q).0)) S l.0 (omega arith) l.1 in
        let stretches = longest_stretches (Alike Ss g) S S l.0 (omega arith) l.1 in
        (l.0, cut, each_both _ _ _ (λ t s. (inner t s).1) l.0 stretches l.2, l.3),
  )
    where
      same : (u v : ℕ) → u < S → v < S → AlikeBehind earlier Ss f u v ↔ Alike Ss g u v
      same = alike_behind earlier S Ss f g some b

  -- Behind stretches that hold some values, at all of which the search is g at the fields that are left, the layouts are those of g.
  layout_behind : (none : A) (sizes : List ℕ) (earlier : List Range) (f g : List ℕ → A) (rows : List (Row A)) → Held earlier
      → Behind earlier sizes f g → LayoutBehind none earlier sizes f rows ↔ Layout none sizes g rows
  layout_behind none [] earlier f g rows some b = leaf_behind none earlier f g rows some b
  layout_behind none (S ∷ Ss) earlier f g rows some b =
      field_behind none S Ss earlier f g rows some b
      (λ t s.
      layout_behind none Ss (earlier ++ (range t.low t.high ∷ [])) f (λ vs. g (t.low ∷ vs)) t.layout
      (held_more earlier S (Alike Ss g) t s some)
      (behind_more earlier S Ss f g t b s))

  -- Rows are a layout with the earlier fields at any values of the stretches already cut exactly if they are one with them at the lowest.
  pub layout_as_written : (none : A) (sizes : List ℕ) (f : List ℕ → A) (rows : List (Row A))
      → LayoutAsWritten none sizes f rows ↔ Layout none sizes f rows
  unfolding Held Behind holds
  layout_as_written none sizes f rows = layout_behind none sizes [] f f rows ([], refl) first
    where
      first : (us vs : List ℕ) → holds [] us ≡ true → Combination sizes vs → f (us ++ vs) ≡ f vs
      first [] vs h ok = refl
      first (u ∷ us) vs h ok = absurd (false≢true h)

module _ {A : Type 0} (same? : Discrete A) (none : A) (sizes : List ℕ) (f : List ℕ → A) where
  -- So document 01's description, to the letter, is the computation,
  pub as_written_iff : (rows : List (Row A)) → LayoutAsWritten none sizes f rows ↔ (rows ≡ normal_form same? none sizes f)
  as_written_iff rows =
      let w = layout_as_written none sizes f rows in
      let c = layout_iff same? none sizes f rows in
      (λ l. c.0 (w.0 l), λ e. w.1 (c.1 e))

  -- and there is exactly one list of rows that it describes.
  pub one_layout : (rows : List (Row A)) × LayoutAsWritten none sizes f rows
      × ((others : List (Row A)) → LayoutAsWritten none sizes f others → others ≡ rows)
  one_layout = (normal_form same? none sizes f, (as_written_iff (normal_form same? none sizes f)).1 refl, λ others. (as_written_iff others).0)
