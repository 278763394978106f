-- What the pair for a packet is: the smallest inbound SPI of the wanted pairs, ESP before AH on a tie. Assumes nothing.
use Rattle.std.specs.Prelude.{Option, Some, None, ℕ, ◌<◌, Bool, cond, ◌&&◌, ◌↔◌, ◌⊎◌}
use Rattle.std.proofs.Common.{arith, sym, ◌∙◌, inl, inr, lt-ltb, le-ltb, eq-eqb, ne_eqb}
use Rattle.std.proofs.Math.Decide.{dec_lt, ℕ_discrete}
use Rattle.std.proofs.Math.Path.{◌≡◌, refl, ap}
use Rattle.std.proofs.lemmas.Option.{none-some, same_Some}
use Rattle.sad.specs.declared.Sa.{Sa}
use Rattle.std.proofs.Math.Bool.{true, false, false≢true}
use mathlib.Core.List.Memᴰ
use mathlib.Core.List.{List, [], ◌∷◌, Memᴰ}
use Rattle.std.proofs.Math.Logic.{⊎_elim}
use Rattle.selectors.proofs.RangeLaws.{both_true}
use Rattle.sad.specs.Pairs.{Pair, wanted, before, best_of, found_sa, found_pair, pair_for}
use Rattle.sad.specs.PairsLaws.{best-cons}

-- The smaller inbound SPI, or the same and the smaller protocol.
Before : Pair → Pair → Type 0
Before q b = (q.inbound_spi < b.inbound_spi) ⊎ ((q.inbound_spi ≡ b.inbound_spi) × (q.protocol < b.protocol))

before_decides : (q b : Pair) → ((before q b ≡ true) × Before q b) ⊎ ((before q b ≡ false) × (Before q b → ⊥))
unfolding before Before
before_decides q b = by (dec_lt q.inbound_spi b.inbound_spi) (ℕ_discrete q.inbound_spi b.inbound_spi) (dec_lt q.protocol b.protocol)
  where
    by : Dec (q.inbound_spi < b.inbound_spi) → Dec (q.inbound_spi ≡ b.inbound_spi) → Dec (q.protocol < b.protocol)
        → ((before q b ≡ true) × Before q b) ⊎ ((before q b ≡ false) × (Before q b → ⊥))
    by (yes h) d e = inl (rw (lt-ltb q.inbound_spi b.inbound_spi h), inl h)
    by (no h) (yes d) (yes e) = inl (rw (le-ltb q.inbound_spi b.inbound_spi (omega arith), eq-eqb q.inbound_spi b.inbound_spi d, lt-ltb q.protocol b.protocol e), inr (d, e))
    by (no h) (yes d) (no e) =
        inr (rw (le-ltb q.inbound_spi b.inbound_spi (omega arith), eq-eqb q.inbound_spi b.inbound_spi d, le-ltb q.protocol b.protocol (omega arith)), ⊎_elim (λ l. h l) (λ m. e m.1))
    by (no h) (no d) e =
        inr (rw (le-ltb q.inbound_spi b.inbound_spi (omega arith), ne_eqb q.inbound_spi b.inbound_spi d), ⊎_elim (λ l. h l) (λ m. d m.0))

is-before : (q b : Pair) → before q b ≡ true → Before q b
is-before q b e = ⊎_elim (λ y. y.1) (λ n. absurd (false≢true (sym n.0 ∙ e))) (before_decides q b)

before_is : (q b : Pair) → Before q b → before q b ≡ true
before_is q b h = ⊎_elim (λ y. y.0) (λ n. absurd (n.1 h)) (before_decides q b)

not-before : (q b : Pair) → (before q b ≡ true → ⊥) → before q b ≡ false
not-before q b n = ⊎_elim (λ y. absurd (n y.0)) (λ m. m.0) (before_decides q b)

chain : (r q b : Pair) → Before r q → Before q b → Before r b
unfolding Before
chain r q b (inl h) (inl g) = inl (omega arith)
chain r q b (inl h) (inr g) = inl (omega arith)
chain r q b (inr h) (inl g) = inl (omega arith)
chain r q b (inr h) (inr g) = inr (omega arith, omega arith)

before_trans : (r q b : Pair) → before r q ≡ true → before q b ≡ true → before r b ≡ true
before_trans r q b h g = before_is r b (chain r q b (is-before r q h) (is-before q b g))

before_itself : (q : Pair) → before q q ≡ true → ⊥
unfolding Before
before_itself q e = ⊎_elim (λ h. omega arith) (λ h. omega (arith, h.1)) (is-before q q e)

-- The best of a pair b and the wanted pairs of a list.
module _ (number : ℕ) (vs : List ℕ) where
  best-nil : (b : Option Pair) → best_of number vs b [] ≡ b
  unfolding best_of
  best-nil b = refl

  -- It is b or goes before it.
  reached : (qs : List Pair) (b q : Pair) → best_of number vs (Some b) qs ≡ Some q → (q ≡ b) ⊎ (before q b ≡ true)
  reached [] b q e = inl (sym (same_Some b q (sym (best-nil (Some b)) ∙ e)))
  reached (r ∷ qs) b q e =
      by (wanted number vs r && before r b) refl (sym (best-cons number vs (Some b) r qs) ∙ e) (reached qs r q) (reached qs b q)
    where
      by : (t : Bool) → wanted number vs r && before r b ≡ t → best_of number vs (cond (wanted number vs r && before r b) (Some r) (Some b)) qs ≡ Some q
          → (best_of number vs (Some r) qs ≡ Some q → (q ≡ r) ⊎ (before q r ≡ true))
          → (best_of number vs (Some b) qs ≡ Some q → (q ≡ b) ⊎ (before q b ≡ true)) → (q ≡ b) ⊎ (before q b ≡ true)
      by true t e ihr ihb =
          let h = (both_true (wanted number vs r) (before r b) t).1 in
          ⊎_elim (λ s. inr (rw s h)) (λ g. inr (before_trans q r b g h)) (ihr (rw t at e))
      by false t e ihr ihb = ihb (rw t at e)

  -- It is b or one of the wanted pairs.
  member : (qs : List Pair) (b q : Pair) → best_of number vs (Some b) qs ≡ Some q → (q ≡ b) ⊎ (Memᴰ q qs × (wanted number vs q ≡ true))
  member [] b q e = inl (sym (same_Some b q (sym (best-nil (Some b)) ∙ e)))
  member (r ∷ qs) b q e =
      by (wanted number vs r && before r b) refl (sym (best-cons number vs (Some b) r qs) ∙ e) (member qs r q) (member qs b q)
    where
      by : (t : Bool) → wanted number vs r && before r b ≡ t → best_of number vs (cond (wanted number vs r && before r b) (Some r) (Some b)) qs ≡ Some q
          → (best_of number vs (Some r) qs ≡ Some q → (q ≡ r) ⊎ (Memᴰ q qs × (wanted number vs q ≡ true)))
          → (best_of number vs (Some b) qs ≡ Some q → (q ≡ b) ⊎ (Memᴰ q qs × (wanted number vs q ≡ true)))
          → (q ≡ b) ⊎ (Memᴰ q (r ∷ qs) × (wanted number vs q ≡ true))
      by true t e ihr ihb =
          let h = (both_true (wanted number vs r) (before r b) t).0 in
          ⊎_elim (λ s. inr (Memᴰ.head s, rw s h)) (λ m. inr (Memᴰ.tail m.0, m.1)) (ihr (rw t at e))
      by false t e ihr ihb = ⊎_elim inl (λ m. inr (Memᴰ.tail m.0, m.1)) (ihb (rw t at e))

  -- None of them goes before it.
  Least : Pair → List Pair → Type 0
  Least q qs = (r : Pair) → Memᴰ r qs → wanted number vs r ≡ true → before r q ≡ false

  least : (qs : List Pair) (b q : Pair) → best_of number vs (Some b) qs ≡ Some q → (before b q ≡ false) × Least q qs
  unfolding Least
  least [] b q e =
      (not-before b q (λ h. before_itself b (rw (sym (same_Some b q (sym (best-nil (Some b)) ∙ e))) at h)), λ r m w. absurd (Memᴰ.not-nil m))
  least (r ∷ qs) b q e =
      by (wanted number vs r && before r b) refl (sym (best-cons number vs (Some b) r qs) ∙ e) (least qs r q) (least qs b q)
    where
      by : (t : Bool) → wanted number vs r && before r b ≡ t → best_of number vs (cond (wanted number vs r && before r b) (Some r) (Some b)) qs ≡ Some q
          → (best_of number vs (Some r) qs ≡ Some q → (before r q ≡ false) × Least q qs)
          → (best_of number vs (Some b) qs ≡ Some q → (before b q ≡ false) × Least q qs) → (before b q ≡ false) × Least q (r ∷ qs)
      by true t e ihr ihb =
          let h = (both_true (wanted number vs r) (before r b) t).1 in
          let i = ihr (rw t at e) in (
            not-before b q (λ g. false≢true (sym i.0 ∙ before_trans r b q h g)),
            λ x m w. ⊎_elim (λ s. rw s i.0) (λ n. i.1 x n w) (Memᴰ.cases_cons m),
          )
      by false t e ihr ihb =
          let e' : best_of number vs (Some b) qs ≡ Some q = rw t at e in
          let i = ihb e' in (
            i.0,
            λ x m w. ⊎_elim
                (λ s. not-before x q
                (λ g. false≢true (sym t ∙ rw (← s, w)
                (⊎_elim (λ o. rw (← o) g) (λ o. before_trans x q b g o) (reached qs b q e')))))
                (λ n. i.1 x n w) (Memᴰ.cases_cons m),
          )

  never_none : (qs : List Pair) (b : Pair) → best_of number vs (Some b) qs ≡ None → ⊥
  never_none [] b e = none-some b (sym e ∙ best-nil (Some b))
  never_none (r ∷ qs) b e =
      by (wanted number vs r && before r b) refl (sym (best-cons number vs (Some b) r qs) ∙ e) (never_none qs r) (never_none qs b)
    where
      by : (t : Bool) → wanted number vs r && before r b ≡ t → best_of number vs (cond (wanted number vs r && before r b) (Some r) (Some b)) qs ≡ None
          → (best_of number vs (Some r) qs ≡ None → ⊥) → (best_of number vs (Some b) qs ≡ None → ⊥) → ⊥
      by true t e ihr ihb = ihr (rw t at e)
      by false t e ihr ihb = ihb (rw t at e)

  -- With nothing to begin with: the first pair is passed over, or is the one to beat.
  best_passed : (r : Pair) (qs : List Pair) → wanted number vs r ≡ false → best_of number vs None (r ∷ qs) ≡ best_of number vs None qs
  best_passed r qs w = best-cons number vs None r qs ∙ rw w

  best_first : (r : Pair) (qs : List Pair) → wanted number vs r ≡ true → best_of number vs None (r ∷ qs) ≡ best_of number vs (Some r) qs
  best_first r qs w = best-cons number vs None r qs ∙ rw w

  -- A pair of the list that is wanted, and before which no wanted pair of the list goes.
  pub record Best (qs : List Pair) (q : Pair) : Type 0 where
    pub in_list : Memᴰ q qs
    pub is-wanted : wanted number vs q ≡ true
    pub is_least : (r : Pair) → Memᴰ r qs → wanted number vs r ≡ true → before r q ≡ false

  pub best-found : (qs : List Pair) (q : Pair) → best_of number vs None qs ≡ Some q → Best qs q
  unfolding Least
  best-found [] q e = absurd (none-some q (sym (best-nil None) ∙ e))
  best-found (r ∷ qs) q e = by (wanted number vs r) refl (best-found qs q)
    where
      by : (w : Bool) → wanted number vs r ≡ w → (best_of number vs None qs ≡ Some q → Best qs q) → Best (r ∷ qs) q
      by true w ih = top (sym (best_first r qs w) ∙ e)
        where
          top : best_of number vs (Some r) qs ≡ Some q → Best (r ∷ qs) q
          top e' =
              let l = least qs r q e' in
              let m = member qs r q e' in
              record {
                in_list = ⊎_elim Memᴰ.head (λ n. Memᴰ.tail n.0) m;
                is-wanted = ⊎_elim (λ s. rw s w) (λ n. n.1) m;
                is_least = λ x n v. ⊎_elim (λ s. rw s l.0) (λ k. l.1 x k v) (Memᴰ.cases_cons n);
              }
      by false w ih =
          let i = ih (sym (best_passed r qs w) ∙ e) in
          record {
            in_list = Memᴰ.tail i.in_list;
            is-wanted = i.is-wanted;
            is_least = λ x n v. ⊎_elim (λ s. absurd (false≢true (sym w ∙ rw (← s) v))) (λ k. i.is_least x k v) (Memᴰ.cases_cons n);
          }

  pub none-wanted : (qs : List Pair) → best_of number vs None qs ≡ None → (q : Pair) → Memᴰ q qs → wanted number vs q ≡ false
  none-wanted [] e q m = absurd (Memᴰ.not-nil m)
  none-wanted (r ∷ qs) e q m = by (wanted number vs r) refl (none-wanted qs)
    where
      by : (w : Bool) → wanted number vs r ≡ w → (best_of number vs None qs ≡ None → (q : Pair) → Memᴰ q qs → wanted number vs q ≡ false) → wanted number vs q ≡ false
      by true w ih = absurd (never_none qs r (sym (best_first r qs w) ∙ e))
      by false w ih = ⊎_elim (λ s. rw s w) (ih (sym (best_passed r qs w) ∙ e) q) (Memᴰ.cases_cons m)

  pub wanted_none : (qs : List Pair) → ((q : Pair) → Memᴰ q qs → wanted number vs q ≡ false) → best_of number vs None qs ≡ None
  wanted_none [] h = best-nil None
  wanted_none (r ∷ qs) h = best_passed r qs (h r (Memᴰ.head refl)) ∙ wanted_none qs (λ q m. h q (Memᴰ.tail m))

  -- 2 and 3 of document 01: there is a pair for the packet exactly where some pair is wanted, and then it is the best of them.
  pub pair_for-found : (qs : List Pair) (protocol spi : ℕ) → pair_for number vs qs ≡ Some (record { protocol = protocol; spi = spi })
      → (q : Pair) × Best qs q × (q.protocol ≡ protocol) × (q.outbound_spi ≡ spi)
  unfolding pair_for
  pair_for-found qs protocol spi e = by (best_of number vs None qs) refl e
    where
      by : (b : Option Pair) → best_of number vs None qs ≡ b → found_pair b ≡ Some (record { protocol = protocol; spi = spi })
          → (q : Pair) × Best qs q × (q.protocol ≡ protocol) × (q.outbound_spi ≡ spi)
      by None b f = let z : ◌≡◌ {A = ℕ} 0 1 = cc in absurd (omega arith)
      by (Some q) b f =
          let same : found_sa q ≡ record { protocol = protocol; spi = spi } = same_Some _ _ f in
          (q, best-found qs q b, ap (λ (s : Sa). s.protocol) same, ap (λ (s : Sa). s.spi) same)

  pub pair_for_nothing : (qs : List Pair) → (pair_for number vs qs ≡ None) ↔ ((q : Pair) → Memᴰ q qs → wanted number vs q ≡ false)
  unfolding pair_for
  pair_for_nothing qs = (λ e. none-wanted qs (by (best_of number vs None qs) e), λ h. rw (wanted_none qs h))
    where
      by : (b : Option Pair) → found_pair b ≡ None → b ≡ None
      by None f = refl
      by (Some q) f = let z : ◌≡◌ {A = ℕ} 0 1 = cc in absurd (omega arith)
