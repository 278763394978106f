-- The table of pairs after any sequence holds the pairs that the calls made live, no two of one name, and at most 64. Assumes nothing.
use Rattle.std.specs.Prelude.{ℕ, zero, suc, ◌+◌, ◌*◌, ◌≤◌, ◌<◌, ◌≡◌, refl, Bool, true, false, cond, not, ◌⊎◌, leb, eqb, length, get_or, replicate, Option, Some, None, Ok, Err}
use Rattle.std.proofs.Common.{arith, sym, ap, ◌∙◌, subst, inl, inr, ⊎_elim, length-append, eqb-true, eq-eqb, lt-ltb, le-ltb}
use Rattle.std.proofs.Math.Decide.{dec_lt}
use Rattle.std.proofs.lemmas.Bool.{false≢true}
use mathlib.Core.List.Memᴰ
use mathlib.Core.List.{List, [], ◌∷◌, ◌++◌, Memᴰ}
use Rattle.std.proofs.lemmas.List.{length-replicate}
use Rattle.selectors.proofs.RangeLaws.{both_true}
use Rattle.sad.specs.declared.NewPair.{NewPair}
use Rattle.sad.specs.Pairs.{Outcome, done}
use Rattle.sad.specs.declared.PairError.TheVariants.{ReservedSpi, AlreadyLive, TableFull, BadPair, NothingToRemove}
use Rattle.sad.specs.declared.Sa.{Sa}
use Rattle.sad.specs.BestLaws.{Best, pair_for-found, pair_for_nothing}
use Rattle.sad.specs.TableLaws.{pairs_before, pairs_after, refused_kept, pairs_after_add, pairs_after_remove, nothing_kept}
use Rattle.sad.specs.Pairs.{Pair, pair_at, is_live_at, before, pair_for, place_count, place_words, pairs_from as placesFrom, pairs, named, live, fitting, reserved_spi, well_formed, new_pair, add_outcome, added, remove_outcome, removed}
use Rattle.answer_rules.proofs.NamedLaws.{Named, live_iff, NamesDiffer, fitting_iff}
use Rattle.sequences.specs.Sequence.{Gateway, Call, policy, add, remove, outbound, inbound, comes_from_sa, fresh, after, run}
use Rattle.sequences.proofs.InvariantLaws.{pair_words-after}
use Rattle.sequences.specs.Current.{added_to, without, pairs_then, pairs_from, live_pairs}

-- A pair has that name.
named_both : (protocol spi : ℕ) (q : Pair) → named protocol spi q ≡ true → Named protocol spi q
named_both protocol spi q e =
    let b = both_true (eqb q.protocol protocol) (eqb q.inbound_spi spi) e in
    (eqb-true _ _ b.0, eqb-true _ _ b.1)

named_itself : (q : Pair) → named q.protocol q.inbound_spi q ≡ true
named_itself q = rw (eq-eqb q.protocol q.protocol refl, eq-eqb q.inbound_spi q.inbound_spi refl)

moved : (protocol spi : ℕ) (q r : Pair) → q ≡ r → named protocol spi q ≡ true → named protocol spi r ≡ true
moved protocol spi q r s e = subst (λ (t : Pair). named protocol spi t ≡ true) s e

both-named : (protocol spi : ℕ) (q : Pair) → Named protocol spi q → named protocol spi q ≡ true
both-named protocol spi q n = rw (eq-eqb q.protocol protocol n.0, eq-eqb q.inbound_spi spi n.1)

-- A name is live where a pair of the list has it.
live_mem : (protocol spi : ℕ) (qs : List Pair) (q : Pair) → Memᴰ q qs → named protocol spi q ≡ true → live protocol spi qs ≡ true
live_mem protocol spi qs q m e = (live_iff protocol spi qs).1 (q, m, named_both protocol spi q e)

mem-live : (protocol spi : ℕ) (qs : List Pair) → live protocol spi qs ≡ true → (q : Pair) × Memᴰ q qs × (named protocol spi q ≡ true)
mem-live protocol spi qs e = let h = (live_iff protocol spi qs).0 e in (h.0, h.1, both-named protocol spi h.0 h.2)

-- No two pairs of one name: 'Protocol and inbound SPI name a pair.'
unfoldable pub Unique : List Pair → Type 0
Unique [] = Unit
Unique (q ∷ qs) = (live q.protocol q.inbound_spi qs ≡ false) × Unique qs

-- Two pairs of one name are one.
same_name : (protocol spi : ℕ) (qs : List Pair) → Unique qs → (q r : Pair) → Memᴰ q qs → Memᴰ r qs
    → named protocol spi q ≡ true → named protocol spi r ≡ true → q ≡ r
unfolding Unique
same_name protocol spi [] u q r m n e f = absurd (Memᴰ.not-nil m)
same_name protocol spi (t ∷ qs) u q r m n e f =
    ⊎_elim
    (λ a. ⊎_elim (λ b. a ∙ sym b) (λ b. absurd (clash r b f (moved protocol spi q t a e))) (Memᴰ.cases_cons n))
    (λ a. ⊎_elim (λ b. absurd (clash q a e (moved protocol spi r t b f))) (λ b. same_name protocol spi qs u.1 q r a b e f) (Memᴰ.cases_cons n))
    (Memᴰ.cases_cons m)
  where
    clash : (x : Pair) → Memᴰ x qs → named protocol spi x ≡ true → named protocol spi t ≡ true → ⊥
    clash x m e f =
        let a = named_both protocol spi t f in
        let h : live protocol spi qs ≡ true = live_mem protocol spi qs x m e in
        false≢true (sym u.0 ∙ rw (a.0, a.1) h)

-- A pair put into a list: what is in it, how long it is, and that names stay unique.
put_mem : (B A : List Pair) (q r : Pair) → Memᴰ r (B ++ q ∷ A) → (r ≡ q) ⊎ Memᴰ r (B ++ A)
put_mem B A q r m =
    ⊎_elim (λ b. inr (Memᴰ.append_left A b)) (λ t. ⊎_elim inl (λ a. inr (Memᴰ.append_right B a)) (Memᴰ.cases_cons t)) (Memᴰ.append_cases B m)

mem-put : (B A : List Pair) (q r : Pair) → (r ≡ q) ⊎ Memᴰ r (B ++ A) → Memᴰ r (B ++ q ∷ A)
mem-put B A q r (inl e) = Memᴰ.append_right B (Memᴰ.head e)
mem-put B A q r (inr m) = ⊎_elim (λ b. Memᴰ.append_left (q ∷ A) b) (λ a. Memᴰ.append_right B (Memᴰ.tail a)) (Memᴰ.append_cases B m)

put-length : (B A : List Pair) (q : Pair) → length (B ++ q ∷ A) ≡ length (B ++ A) + 1
put-length B A q = simp length-append (omega arith)

not_live : (protocol spi : ℕ) (qs : List Pair) → (live protocol spi qs ≡ true → ⊥) → live protocol spi qs ≡ false
not_live protocol spi qs n = by (live protocol spi qs) refl
  where
    by : (b : Bool) → live protocol spi qs ≡ b → live protocol spi qs ≡ false
    by true e = absurd (n e)
    by false e = e

-- Two pairs have one name, or not, whichever is asked first.
named_either : (q b : Pair) → named b.protocol b.inbound_spi q ≡ true → named q.protocol q.inbound_spi b ≡ true
named_either q b e = let n = named_both b.protocol b.inbound_spi q e in rw (n.0, n.1) (named_itself b)

put_unique : (B A : List Pair) (q : Pair) → live q.protocol q.inbound_spi (B ++ A) ≡ false → Unique (B ++ A) → Unique (B ++ q ∷ A)
unfolding Unique live
put_unique [] A q l u = (l, u)
put_unique (b ∷ B) A q l u = by (named q.protocol q.inbound_spi b) refl (λ h. put_unique B A q h u.1)
  where
    by : (t : Bool) → named q.protocol q.inbound_spi b ≡ t → (live q.protocol q.inbound_spi (B ++ A) ≡ false → Unique (B ++ q ∷ A))
        → (live b.protocol b.inbound_spi (B ++ q ∷ A) ≡ false) × Unique (B ++ q ∷ A)
    by true e ih = absurd (false≢true (sym l ∙ rw e))
    by false e ih = (not_live b.protocol b.inbound_spi (B ++ q ∷ A) (λ h. clash (mem-live b.protocol b.inbound_spi (B ++ q ∷ A) h)), ih (rw e at l))
      where
        clash : (r : Pair) × Memᴰ r (B ++ q ∷ A) × (named b.protocol b.inbound_spi r ≡ true) → ⊥
        clash c =
            ⊎_elim
            (λ s. false≢true (sym e ∙ named_either q b (moved b.protocol b.inbound_spi c.0 q s c.2)))
            (λ m. false≢true (sym u.0 ∙ live_mem b.protocol b.inbound_spi (B ++ A) c.0 m c.2))
            (put_mem B A q c.0 c.1)

-- A pair taken out of a list with unique names.
taken_unique : (B A : List Pair) (q : Pair) → Unique (B ++ q ∷ A) → Unique (B ++ A) × (live q.protocol q.inbound_spi (B ++ A) ≡ false)
unfolding Unique live
taken_unique [] A q u = (u.1, u.0)
taken_unique (b ∷ B) A q u =
    let ih = taken_unique B A q u.1 in
    let first : live b.protocol b.inbound_spi (B ++ A) ≡ false =
    not_live b.protocol b.inbound_spi (B ++ A)
    (λ h. let m = mem-live b.protocol b.inbound_spi (B ++ A) h in
    false≢true (sym u.0 ∙ live_mem b.protocol b.inbound_spi (B ++ q ∷ A) m.0 (mem-put B A q m.0 (inr m.1)) m.2)) in
    ((first, ih.0), by (named q.protocol q.inbound_spi b) refl ih.1)
  where
    by : (t : Bool) → named q.protocol q.inbound_spi b ≡ t → live q.protocol q.inbound_spi (B ++ A) ≡ false
        → cond t true (live q.protocol q.inbound_spi (B ++ A)) ≡ false
    by true e l = absurd (false≢true (sym u.0 ∙ live_mem b.protocol b.inbound_spi (B ++ q ∷ A) q (mem-put B A q q (inl refl)) (named_either b q e)))
    by false e l = l

-- The rest of a list without a name.
without_mem : (protocol spi : ℕ) (qs : List Pair) (r : Pair) → Memᴰ r (without protocol spi qs) → Memᴰ r qs × (named protocol spi r ≡ false)
unfolding without
without_mem protocol spi [] r m = absurd (Memᴰ.not-nil m)
without_mem protocol spi (q ∷ qs) r m = by (named protocol spi q) refl (without_mem protocol spi qs r)
  where
    by : (b : Bool) → named protocol spi q ≡ b → (Memᴰ r (without protocol spi qs) → Memᴰ r qs × (named protocol spi r ≡ false))
        → Memᴰ r (q ∷ qs) × (named protocol spi r ≡ false)
    by true e ih = let i = ih (rw e at m) in (Memᴰ.tail i.0, i.1)
    by false e ih = ⊎_elim (λ s. (Memᴰ.head s, ap (named protocol spi) s ∙ e)) (λ t. let i = ih t in (Memᴰ.tail i.0, i.1)) (Memᴰ.cases_cons (rw e at m))

mem-without : (protocol spi : ℕ) (qs : List Pair) (r : Pair) → Memᴰ r qs → named protocol spi r ≡ false → Memᴰ r (without protocol spi qs)
unfolding without
mem-without protocol spi [] r m e = absurd (Memᴰ.not-nil m)
mem-without protocol spi (q ∷ qs) r m e = by (named protocol spi q) refl (λ t. mem-without protocol spi qs r t e)
  where
    by : (b : Bool) → named protocol spi q ≡ b → (Memᴰ r qs → Memᴰ r (without protocol spi qs))
        → Memᴰ r (cond b (without protocol spi qs) (q ∷ without protocol spi qs))
    by true h ih = ⊎_elim (λ s. absurd (false≢true (sym e ∙ ap (named protocol spi) s ∙ h))) ih (Memᴰ.cases_cons m)
    by false h ih = ⊎_elim (λ s. Memᴰ.head s) (λ t. Memᴰ.tail (ih t)) (Memᴰ.cases_cons m)

-- A name that is not live takes nothing out; one that is takes one pair.
without_none : (protocol spi : ℕ) (qs : List Pair) → live protocol spi qs ≡ false → without protocol spi qs ≡ qs
unfolding without live
without_none protocol spi [] e = refl
without_none protocol spi (q ∷ qs) e = by (named protocol spi q) refl (without_none protocol spi qs)
  where
    by : (b : Bool) → named protocol spi q ≡ b → (live protocol spi qs ≡ false → without protocol spi qs ≡ qs)
        → cond b (without protocol spi qs) (q ∷ without protocol spi qs) ≡ q ∷ qs
    by true h ih = absurd (false≢true (sym e ∙ rw h))
    by false h ih = ap (◌∷◌ q) (ih (rw h at e))

without_one : (protocol spi : ℕ) (qs : List Pair) → Unique qs → live protocol spi qs ≡ true → length (without protocol spi qs) + 1 ≡ length qs
unfolding without live Unique
without_one protocol spi [] u e = absurd (false≢true e)
without_one protocol spi (q ∷ qs) u e = by (named protocol spi q) refl (without_one protocol spi qs u.1)
  where
    by : (b : Bool) → named protocol spi q ≡ b → (live protocol spi qs ≡ true → length (without protocol spi qs) + 1 ≡ length qs)
        → length (cond b (without protocol spi qs) (q ∷ without protocol spi qs)) + 1 ≡ length (q ∷ qs)
    by true h ih =
        let n = named_both protocol spi q h in
        let l : live protocol spi qs ≡ false = rw (n.0, n.1) at u.0 in
        rw (without_none protocol spi qs l) (omega arith)
    by false h ih = let l = ih (rw h at e) in omega arith

without_unique : (protocol spi : ℕ) (qs : List Pair) → Unique qs → Unique (without protocol spi qs)
unfolding without Unique
without_unique protocol spi [] u = tt
without_unique protocol spi (q ∷ qs) u = by (named protocol spi q) (without_unique protocol spi qs u.1)
  where
    by : (b : Bool) → Unique (without protocol spi qs) → Unique (cond b (without protocol spi qs) (q ∷ without protocol spi qs))
    by true ih = ih
    by false ih = (
      not_live q.protocol q.inbound_spi (without protocol spi qs) (λ h. let m = mem-live q.protocol q.inbound_spi (without protocol spi qs) h in
          false≢true (sym u.0 ∙ live_mem q.protocol q.inbound_spi qs m.0 (without_mem protocol spi qs m.0 m.1).0 m.2)),
      ih,
    )

-- The same pairs in any order, no two of one name.
pub record Alike (qs rs : List Pair) : Type 0 where
  pub left : Unique qs
  pub right : Unique rs
  pub there : (q : Pair) → Memᴰ q qs → Memᴰ q rs
  pub back : (q : Pair) → Memᴰ q rs → Memᴰ q qs
  pub size : length qs ≡ length rs

same_test : (a b : Bool) → (a ≡ true → b ≡ true) → (b ≡ true → a ≡ true) → a ≡ b
same_test true true f g = refl
same_test true false f g = sym (f refl)
same_test false true f g = g refl
same_test false false f g = refl

-- What is asked of pairs does not depend on their order.
module _ (qs rs : List Pair) (h : Alike qs rs) where
  pub live_alike : (protocol spi : ℕ) → live protocol spi qs ≡ live protocol spi rs
  live_alike protocol spi =
      same_test _ _
      (λ e. let m = mem-live protocol spi qs e in live_mem protocol spi rs m.0 (h.there m.0 m.1) m.2)
      (λ e. let m = mem-live protocol spi rs e in live_mem protocol spi qs m.0 (h.back m.0 m.1) m.2)

  pub add_alike : (p : NewPair) → add_outcome qs p ≡ add_outcome rs p
  unfolding add_outcome
  add_alike p = rw (live_alike p.protocol p.spi_in, h.size)

  pub remove_alike : (protocol spi : ℕ) → remove_outcome qs protocol spi ≡ remove_outcome rs protocol spi
  unfolding remove_outcome
  remove_alike protocol spi = rw (live_alike protocol spi)

pub names_differ : (qs : List Pair) → Unique qs → NamesDiffer qs
names_differ qs u q r m n e f =
    same_name q.protocol q.inbound_spi qs u q r m n (named_itself q) (both-named q.protocol q.inbound_spi r (sym e, sym f))

module _ (qs rs : List Pair) (h : Alike qs rs) where
  pub fitting_alike : (protocol spi : ℕ) (vs : List ℕ) → fitting protocol spi vs qs ≡ fitting protocol spi vs rs
  fitting_alike protocol spi vs =
      let one = fitting_iff protocol spi vs qs (names_differ qs h.left) in
      let two = fitting_iff protocol spi vs rs (names_differ rs h.right) in
      same_test _ _
      (λ e. let m = one.0 e in two.1 (m.0, h.there m.0 m.1, m.2, m.3))
      (λ e. let m = two.0 e in one.1 (m.0, h.back m.0 m.1, m.2, m.3))

-- Of two pairs neither of which goes before the other, both have one name.
tied : (q r : Pair) → before q r ≡ false → before r q ≡ false → (r.inbound_spi ≡ q.inbound_spi) × (r.protocol ≡ q.protocol)
unfolding before
tied q r e f = by (dec_lt q.inbound_spi r.inbound_spi) (dec_lt r.inbound_spi q.inbound_spi) (dec_lt q.protocol r.protocol) (dec_lt r.protocol q.protocol)
  where
    by : Dec (q.inbound_spi < r.inbound_spi) → Dec (r.inbound_spi < q.inbound_spi) → Dec (q.protocol < r.protocol) → Dec (r.protocol < q.protocol)
        → (r.inbound_spi ≡ q.inbound_spi) × (r.protocol ≡ q.protocol)
    by (yes a) b c d = absurd (false≢true (sym e ∙ rw (lt-ltb q.inbound_spi r.inbound_spi a)))
    by (no a) (yes b) c d = absurd (false≢true (sym f ∙ rw (lt-ltb r.inbound_spi q.inbound_spi b)))
    by (no a) (no b) (yes c) d =
        let s : q.inbound_spi ≡ r.inbound_spi = omega arith in
        absurd (false≢true (sym e ∙ rw (le-ltb q.inbound_spi r.inbound_spi (omega arith), eq-eqb q.inbound_spi r.inbound_spi s, lt-ltb q.protocol r.protocol c)))
    by (no a) (no b) (no c) (yes d) =
        let s : r.inbound_spi ≡ q.inbound_spi = omega arith in
        absurd (false≢true (sym f ∙ rw (le-ltb r.inbound_spi q.inbound_spi (omega arith), eq-eqb r.inbound_spi q.inbound_spi s, lt-ltb r.protocol q.protocol d)))
    by (no a) (no b) (no c) (no d) = (omega arith, omega arith)

module _ (qs rs : List Pair) (h : Alike qs rs) (number : ℕ) (vs : List ℕ) where
  one_best : (q r : Pair) → Best number vs qs q → Best number vs rs r → q ≡ r
  one_best q r b c =
      let t = tied q r (c.is_least q (h.there q b.in_list) b.is-wanted) (b.is_least r (h.back r c.in_list) c.is-wanted) in
      let n : named q.protocol q.inbound_spi r ≡ true = rw (eq-eqb r.protocol q.protocol t.1, eq-eqb r.inbound_spi q.inbound_spi t.0) in
      same_name q.protocol q.inbound_spi qs h.left q r b.in_list (h.back r c.in_list) (named_itself q) n

  pub pair_for_alike : pair_for number vs qs ≡ pair_for number vs rs
  pair_for_alike = by (pair_for number vs qs) refl (pair_for number vs rs) refl
    where
      by : (x : Option Sa) → pair_for number vs qs ≡ x → (y : Option Sa) → pair_for number vs rs ≡ y → pair_for number vs qs ≡ pair_for number vs rs
      by None e None f = e ∙ sym f
      by (Some a) e None f =
          let q = pair_for-found number vs qs a.protocol a.spi e in
          absurd (false≢true (sym ((pair_for_nothing number vs rs).0 f q.0 (h.there q.0 q.1.in_list)) ∙ q.1.is-wanted))
      by None e (Some a) f =
          let q = pair_for-found number vs rs a.protocol a.spi f in
          absurd (false≢true (sym ((pair_for_nothing number vs qs).0 e q.0 (h.back q.0 q.1.in_list)) ∙ q.1.is-wanted))
      by (Some a) e (Some c) f =
          let q = pair_for-found number vs qs a.protocol a.spi e in
          let r = pair_for-found number vs rs c.protocol c.spi f in
          let s : q.0 ≡ r.0 = one_best q.0 r.0 q.1 r.1 in
          let p : a.protocol ≡ c.protocol = sym q.2 ∙ ap (λ (t : Pair). t.protocol) s ∙ r.2 in
          let o : a.spi ≡ c.spi = sym q.3 ∙ ap (λ (t : Pair). t.outbound_spi) s ∙ r.3 in
          e ∙ rw (p, o) (sym f)

-- A pair that is taken is new.
done_new : (qs : List Pair) (p : NewPair) → add_outcome qs p ≡ done → live p.protocol p.spi_in qs ≡ false
unfolding add_outcome
done_new qs p e = by (reserved_spi p) (well_formed p) (live p.protocol p.spi_in qs) (leb place_count (length qs)) e
  where
    by : (r w l f : Bool) → cond r (Err ReservedSpi) (cond (not w) (Err BadPair) (cond l (Err AlreadyLive) (cond f (Err TableFull) done))) ≡ done → l ≡ false
    by true w l f e = let z : ◌≡◌ {A = ℕ} 0 1 = cc in absurd (omega arith)
    by false false l f e = let z : ◌≡◌ {A = ℕ} 0 1 = cc in absurd (omega arith)
    by false true true f e = let z : ◌≡◌ {A = ℕ} 0 1 = cc in absurd (omega arith)
    by false true false f e = refl

-- The table and the calls stay alike: when a pair is put in, and when one is taken out.
put_alike : (B A qs : List Pair) (n : Pair) → live n.protocol n.inbound_spi (B ++ A) ≡ false → Alike (B ++ A) qs → Alike (B ++ n ∷ A) (n ∷ qs)
unfolding Unique
put_alike B A qs n l h =
    record {
      left = put_unique B A n l h.left;
      right = (sym (live_alike (B ++ A) qs h n.protocol n.inbound_spi) ∙ l, h.right);
      there = λ q m. ⊎_elim (λ s. Memᴰ.head s) (λ t. Memᴰ.tail (h.there q t)) (put_mem B A n q m);
      back = λ q m. mem-put B A n q (⊎_elim inl (λ t. inr (h.back q t)) (Memᴰ.cases_cons m));
      size = put-length B A n ∙ omega (arith, h.size);
    }

module _ (protocol spi : ℕ) (B A qs : List Pair) (r : Pair) (n : named protocol spi r ≡ true) (h : Alike (B ++ r ∷ A) qs) where
  gone : live protocol spi (B ++ A) ≡ false
  gone = let k = named_both protocol spi r n in rw (k.0, k.1) at (taken_unique B A r h.left).1

  not_named : (q : Pair) → Memᴰ q (B ++ A) → named protocol spi q ≡ false
  not_named q m = by (named protocol spi q) refl
    where
      by : (b : Bool) → named protocol spi q ≡ b → named protocol spi q ≡ false
      by true e = absurd (false≢true (sym gone ∙ live_mem protocol spi (B ++ A) q m e))
      by false e = e

  is_live : live protocol spi qs ≡ true
  is_live = live_mem protocol spi qs r (h.there r (mem-put B A r r (inl refl))) n

  taken_alike : Alike (B ++ A) (without protocol spi qs)
  taken_alike =
      record {
        left = (taken_unique B A r h.left).0;
        right = without_unique protocol spi qs h.right;
        there = λ q m. mem-without protocol spi qs q (h.there q (mem-put B A r q (inr m))) (not_named q m);
        back = λ q m.
            let k = without_mem protocol spi qs q m in
            ⊎_elim (λ s. absurd (false≢true (sym k.1 ∙ ap (named protocol spi) s ∙ n))) (λ t. t) (put_mem B A r q (h.back q k.0));
        size = omega (arith, put-length B A r, h.size, without_one protocol spi qs h.right is_live);
      }

add_then : (ws : List ℕ) (qs : List Pair) (p : NewPair) → length ws ≡ place_count * place_words → Alike (pairs ws) qs
    → Alike (pairs (added ws p)) (added_to qs p (add_outcome qs p))
add_then ws qs p size h = rw (sym (add_alike (pairs ws) qs h p)) (by (add_outcome (pairs ws) p) refl)
  where
    kept : (o : Outcome) → add_outcome (pairs ws) p ≡ o → (o ≡ done → ⊥) → Alike (pairs (added ws p)) qs
    kept o e n = rw (refused_kept ws p (λ d. n (sym e ∙ d))) h

    by : (o : Outcome) → add_outcome (pairs ws) p ≡ o → Alike (pairs (added ws p)) (added_to qs p o)
    by (Ok u) e =
        let a = pairs_after_add ws p size e in
        rw a.2 (put_alike (pairs_before ws a.0) (pairs_after ws a.0) qs (new_pair p) (rw a.1 at (done_new (pairs ws) p e)) (rw a.1 at h))
    by (Err ReservedSpi) e = kept (Err ReservedSpi) e (λ d. let z : ◌≡◌ {A = ℕ} 0 1 = cc in omega arith)
    by (Err AlreadyLive) e = kept (Err AlreadyLive) e (λ d. let z : ◌≡◌ {A = ℕ} 0 1 = cc in omega arith)
    by (Err TableFull) e = kept (Err TableFull) e (λ d. let z : ◌≡◌ {A = ℕ} 0 1 = cc in omega arith)
    by (Err BadPair) e = kept (Err BadPair) e (λ d. let z : ◌≡◌ {A = ℕ} 0 1 = cc in omega arith)
    by (Err NothingToRemove) e = kept (Err NothingToRemove) e (λ d. let z : ◌≡◌ {A = ℕ} 0 1 = cc in omega arith)

remove_then : (ws : List ℕ) (qs : List Pair) (protocol spi : ℕ) → length ws ≡ place_count * place_words → Alike (pairs ws) qs
    → Alike (pairs (removed ws protocol spi)) (without protocol spi qs)
unfolding remove_outcome
remove_then ws qs protocol spi size h = by (live protocol spi (pairs ws)) refl
  where
    by : (b : Bool) → live protocol spi (pairs ws) ≡ b → Alike (pairs (removed ws protocol spi)) (without protocol spi qs)
    by true e =
        let a = pairs_after_remove ws protocol spi size (rw e) in
        rw a.3 (taken_alike protocol spi (pairs_before ws a.0) (pairs_after ws a.0) qs (pair_at ws a.0) a.1 (rw a.2 at h))
    by false e = rw (nothing_kept ws protocol spi size (rw e), without_none protocol spi qs (sym (live_alike (pairs ws) qs h protocol spi) ∙ e)) h

module _ (capacity limit : ℕ) where
  pairs-then : (g : Gateway) (qs : List Pair) (c : Call) → length g.sad ≡ place_count * place_words → Alike (pairs g.sad) qs
      → Alike (pairs (after capacity limit g c).sad) (pairs_then qs c)
  unfolding after
  pairs-then g qs (policy s) size h = h
  pairs-then g qs (add p) size h = add_then g.sad qs p size h
  pairs-then g qs (remove protocol spi) size h = remove_then g.sad qs protocol spi size h
  pairs-then g qs (outbound p) size h = h
  pairs-then g qs (inbound p) size h = h
  pairs-then g qs (comes_from_sa protocol spi p) size h = h

  pairs-run : (g : Gateway) (qs : List Pair) (cs : List Call) → length g.sad ≡ place_count * place_words → Alike (pairs g.sad) qs
      → Alike (pairs (run capacity limit g cs).sad) (pairs_from qs cs)
  unfolding run pairs_from
  pairs-run g qs [] size h = h
  pairs-run g qs (c ∷ cs) size h = pairs-run (after capacity limit g c) (pairs_then qs c) cs (pair_words-after capacity limit g c size) (pairs-then g qs c size h)

-- A table of zeros has no pair.
zero_at : (n i : ℕ) → ◌≡◌ {A = ℕ} (get_or (replicate n 0) i 0) 0
zero_at zero i = refl
zero_at (suc n) zero = refl
zero_at (suc n) (suc i) = zero_at n i

no_pairs : (ws : List ℕ) → ((i : ℕ) → get_or ws i 0 ≡ 0) → (i n : ℕ) → placesFrom ws i n ≡ []
unfolding placesFrom
no_pairs ws z i zero = refl
no_pairs ws z i (suc n) = rw (z (i * place_words)) (no_pairs ws z (suc i) n)

empty_alike : Alike [] []
unfolding Unique
empty_alike = record { left = tt; right = tt; there = λ q m. m; back = λ q m. m; size = refl }

-- After any sequence of calls the table holds the pairs that were added and not removed since, no two of one name.
pub pairs-live : (capacity limit address : ℕ) (cs : List Call)
    → Alike (pairs (run capacity limit (fresh capacity address) cs).sad) (live_pairs cs)
pairs-live capacity limit address cs =
    pairs-run capacity limit (fresh capacity address) [] cs (length-replicate {A = ℕ} (place_count * place_words) 0)
    (rw (no_pairs (replicate (place_count * place_words) 0) (zero_at (place_count * place_words)) 0 place_count) empty_alike)

few-pairs : (ws : List ℕ) (i n : ℕ) → length (placesFrom ws i n) ≤ n
unfolding placesFrom
few-pairs ws i zero = omega arith
few-pairs ws i (suc n) = by (is_live_at ws i) (few-pairs ws (suc i) n)
  where
    by : (b : Bool) → length (placesFrom ws (suc i) n) ≤ n → length (cond b (pair_at ws i ∷ placesFrom ws (suc i) n) (placesFrom ws (suc i) n)) ≤ suc n
    by true h = omega arith
    by false h = omega arith

-- 'At most 64 live pairs.'
pub at_most-64 : (cs : List Call) → length (live_pairs cs) ≤ place_count
at_most-64 cs = omega (arith, (pairs-live 0 0 0 cs).size, few-pairs (run 0 0 (fresh 0 0) cs).sad 0 place_count)

-- 'Protocol and inbound SPI name a pair': no two live pairs have one name.
pub one_name : (cs : List Call) → NamesDiffer (live_pairs cs)
one_name cs = names_differ (live_pairs cs) (pairs-live 0 0 0 cs).right
