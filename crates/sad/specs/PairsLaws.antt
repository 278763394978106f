-- Laws of the table of SA pairs. Assumes nothing.
use Prim.Native.Nat.{ℕ, zero, suc, ◌+◌, ◌-◌, ◌*◌, ◌<◌, ◌≤◌}
use native.Mathlib.Omega.{arith}
use Rattle.std.proofs.Math.Numerals.{add-one}
use Rattle.std.specs.Prelude.{◌≡◌, Option, Some, None, Err, Bool, is_some, cond, ◌&&◌, List, [], ◌∷◌, ltb, eqb, length, get_or, set}
use Rattle.std.proofs.Math.Path.{refl, ap}
use Rattle.std.proofs.Common.{sym, ◌∙◌}
use Rattle.std.proofs.Math.Bool.{true, false, or-false}
use mathlib.Core.Bool.{and-true, and-false}
use Rattle.std.specs.Option.{option_map, ok_or}
use Rattle.std.proofs.lemmas.Option.{none-some, same_Some}
use Rattle.std.proofs.Math.Dec.{leb}
use Rattle.std.proofs.lemmas.List.Edits.{sets}
use borrow.Author.Tests.{lt-ltb, le-ltb, le-leb, lt-leb, eq-eqb, ne_eqb}
use Rattle.selectors.specs.Range.{holds}
use Rattle.selectors.specs.Words.{ranges_at}
use Rattle.sad.specs.declared.NewPair.{NewPair}
use Rattle.sad.specs.declared.Head.{Head}
use Rattle.sad.specs.declared.PairError.{PairError}
use Rattle.sad.specs.declared.PairError.TheVariants.{ReservedSpi, AlreadyLive, TableFull, BadPair, NothingToRemove}
use Rattle.sad.specs.Pairs.{Pair, place_count, head_words, place_words, ipsec, pair_at, is_live_at, pairs_from, pairs, found_pair, pair_for, place_of, free_place, reserved_spi, well_formed, pair_words, add_outcome, added, remove_outcome, removed, named, live, fitting, named_at, free_at, wanted, before, beats, best_of, head_of, head_beats, first_from, fits_at, Outcome, done}

-- What is made where the test that chose holds, and not elsewhere.
pub chosen-made : {A : Type 0} (made : A → Bool) (x y : A) → made x ≡ true → made y ≡ false → (b : Bool) → made (cond b x y) ≡ b
chosen-made made x y p q true = p
chosen-made made x y p q false = q

-- Of two pairs the smaller inbound SPI goes before, and on a tie the smaller protocol: ESP before AH.
pub before_tied : (q b : Pair) → q.inbound_spi ≡ b.inbound_spi → ltb q.protocol b.protocol ≡ before q b
unfolding before
before_tied q b e = rw (le-ltb q.inbound_spi b.inbound_spi (omega arith), eq-eqb q.inbound_spi b.inbound_spi e)

pub before_other : (q b : Pair) → (q.inbound_spi ≡ b.inbound_spi → ⊥) → ltb q.inbound_spi b.inbound_spi ≡ before q b
unfolding before
before_other q b n = rw (ne_eqb q.inbound_spi b.inbound_spi n, or-false)

-- The first of the places that are left is the one, or is passed over, or there is none.
module _ (test : ℕ → Bool) (i n : ℕ) where
  pub first_found : i < n → test i ≡ true → first_from test i (n - i) ≡ Some i
  unfolding first_from
  first_found h e = let k : n - i ≡ suc (n - (i + 1)) = omega arith in rw (k, e)

  pub first_passed : i < n → test i ≡ false → first_from test i (n - i) ≡ first_from test (i + 1) (n - (i + 1))
  unfolding first_from
  first_passed h e = let k : n - i ≡ suc (n - (i + 1)) = omega arith in rw (k, e, ← add-one i)

  pub first_ended : n ≤ i → first_from test i (n - i) ≡ None
  unfolding first_from
  first_ended h = let k : n - i ≡ zero = omega arith in rw k

pub best-cons : (number : ℕ) (vs : List ℕ) (b : Option Pair) (q : Pair) (qs : List Pair)
    → best_of number vs b (q ∷ qs) ≡ best_of number vs (cond (wanted number vs q && beats q b) (Some q) b) qs
unfolding best_of
best-cons number vs b q qs = refl

-- A pair beats the best so far as the words of its place do.
heads_beat : (q : Pair) (b : Option Pair) → head_beats (head_of q) (option_map head_of b) ≡ beats q b
unfolding before
heads_beat q None = refl
heads_beat q (Some b) = refl

-- One more place of the search for the best pair, and its end, whatever the best so far.
pub best-next : (ws : List ℕ) (number : ℕ) (vs : List ℕ) (best : Option Pair) (i : ℕ) → i < place_count
    → best_of number vs best (pairs_from ws i (place_count - i))
    ≡ best_of number vs (cond (is_live_at ws i && wanted number vs (pair_at ws i) && beats (pair_at ws i) best) (Some (pair_at ws i)) best) (pairs_from ws (i + 1) (place_count - (i + 1)))
unfolding pairs_from
best-next ws number vs best i h =
    let k : place_count - i ≡ suc (place_count - (i + 1)) = omega arith in
    rw (k, add-one i) (by (is_live_at ws i) refl (wanted number vs (pair_at ws i) && beats (pair_at ws i) best) refl)
  where
    by : (l : Bool) → is_live_at ws i ≡ l → (b : Bool) → wanted number vs (pair_at ws i) && beats (pair_at ws i) best ≡ b
        → best_of number vs best (cond (is_live_at ws i) (pair_at ws i ∷ pairs_from ws (suc i) (place_count - suc i)) (pairs_from ws (suc i) (place_count - suc i)))
        ≡ best_of number vs (cond (is_live_at ws i && wanted number vs (pair_at ws i) && beats (pair_at ws i) best) (Some (pair_at ws i)) best) (pairs_from ws (suc i) (place_count - suc i))
    by true l true e = rw (l, best-cons number vs best (pair_at ws i), e)
    by true l false e = rw (l, best-cons number vs best (pair_at ws i), e)
    by false l b e = rw l

pub best_all : (ws : List ℕ) (number : ℕ) (vs : List ℕ) (best : Option Pair) (i : ℕ) → place_count ≤ i → best_of number vs best (pairs_from ws i (place_count - i)) ≡ best
unfolding pairs_from best_of
best_all ws number vs best i h = let k : place_count - i ≡ zero = omega arith in rw k

reordered : (l n h b : Bool) → l && (n && h) && b ≡ (l && n && b) && h
reordered false n h b = refl
reordered true false h b = refl
reordered true true h false = and-false h
reordered true true h true = and-true h

-- The search for the best pair: `best` is the best of the places before, of which the words are the head.
pub record BestSoFar (ws : List ℕ) (number : ℕ) (vs : List ℕ) (i : ℕ) (head : Option Head) : Type 0 where
  pub best : Option Pair
  pub is-head : head ≡ option_map head_of best
  pub rest : best_of number vs None (pairs ws) ≡ best_of number vs best (pairs_from ws i (place_count - i))

-- One more place of the search for the best pair, and its end.
module _ (ws : List ℕ) (number : ℕ) (vs : List ℕ) where
  pub best_none : BestSoFar ws number vs 0 None
  best_none = record { best = None; is-head = refl; rest = refl }

  module _ (head : Option Head) (i : ℕ) (so-far : BestSoFar ws number vs i head) where
    Wanted : Bool → Type 0
    Wanted b = is_live_at ws i && wanted number vs (pair_at ws i) && beats (pair_at ws i) so-far.best ≡ b

    -- Of the place's words, and then of its ranges.
    abbrev pub Better : Bool → Type 0
    Better b = (ipsec (head_of (pair_at ws i)).protocol && eqb (head_of (pair_at ws i)).number number && head_beats (head_of (pair_at ws i)) head) ≡ b

    abbrev pub Held : Bool → Type 0
    Held b = holds (ranges_at ws (i * place_words + head_words)) vs ≡ b

    is-wanted : is_live_at ws i && wanted number vs (pair_at ws i) && beats (pair_at ws i) so-far.best
        ≡ (ipsec (head_of (pair_at ws i)).protocol && eqb (head_of (pair_at ws i)).number number && head_beats (head_of (pair_at ws i)) head) && holds (ranges_at ws (i * place_words + head_words)) vs
    unfolding pair_at wanted
    is-wanted =
        rw (so-far.is-head, heads_beat)
        (reordered (is_live_at ws i) (eqb (pair_at ws i).number number) (holds (pair_at ws i).ranges vs) (beats (pair_at ws i) so-far.best))

    pub best_better : i < place_count → Better true → Held true → BestSoFar ws number vs (i + 1) (Some (head_of (pair_at ws i)))
    unfolding Wanted
    best_better h e k =
        let t : Wanted true = is-wanted ∙ rw (e, k) in
        record { best = Some (pair_at ws i); is-head = refl; rest = so-far.rest ∙ best-next ws number vs so-far.best i h ∙ rw t }

    pub best_passed-over : i < place_count → Better false → BestSoFar ws number vs (i + 1) head
    unfolding Wanted
    best_passed-over h e =
        let t : Wanted false = is-wanted ∙ rw e in
        record { best = so-far.best; is-head = so-far.is-head; rest = so-far.rest ∙ best-next ws number vs so-far.best i h ∙ rw t }

    pub best_not-held : i < place_count → Held false → BestSoFar ws number vs (i + 1) head
    unfolding Wanted
    best_not-held h k =
        let t : Wanted false = is-wanted ∙ rw (k, and-false) in
        record { best = so-far.best; is-head = so-far.is-head; rest = so-far.rest ∙ best-next ws number vs so-far.best i h ∙ rw t }

    pub best_ended : place_count ≤ i → head ≡ option_map head_of (best_of number vs None (pairs ws))
    unfolding pairs_from best_of
    best_ended h = let k : place_count - i ≡ zero = omega arith in so-far.is-head ∙ ap (option_map head_of) (sym (so-far.rest ∙ rw k))

-- The first place for which a test holds is one of the places.
pub first_bound : (test : ℕ → Bool) (i n j : ℕ) → first_from test i n ≡ Some j → j < i + n
unfolding first_from
first_bound test i zero j e = let z : ◌≡◌ {A = ℕ} 0 1 = cc in absurd (omega arith)
first_bound test i (suc n) j e = by (test i) refl (first_bound test (suc i) n j)
  where
    by : (b : Bool) → test i ≡ b → (first_from test (suc i) n ≡ Some j → j < suc i + n) → j < i + suc n
    by true h ih = let k : Some i ≡ Some j = rw h at e in let l : i ≡ j = cc in omega arith
    by false h ih = omega (arith, ih (rw h at e))

-- The pairs of one more place.
pub pairs-live : (ws : List ℕ) (i n : ℕ) → is_live_at ws i ≡ true → pairs_from ws i (suc n) ≡ pair_at ws i ∷ pairs_from ws (suc i) n
unfolding pairs_from
pairs-live ws i n e = rw e

pub pairs_free : (ws : List ℕ) (i n : ℕ) → is_live_at ws i ≡ false → pairs_from ws i (suc n) ≡ pairs_from ws (suc i) n
unfolding pairs_from
pairs_free ws i n e = rw e

-- What is asked of a place that may not be there; of none it does not hold.
abbrev at_place : (ℕ → Bool) → Option ℕ → Bool
at_place test (Some i) = test i
at_place test None = false

-- What the first live pair of a name decides is decided at its place.
module _ (ws : List ℕ) (protocol spi : ℕ) (decided : List Pair → Bool) (of : Pair → Bool)
    (empty : decided [] ≡ false)
    (first : (q : Pair) (qs : List Pair) → decided (q ∷ qs) ≡ cond (named protocol spi q) (of q) (decided qs)) where
  decided_at : (i n : ℕ) → decided (pairs_from ws i n) ≡ at_place (λ j. of (pair_at ws j)) (first_from (named_at ws protocol spi) i n)
  unfolding pairs_from first_from
  decided_at i zero = empty
  decided_at i (suc n) = by (is_live_at ws i) refl (named protocol spi (pair_at ws i)) refl (decided_at (suc i) n)
    where
      by : (l : Bool) → is_live_at ws i ≡ l → (m : Bool) → named protocol spi (pair_at ws i) ≡ m
          → decided (pairs_from ws (suc i) n) ≡ at_place (λ j. of (pair_at ws j)) (first_from (named_at ws protocol spi) (suc i) n)
          → decided (pairs_from ws i (suc n)) ≡ at_place (λ j. of (pair_at ws j)) (cond (is_live_at ws i && named protocol spi (pair_at ws i)) (Some i) (first_from (named_at ws protocol spi) (suc i) n))
      by true l true m ih = rw (pairs-live ws i n l, first (pair_at ws i) (pairs_from ws (suc i) n), l, m)
      by true l false m ih = rw (pairs-live ws i n l, first (pair_at ws i) (pairs_from ws (suc i) n), l, m) ih
      by false l b m ih = rw (pairs_free ws i n l, l) ih

-- A pair that has a place is live, and it fits what the place fits. One that has none is not live.
module _ (ws : List ℕ) (protocol spi : ℕ) where
  live_place : live protocol spi (pairs ws) ≡ at_place (λ j. true) (place_of ws protocol spi)
  unfolding live
  live_place = decided_at ws protocol spi (live protocol spi) (λ q. true) refl (λ q qs. refl) 0 place_count

  -- A pair is live where it has a place.
  pub live-place_of : live protocol spi (pairs ws) ≡ is_some (place_of ws protocol spi)
  live-place_of = live_place ∙ by (place_of ws protocol spi)
    where
      by : (p : Option ℕ) → at_place (λ j. true) p ≡ is_some p
      by None = refl
      by (Some j) = refl

  pub live_nowhere : place_of ws protocol spi ≡ None → live protocol spi (pairs ws) ≡ false
  live_nowhere e = live_place ∙ ap (at_place (λ j. true)) e

  module _ (i : ℕ) (e : place_of ws protocol spi ≡ Some i) where
    pub live_at : live protocol spi (pairs ws) ≡ true
    live_at = live_place ∙ ap (at_place (λ j. true)) e

    pub place_bound : i < place_count
    place_bound = omega (arith, first_bound (named_at ws protocol spi) 0 place_count i e)

    pub fitting_at : (vs : List ℕ) → fitting protocol spi vs (pairs ws) ≡ fits_at ws i vs
    unfolding fitting fits_at
    fitting_at vs =
        decided_at ws protocol spi (fitting protocol spi vs) (λ q. holds q.ranges vs) refl (λ q qs. refl) 0 place_count
        ∙ ap (at_place (λ j. holds (pair_at ws j).ranges vs)) e
        ∙ rw (lt-ltb i place_count place_bound)

-- All places are live exactly where none is free.
pairs-count : (ws : List ℕ) (i n : ℕ) → length (pairs_from ws i n) ≤ n
unfolding pairs_from
pairs-count ws i zero = omega arith
pairs-count ws i (suc n) = by (is_live_at ws i) refl (pairs-count ws (suc i) n)
  where
    by : (l : Bool) → is_live_at ws i ≡ l → length (pairs_from ws (suc i) n) ≤ n → length (pairs_from ws i (suc n)) ≤ suc n
    by true l ih = rw (pairs-live ws i n l) (omega arith)
    by false l ih = rw (pairs_free ws i n l) (omega arith)

pub none_free : (ws : List ℕ) (i n : ℕ) → first_from (free_at ws) i n ≡ None → length (pairs_from ws i n) ≡ n
unfolding pairs_from first_from
none_free ws i zero e = refl
none_free ws i (suc n) e = by (is_live_at ws i) refl (none_free ws (suc i) n)
  where
    by : (l : Bool) → is_live_at ws i ≡ l → (first_from (free_at ws) (suc i) n ≡ None → length (pairs_from ws (suc i) n) ≡ n) → length (pairs_from ws i (suc n)) ≡ suc n
    by true l ih = rw (pairs-live ws i n l) (ap suc (ih (rw l at e)))
    by false l ih = let k : Some i ≡ None = rw l at e in let z : ◌≡◌ {A = ℕ} 0 1 = cc in absurd (omega arith)

pub some_free : (ws : List ℕ) (i n j : ℕ) → first_from (free_at ws) i n ≡ Some j → length (pairs_from ws i n) < n
unfolding pairs_from first_from
some_free ws i zero j e = let z : ◌≡◌ {A = ℕ} 0 1 = cc in absurd (omega arith)
some_free ws i (suc n) j e = by (is_live_at ws i) refl (some_free ws (suc i) n j)
  where
    by : (l : Bool) → is_live_at ws i ≡ l → (first_from (free_at ws) (suc i) n ≡ Some j → length (pairs_from ws (suc i) n) < n) → length (pairs_from ws i (suc n)) < suc n
    by true l ih = let h = ih (rw l at e) in rw (pairs-live ws i n l) (omega arith)
    by false l ih = rw (pairs_free ws i n l) (omega (arith, pairs-count ws (suc i) n))

-- The pair for a packet is read off the words of the best pair.
module _ (ws : List ℕ) (number : ℕ) (vs : List ℕ) where
  pub pair_for-none : option_map head_of (best_of number vs None (pairs ws)) ≡ None → None ≡ pair_for number vs (pairs ws)
  unfolding pair_for
  pair_for-none e = by (best_of number vs None (pairs ws)) e
    where
      by : (b : Option Pair) → option_map head_of b ≡ None → None ≡ found_pair b
      by None e = refl
      by (Some q) e = absurd (none-some (head_of q) (sym e))

  pub pair_for-head : (h : Head) → option_map head_of (best_of number vs None (pairs ws)) ≡ Some h
      → Some (record { protocol = h.protocol; spi = h.spi_out }) ≡ pair_for number vs (pairs ws)
  unfolding pair_for
  pair_for-head h e = by (best_of number vs None (pairs ws)) e
    where
      by : (b : Option Pair) → option_map head_of b ≡ Some h → Some (record { protocol = h.protocol; spi = h.spi_out }) ≡ found_pair b
      by None e = absurd (none-some h e)
      by (Some q) e = rw (← same_Some (head_of q) h e)

-- The pair for a packet is the one at the best place.
module _ (ws : List ℕ) (number : ℕ) (vs : List ℕ) where
  pub pair_found : (best : ℕ) → Some (pair_at ws best) ≡ best_of number vs None (pairs ws)
      → Some (record { protocol = get_or ws (best * place_words) 0; spi = get_or ws (best * place_words + 2) 0 }) ≡ pair_for number vs (pairs ws)
  unfolding pair_for pair_at
  pair_found best e = rw (← e)

  pub pair_nothing : None ≡ best_of number vs None (pairs ws) → None ≡ pair_for number vs (pairs ws)
  unfolding pair_for
  pair_nothing e = rw (← e)

-- What `ok_or` and a `?` return where there is no place.
pub no_place : (place : Option ℕ) (e y : PairError) → ok_or place e ≡ Err y → (place ≡ None) × (y ≡ e)
no_place None e y h = (refl, (cc))
no_place (Some i) e y h = let z : ◌≡◌ {A = ℕ} 0 1 = cc in absurd (omega arith)

-- A removal by the place of the pair.
module _ (ws : List ℕ) (protocol spi : ℕ) where
  pub removed_none : place_of ws protocol spi ≡ None → (Err NothingToRemove ≡ remove_outcome (pairs ws) protocol spi) × (ws ≡ removed ws protocol spi)
  unfolding remove_outcome removed
  removed_none e = (rw (live_nowhere ws protocol spi e), rw e)

  pub removed_at : (i : ℕ) → place_of ws protocol spi ≡ Some i
      → (done ≡ remove_outcome (pairs ws) protocol spi) × (set ws (i * place_words) 0 ≡ removed ws protocol spi)
  unfolding remove_outcome removed
  removed_at i e = (rw (live_at ws protocol spi i e), rw e)

-- 'An added pair: 25, 28, 26, 27': each refusal after those before it, and then the pair takes the lowest free place.
abbrev pub Answers : List ℕ → NewPair → Outcome → List ℕ → Type 0
Answers ws p outcome after = (outcome ≡ add_outcome (pairs ws) p) × (after ≡ added ws p)

module _ (ws : List ℕ) (p : NewPair) where
  pub add_reserved : reserved_spi p ≡ true → Answers ws p (Err ReservedSpi) ws
  unfolding add_outcome added
  add_reserved a = (rw a, rw a)

  module _ (a : reserved_spi p ≡ false) where
    pub add_bad : well_formed p ≡ false → Answers ws p (Err BadPair) ws
    unfolding add_outcome added
    add_bad b = (rw (a, b), rw (a, b))

    module _ (b : well_formed p ≡ true) where
      pub add-live : live p.protocol p.spi_in (pairs ws) ≡ true → Answers ws p (Err AlreadyLive) ws
      unfolding add_outcome added
      add-live c = (rw (a, b, c), rw (a, b, c))

      module _ (c : live p.protocol p.spi_in (pairs ws) ≡ false) where
        pub add-full : free_place ws ≡ None → Answers ws p (Err TableFull) ws
        unfolding add_outcome added
        add-full e =
            let d : leb place_count (length (pairs ws)) ≡ true = le-leb place_count (length (pairs ws)) (omega (arith, none_free ws 0 place_count e)) in
            (rw (a, b, c, d), rw (a, b, c, d))

        pub add_at : (i : ℕ) → free_place ws ≡ Some i → Answers ws p done (sets ws (i * place_words) (pair_words p))
        unfolding add_outcome added
        add_at i e =
            let d : leb place_count (length (pairs ws)) ≡ false = lt-leb _ _ (some_free ws 0 place_count i e) in
            (rw (a, b, c, d), rw (a, b, c, d, e))
