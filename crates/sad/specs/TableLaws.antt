-- The live pairs after a pair is added or removed. Assumes nothing.
use Rattle.std.specs.Prelude.{Option, Some, None, Ok, Err, ℕ, zero, suc, ◌+◌, ◌-◌, ◌*◌, ◌<◌, ◌≤◌, Bool, not, ◌≢◌, get_or, set, take}
use Rattle.std.proofs.Common.{arith, add-zero, sym, ◌∙◌, lit<, length-take-le, get_or-drop, get_or-set_same, get_or-set_other}
use Rattle.std.proofs.Math.Nat.{add_assoc}
use Rattle.std.proofs.Math.Decide.{dec_lt}
use Rattle.std.proofs.Math.Path.{◌≡◌, refl, ap}
use Rattle.std.proofs.Math.Bool.{true, false, cond}
use mathlib.Core.List.{List, ◌∷◌, ◌++◌, append_assoc}
use Rattle.std.proofs.Math.Dec.{leb, lit≤}
use borrow.Author.Tests.{not-true, leb-false}
use Rattle.std.proofs.Math.ListN.{length, drop, length-set}
use Rattle.std.proofs.Math.Seq.{paste, sets-eq, length-sets, drop_at}
use Rattle.selectors.proofs.RangeLaws.{both_true}
use Rattle.selectors.specs.Words.{value_at, words_of_value}
use Rattle.selectors.proofs.WordsLaws.{value_written}
use Rattle.selectors.proofs.StoresLaws.{paste-before, paste-after}
use Rattle.sad.specs.declared.NewPair.{NewPair}
use Rattle.sad.specs.declared.PairError.TheVariants.{ReservedSpi, AlreadyLive, TableFull, BadPair, NothingToRemove}
use Rattle.sad.specs.Pairs.{Pair, place_count, place_words, table_words, ipsec, pair_at, is_live_at, pairs_from, pairs, named, named_at, free_at, first_from, place_of, free_place, new_pair, pair_words, put_at, added_if, added, live, reserved_spi, last_number, ranges_in_fields, well_formed, add_outcome, remove_outcome, cleared_at, removed, Outcome, done}
use Rattle.sad.specs.PairsLaws.{first_bound, place_bound, pairs-live, pairs_free, none_free, removed_none, removed_at}

-- A place is what its words are.
module _ (ws ws' : List ℕ) (i : ℕ) (same : (k : ℕ) → k < place_words → get_or ws (i * place_words + k) 0 ≡ get_or ws' (i * place_words + k) 0) where
  first_same : get_or ws (i * place_words) 0 ≡ get_or ws' (i * place_words) 0
  first_same = simp add-zero at (same 0 (lit< tt))

  value_same : (k : ℕ) → k + 1 < place_words → value_at ws (i * place_words + k) ≡ value_at ws' (i * place_words + k)
  unfolding value_at
  value_same k h = rw (add_assoc, same k (omega arith), same (k + 1) h)

  pair_same : pair_at ws i ≡ pair_at ws' i
  unfolding pair_at
  pair_same =
      simp add_assoc
      (rw (
        first_same,
        same 1 (lit< tt),
        same 2 (lit< tt),
        same 3 (lit< tt),
        value_same 4 (lit< tt),
        value_same 6 (lit< tt),
        value_same 8 (lit< tt),
        value_same 10 (lit< tt),
        value_same 12 (lit< tt),
        value_same 14 (lit< tt),
        value_same 16 (lit< tt),
        value_same 18 (lit< tt),
        value_same 20 (lit< tt),
        value_same 22 (lit< tt),
      ))

  live_same : is_live_at ws i ≡ is_live_at ws' i
  live_same = rw first_same

-- A pair is read from the words of its place, and whether it is live from its protocol.
pair-from : (ws : List ℕ) (i : ℕ) → pair_at ws i ≡ pair_at (drop (i * place_words) ws) 0
unfolding pair_at value_at
pair-from ws i = simp (get_or-drop, add_assoc, add-zero)

pair-live : (ws : List ℕ) (i : ℕ) → ipsec (pair_at ws i).protocol ≡ is_live_at ws i
unfolding pair_at
pair-live ws i = refl

-- The pairs of places whose words are the same, and those of two stretches of places.
pairs_same : (ws ws' : List ℕ) (i n : ℕ)
    → ((k : ℕ) → i ≤ k → k < i + n → (x : ℕ) → x < place_words → get_or ws (k * place_words + x) 0 ≡ get_or ws' (k * place_words + x) 0)
    → pairs_from ws i n ≡ pairs_from ws' i n
unfolding pairs_from
pairs_same ws ws' i zero same = refl
pairs_same ws ws' i (suc n) same =
    rw (live_same ws ws' i (same i (omega arith) (omega arith)), pair_same ws ws' i (same i (omega arith) (omega arith)), pairs_same ws ws' (suc i) n (λ k p q. same k (omega arith) (omega arith)))

pairs_split : (ws : List ℕ) (i n m : ℕ) → pairs_from ws i (n + m) ≡ pairs_from ws i n ++ pairs_from ws (i + n) m
unfolding pairs_from
pairs_split ws i zero m = let e : zero + m ≡ m = omega arith in rw (e, add-zero)
pairs_split ws i (suc n) m =
    let e : suc n + m ≡ suc (n + m) = omega arith in
    let f : suc i + n ≡ i + suc n = omega arith in
    ap (pairs_from ws i) e ∙ by (is_live_at ws i) refl (pairs_split ws (suc i) n m ∙ rw f)
  where
    by : (l : Bool) → is_live_at ws i ≡ l → pairs_from ws (suc i) (n + m) ≡ pairs_from ws (suc i) n ++ pairs_from ws (i + suc n) m
        → pairs_from ws i (suc (n + m)) ≡ pairs_from ws i (suc n) ++ pairs_from ws (i + suc n) m
    by true l ih = rw (pairs-live ws i (n + m) l, pairs-live ws i n l) (ap (◌∷◌ (pair_at ws i)) ih)
    by false l ih = rw (pairs_free ws i (n + m) l, pairs_free ws i n l) ih

-- The pairs before a place and those after it.
abbrev pub pairs_before : List ℕ → ℕ → List Pair
pairs_before ws j = pairs_from ws 0 j

abbrev pub pairs_after : List ℕ → ℕ → List Pair
pairs_after ws j = pairs_from ws (suc j) (place_count - suc j)

module _ (ws : List ℕ) (j : ℕ) (h : j < place_count) where
  pairs_at : pairs ws ≡ pairs_before ws j ++ pairs_from ws j (suc (place_count - suc j))
  pairs_at =
      let e : place_count ≡ j + suc (place_count - suc j) = omega arith in
      let z : 0 + j ≡ j = omega arith in
      ap (pairs_from ws 0) e ∙ pairs_split ws 0 j (suc (place_count - suc j)) ∙ rw z

  pairs_with : is_live_at ws j ≡ true → pairs ws ≡ pairs_before ws j ++ pair_at ws j ∷ pairs_after ws j
  pairs_with l = pairs_at ∙ rw (pairs-live ws j (place_count - suc j) l)

  pairs-without : is_live_at ws j ≡ false → pairs ws ≡ pairs_before ws j ++ pairs_after ws j
  pairs-without l = pairs_at ∙ rw (pairs_free ws j (place_count - suc j) l)

-- The first place for which a test holds passes it.
first_true : (test : ℕ → Bool) (i n j : ℕ) → first_from test i n ≡ Some j → test j ≡ true
unfolding first_from
first_true test i zero j e = let z : ◌≡◌ {A = ℕ} 0 1 = cc in absurd (omega arith)
first_true test i (suc n) j e = by (test i) refl (first_true test (suc i) n j)
  where
    by : (b : Bool) → test i ≡ b → (first_from test (suc i) n ≡ Some j → test j ≡ true) → test j ≡ true
    by true h ih = let k : Some i ≡ Some j = rw h at e in let l : i ≡ j = cc in rw (← l) h
    by false h ih = ih (rw h at e)

-- Words that are the same but for those of one place: the pairs before it and after it are the same.
module _ (ws ws' : List ℕ) (j : ℕ) (h : j < place_count)
    (same : (k : ℕ) → k ≢ j → (x : ℕ) → x < place_words → get_or ws' (k * place_words + x) 0 ≡ get_or ws (k * place_words + x) 0) where
  same-before : pairs_before ws' j ≡ pairs_before ws j
  same-before = pairs_same ws' ws 0 j (λ k p q. same k (λ e. omega arith))

  same_after : pairs_after ws' j ≡ pairs_after ws j
  same_after = pairs_same ws' ws (suc j) (place_count - suc j) (λ k p q. same k (λ e. omega arith))

-- A removal takes the pair at its place out, and leaves the others as they are.
module _ (ws : List ℕ) (protocol spi j : ℕ) (e : place_of ws protocol spi ≡ Some j) (size : length ws ≡ table_words) where
  place_in : j < place_count
  place_in = place_bound ws protocol spi j e

  is-named : (is_live_at ws j ≡ true) × (named protocol spi (pair_at ws j) ≡ true)
  is-named = both_true (is_live_at ws j) (named protocol spi (pair_at ws j)) (first_true (named_at ws protocol spi) 0 place_count j e)

  pub pairs_removing : (pairs ws ≡ pairs_before ws j ++ pair_at ws j ∷ pairs_after ws j) × (named protocol spi (pair_at ws j) ≡ true)
  pairs_removing = (pairs_with ws j place_in is-named.0, is-named.1)

  cleared : is_live_at (set ws (j * place_words) 0) j ≡ false
  cleared = let z : get_or (set ws (j * place_words) 0) (j * place_words) 0 ≡ 0 = get_or-set_same ws (j * place_words) 0 0 (omega (arith, place_in)) in rw z

  other : (k : ℕ) → k ≢ j → (x : ℕ) → x < place_words → get_or (set ws (j * place_words) 0) (k * place_words + x) 0 ≡ get_or ws (k * place_words + x) 0
  other k n x l = get_or-set_other ws (j * place_words) (k * place_words + x) 0 0 (λ q. n (omega arith))

  pub pairs-removed : pairs (removed ws protocol spi) ≡ pairs_before ws j ++ pairs_after ws j
  unfolding removed
  pairs-removed =
      rw e
      (pairs-without (set ws (j * place_words) 0) j place_in cleared
      ∙ rw (same-before ws (set ws (j * place_words) 0) j place_in other, same_after ws (set ws (j * place_words) 0) j place_in other))

lt_other : (k j : ℕ) → (k < j → ⊥) → k ≢ j → j < k
lt_other k j h n = by (dec_lt j k)
  where
    by : Dec (j < k) → j < k
    by (yes q) = q
    by (no q) = absurd (n (omega arith))

-- An added pair stands among the others, which are as they were.
module _ (ws : List ℕ) (p : NewPair) (j : ℕ) (e : free_place ws ≡ Some j) (size : length ws ≡ table_words) where
  free_in : j < place_count
  free_in = omega (arith, first_bound (free_at ws) 0 place_count j e)

  room : j * place_words + place_words ≤ length ws
  room = omega (arith, free_in)

  words_all : place_words ≤ length (pair_words p)
  unfolding pair_words words_of_value
  words_all = lit≤ tt

  -- The words of the place are those of the pair.
  is-put : put_at ws p (Some j) ≡ paste ws (j * place_words) (pair_words p) place_words
  unfolding pair_words words_of_value
  is-put = sets-eq (pair_words p) ws (j * place_words) room

  pub pairs_adding : pairs ws ≡ pairs_before ws j ++ pairs_after ws j
  pairs_adding = pairs-without ws j free_in (not-true (is_live_at ws j) (first_true (free_at ws) 0 place_count j e))

  new-words : drop (j * place_words) (put_at ws p (Some j)) ≡ pair_words p ++ drop (j * place_words + place_words) ws
  unfolding pair_words words_of_value
  new-words =
      ap (drop (j * place_words)) (is-put ∙ append_assoc (take (j * place_words) ws) (pair_words p) (drop (j * place_words + place_words) ws))
      ∙ drop_at (take (j * place_words) ws) (pair_words p ++ drop (j * place_words + place_words) ws) (j * place_words) (length-take-le (j * place_words) ws (omega (arith, room)))

  new-pair : (rest : List ℕ) → pair_at (pair_words p ++ rest) 0 ≡ new_pair p
  unfolding pair_at pair_words value_at words_of_value
  new-pair rest = simp value_written

  is_new : pair_at (put_at ws p (Some j)) j ≡ new_pair p
  is_new = pair-from (put_at ws p (Some j)) j ∙ ap (λ (l : List ℕ). pair_at l 0) new-words ∙ new-pair (drop (j * place_words + place_words) ws)

  kept : (k : ℕ) → k ≢ j → (x : ℕ) → x < place_words → get_or (put_at ws p (Some j)) (k * place_words + x) 0 ≡ get_or ws (k * place_words + x) 0
  kept k n x l = by (dec_lt k j)
    where
      by : Dec (k < j) → get_or (put_at ws p (Some j)) (k * place_words + x) 0 ≡ get_or ws (k * place_words + x) 0
      by (yes q) = rw is-put (paste-before ws (pair_words p) (j * place_words) place_words room words_all (k * place_words + x) (omega arith))
      by (no q) =
          let o : j < k = lt_other k j q n in
          rw is-put (paste-after ws (pair_words p) (j * place_words) place_words room words_all (k * place_words + x) (omega arith))

  pub pairs-added : ipsec p.protocol ≡ true → pairs (put_at ws p (Some j)) ≡ pairs_before ws j ++ new_pair p ∷ pairs_after ws j
  pairs-added l =
      pairs_with (put_at ws p (Some j)) j free_in (sym (pair-live (put_at ws p (Some j)) j) ∙ rw is_new l)
      ∙ rw (same-before ws (put_at ws p (Some j)) j free_in kept, same_after ws (put_at ws p (Some j)) j free_in kept, is_new)

-- The table after any addition: a refusal changes nothing, and where the pair is taken it stands among the others.
module _ (ws : List ℕ) (p : NewPair) where
  pub refused_kept : (add_outcome (pairs ws) p ≡ done → ⊥) → added ws p ≡ ws
  unfolding added
  refused_kept n = by (add_outcome (pairs ws) p) n
    where
      by : (o : Outcome) → (o ≡ done → ⊥) → added_if ws p o ≡ ws
      by (Ok unit) n = absurd (n refl)
      by (Err e) n = refl

  done_free : add_outcome (pairs ws) p ≡ done → (ipsec p.protocol ≡ true) × (leb place_count (length (pairs ws)) ≡ false)
  unfolding add_outcome well_formed
  done_free e =
      by (reserved_spi p) (well_formed p) refl (live p.protocol p.spi_in (pairs ws)) (leb place_count (length (pairs ws))) refl e
    where
      by : (r w : Bool) → well_formed p ≡ w → (l f : Bool) → leb place_count (length (pairs ws)) ≡ f
          → cond r (Err ReservedSpi) (cond (not w) (Err BadPair) (cond l (Err AlreadyLive) (cond f (Err TableFull) done))) ≡ done
          → (ipsec p.protocol ≡ true) × (leb place_count (length (pairs ws)) ≡ false)
      by true w v l f g e = let z : ◌≡◌ {A = ℕ} 0 1 = cc in absurd (omega arith)
      by false false v l f g e = let z : ◌≡◌ {A = ℕ} 0 1 = cc in absurd (omega arith)
      by false true v true f g e = let z : ◌≡◌ {A = ℕ} 0 1 = cc in absurd (omega arith)
      by false true v false true g e = let z : ◌≡◌ {A = ℕ} 0 1 = cc in absurd (omega arith)
      by false true v false false g e =
          let a = (both_true _ (ranges_in_fields p.ranges) v).0 in
          ((both_true (ipsec p.protocol) _ (both_true _ (leb p.number last_number) a).0).0, g)

  module _ (size : length ws ≡ table_words) where
    pub pairs_after_add : add_outcome (pairs ws) p ≡ done
        → (j : ℕ) × (pairs ws ≡ pairs_before ws j ++ pairs_after ws j) × (pairs (added ws p) ≡ pairs_before ws j ++ new_pair p ∷ pairs_after ws j)
    unfolding added
    pairs_after_add e = by (free_place ws) refl
      where
        by : (f : Option ℕ) → free_place ws ≡ f
            → (j : ℕ) × (pairs ws ≡ pairs_before ws j ++ pairs_after ws j) × (pairs (added_if ws p (add_outcome (pairs ws) p)) ≡ pairs_before ws j ++ new_pair p ∷ pairs_after ws j)
        by (Some j) f = (j, pairs_adding ws p j f size, rw (e, f) (pairs-added ws p j f size (done_free e).0))
        by None f = absurd (omega (arith, leb-false place_count (length (pairs ws)) (done_free e).1, none_free ws 0 place_count f))

    pub size-after_add : length (added ws p) ≡ table_words
    unfolding added
    size-after_add = by (add_outcome (pairs ws) p)
      where
        put : (f : Option ℕ) → free_place ws ≡ f → length (put_at ws p f) ≡ table_words
        put (Some j) f = length-sets ws (j * place_words) (pair_words p) ∙ size
        put None f = size

        by : (o : Outcome) → length (added_if ws p o) ≡ table_words
        by (Ok unit) = put (free_place ws) refl
        by (Err e) = size

-- And after any removal.
module _ (ws : List ℕ) (protocol spi : ℕ) (size : length ws ≡ table_words) where
  pub pairs_after_remove : remove_outcome (pairs ws) protocol spi ≡ done
      → (j : ℕ) × (named protocol spi (pair_at ws j) ≡ true) × (pairs ws ≡ pairs_before ws j ++ pair_at ws j ∷ pairs_after ws j)
      × (pairs (removed ws protocol spi) ≡ pairs_before ws j ++ pairs_after ws j)
  unfolding remove_outcome
  pairs_after_remove e = by (place_of ws protocol spi) refl
    where
      by : (f : Option ℕ) → place_of ws protocol spi ≡ f
          → (j : ℕ) × (named protocol spi (pair_at ws j) ≡ true) × (pairs ws ≡ pairs_before ws j ++ pair_at ws j ∷ pairs_after ws j)
          × (pairs (removed ws protocol spi) ≡ pairs_before ws j ++ pairs_after ws j)
      by (Some j) f = (j, (pairs_removing ws protocol spi j f size).1, (pairs_removing ws protocol spi j f size).0, pairs-removed ws protocol spi j f size)
      by None f =
          let n : Err NothingToRemove ≡ remove_outcome (pairs ws) protocol spi = (removed_none ws protocol spi f).0 in
          let z : ◌≡◌ {A = ℕ} 0 1 = cc in
          absurd (omega arith)

  pub nothing_kept : remove_outcome (pairs ws) protocol spi ≡ Err NothingToRemove → removed ws protocol spi ≡ ws
  nothing_kept e = by (place_of ws protocol spi) refl
    where
      by : (f : Option ℕ) → place_of ws protocol spi ≡ f → removed ws protocol spi ≡ ws
      by (Some j) f =
          let n : done ≡ remove_outcome (pairs ws) protocol spi = (removed_at ws protocol spi j f).0 in
          let z : ◌≡◌ {A = ℕ} 0 1 = cc in
          absurd (omega arith)
      by None f = sym (removed_none ws protocol spi f).1

  pub size-after_remove : length (removed ws protocol spi) ≡ table_words
  unfolding removed
  size-after_remove = by (place_of ws protocol spi)
    where
      by : (f : Option ℕ) → length (cleared_at ws f) ≡ table_words
      by (Some j) = length-set ws (j * place_words) 0 ∙ size
      by None = size
