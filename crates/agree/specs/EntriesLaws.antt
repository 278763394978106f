-- Laws of entries: the rows of a list of entries on each side, what a search of these finds, and how a list of entries grows.
-- Assumes nothing.
use Rattle.std.specs.Prelude.{ℕ, zero, suc, ◌+◌, ◌-◌, ◌*◌, ◌/◌, ◌%◌, ◌≤◌, ◌<◌, ◌≡◌, refl, Bool, true, false, cond, List, [], ◌∷◌, ◌++◌, ◌≢◌, ◌⊎◌, map, length, get_or, take, drop, Option, Some, None}
use Rattle.std.specs.List.{filter, slice_range}
use native.Mathlib.Omega.{arith}
use Rattle.std.proofs.Common.{add_assoc, add-one, ◌∙◌, ap, sym, ⊎_elim, lit<, take-suc, lt-ltb, le-ltb, eq-eqb, ne_eqb, append-nil, get_or-take}
use Rattle.std.proofs.Math.Seq.{drop-cons}
use Rattle.std.proofs.lemmas.List.{drop_all, map-append, length-append, get_or-drop}
use Rattle.std.proofs.lemmas.List.Elements.{filter-append}
use Rattle.selectors.specs.Range.{Range, contains, holds}
use Rattle.selectors.specs.Ranges.{ends_range}
use Rattle.selectors.specs.Words.{field_count, ends_at, range_at}
use Rattle.selectors.specs.declared.ranges.Ends.{Ends}
use Rattle.normal_form.specs.Search.{Row, find}
use Rattle.policy.specs.Words.{row_words, row_limit}
use Rattle.cover.specs.Boxes.{ranges_word, row_of, in_second, table_of, code_holds}
use Rattle.cover.specs.RangesLaws.{ranges_moved}
use Rattle.agree.specs.Sides.{row_behind, Alike, on_side, code_action, Sides, sides, on_at, action_at, holds_at, on, first_of, side_action, Agreed, sides_of, side_rows, SideRows, Next}
use Rattle.agree.specs.declared.sides.Side.{Side}
use Rattle.agree.specs.declared.sides.Side.TheVariants.{First, Second}

-- A row from any field on is what its words from the action on are.
pub row_same : (first second : List ℕ) (a b : ℕ)
    → ((k : ℕ) → k < row_words → 1 ≤ k → get_or first (a * row_words + k) 0 ≡ get_or second (b * row_words + k) 0)
    → (f : ℕ) → row_behind first f a ≡ row_behind second f b
row_same first second a b same f =
    rw (
      same 1 (omega arith) (omega arith),
      ranges_moved second first (ranges_word b) (ranges_word a) f (field_count - f)
          (λ k p q. rw (add_assoc (a * row_words) 2 k, add_assoc (b * row_words) 2 k) (same (2 + k) (omega arith) (omega arith))),
    )

-- Two rows are the same where their words from the action on are.
pub row_equal : (first second : List ℕ) (a b : ℕ)
    → slice_range first (a * row_words + 1) (a * row_words + row_words) ≡ slice_range second (b * row_words + 1) (b * row_words + row_words)
    → (f : ℕ) → row_behind first f a ≡ row_behind second f b
row_equal first second a b e = row_same first second a b (λ k h g. word first a k h g ∙ ap (λ (xs : List ℕ). get_or xs (k - 1) 0) e ∙ sym (word second b k h g))
  where
    word : (ws : List ℕ) (i k : ℕ) → k < row_words → 1 ≤ k → get_or ws (i * row_words + k) 0 ≡ get_or (slice_range ws (i * row_words + 1) (i * row_words + row_words)) (k - 1) 0
    word ws i k h g =
        let j : i * row_words + 1 + (k - 1) ≡ i * row_words + k = omega arith in
        sym (get_or-take (i * row_words + row_words - (i * row_words + 1)) (drop (i * row_words + 1) ws) (k - 1) 0 (omega arith)
        ∙ get_or-drop (i * row_words + 1) ws (k - 1) 0 ∙ ap (λ (n : ℕ). get_or ws n 0) j)

pub take_more : (xs : List ℕ) (i : ℕ) → i < length xs → take (i + 1) xs ≡ take i xs ++ get_or xs i 0 ∷ []
take_more xs i h = rw add-one (take-suc xs i 0 h)

filtered : (p : ℕ → Bool) (xs : List ℕ) (i : ℕ) → i < length xs → filter p (take (i + 1) xs) ≡ filter p (take i xs) ++ filter p (get_or xs i 0 ∷ [])
filtered p xs i h = rw (take_more xs i h) (filter-append p (take i xs) (get_or xs i 0 ∷ []))

-- The rows of one entry on a side: none, or its row.
module _ (first second : List ℕ) (f : ℕ) (s : Bool) where
  abbrev rows_on_side : ℕ → List (Row ℕ)
  rows_on_side e = side_rows first second f s (e ∷ [])

  rows_on : (e : ℕ) (ws : List ℕ) (x : ℕ) → on_side s e ≡ true → row_behind (table_of first second e) f (row_of e) ≡ row_behind ws f x
      → rows_on_side e ≡ map (row_behind ws f) (x ∷ [])
  rows_on e ws x p q = rw (p, q)

  rows_off : (e : ℕ) (ws : List ℕ) → on_side s e ≡ false → rows_on_side e ≡ map (row_behind ws f) []
  rows_off e ws p = rw p

  -- An entry behind the others: its row comes behind theirs.
  rows_more : (es : List ℕ) (e : ℕ) → side_rows first second f s (es ++ e ∷ []) ≡ side_rows first second f s es ++ rows_on_side e
  rows_more es e =
      ap (map (λ x. row_behind (table_of first second x) f (row_of x))) (filter-append (on_side s) es (e ∷ []))
      ∙ map-append (λ x. row_behind (table_of first second x) f (row_of x)) (filter (on_side s) es) (filter (on_side s) (e ∷ []))

-- A list of entries with one entry more.
module _ (first second xs ys es : List ℕ) (r : SideRows first second xs ys es) (h : length es < 2 * row_limit) (c : ℕ) where
  entry_more : (x y : List ℕ) → ((f : ℕ) → rows_on_side first second f false c ≡ map (row_behind first f) x)
      → ((f : ℕ) → rows_on_side first second f true c ≡ map (row_behind second f) y) → SideRows first second (xs ++ x) (ys ++ y) (es ++ c ∷ [])
  entry_more x y a b = record {
    fits = rw (length-append es (c ∷ [])) (omega arith);
    on_first = λ f. rows_more first second f false es c ∙ rw (r.on_first f, a f) (sym (map-append (row_behind first f) xs x));
    on_second = λ f. rows_more first second f true es c ∙ rw (r.on_second f, b f) (sym (map-append (row_behind second f) ys y));
  }

pub merge_none : (first second : List ℕ) → SideRows first second [] [] []
merge_none first second = record { fits = omega arith; on_first = λ f. refl; on_second = λ f. refl }

pub cut_none : (ws : List ℕ) (p q : ℕ → Bool) → SideRows ws ws (filter p []) (filter q []) []
cut_none ws p q = merge_none ws ws

-- The code of a row at a cut: its row, its policy, its sides.
module _ (x : ℕ) where
  abbrev cut : Bool → Bool → ℕ
  cut a b = 8 * x + cond a (cond b 3 1) (cond b 2 0)

  cut-row : (a b : Bool) → row_of (cut a b) ≡ x
  cut-row true true = omega arith
  cut-row true false = omega arith
  cut-row false true = omega arith
  cut-row false false = omega arith

  cut_first : (a b : Bool) → on_side false (cut a b) ≡ a
  cut_first true true = eq-eqb ((8 * x + 3) % 2) 1 (omega arith)
  cut_first true false = eq-eqb ((8 * x + 1) % 2) 1 (omega arith)
  cut_first false true = ne_eqb ((8 * x + 2) % 2) 1 (λ e. omega arith)
  cut_first false false = ne_eqb ((8 * x + 0) % 2) 1 (λ e. omega arith)

  cut_second : (a b : Bool) → on_side true (cut a b) ≡ b
  cut_second true true = eq-eqb ((8 * x + 3) / 2 % 2) 1 (omega arith)
  cut_second true false = ne_eqb ((8 * x + 1) / 2 % 2) 1 (λ e. omega arith)
  cut_second false true = eq-eqb ((8 * x + 2) / 2 % 2) 1 (omega arith)
  cut_second false false = ne_eqb ((8 * x + 0) / 2 % 2) 1 (λ e. omega arith)

-- An entry of a row at a cut: on each side its row, if the test is true.
module _ (ws : List ℕ) (s : Bool) (p : ℕ → Bool) (x e : ℕ) (q : row_of e ≡ x) (o : on_side s e ≡ p x) where
  own_table : (b : Bool) → cond b ws ws ≡ ws
  own_table true = refl
  own_table false = refl

  rows_cut : (f : ℕ) → rows_on_side ws ws f s e ≡ map (row_behind ws f) (filter p (x ∷ []))
  rows_cut f = rw o (by (p x))
    where
      by : (b : Bool) → map (λ i. row_behind (table_of ws ws i) f (row_of i)) (cond b (e ∷ []) []) ≡ map (row_behind ws f) (cond b (x ∷ []) [])
      by true = rw (own_table (in_second e), q)
      by false = refl

-- The sides of a row at a cut, from what was asked of its range.
pub sides_read : (ws : List ℕ) (at : ℕ) (e : Ends) (one other : ℕ) (a b : Bool) → e ≡ ends_at ws at → contains (ends_range e) one ≡ a → contains (ends_range e) other ≡ b
    → cond a (cond b 3 1) (cond b 2 0) ≡ sides_of (range_at ws at) one other
sides_read ws at e one other a b p s t = rw (rw p at s, rw p at t)

pub sides-small : (r : Range) (one other : ℕ) → sides_of r one other < 8
sides-small r one other = by (contains r one) (contains r other)
  where
    by : (a b : Bool) → cond a (cond b 3 1) (cond b 2 0) < 8
    by true true = lit< tt
    by true false = lit< tt
    by false true = lit< tt
    by false false = lit< tt

-- The entries at a cut with one row more: of that row, or passed over.
module _ (ws : List ℕ) (r : ℕ → Range) (one other : ℕ) (list : List ℕ) where
  abbrev pub Cut : ℕ → List ℕ → Type 0
  Cut i es = SideRows ws ws (filter (λ x. contains (r x) one) (take i list)) (filter (λ x. contains (r x) other) (take i list)) es

  module _ (i : ℕ) (es : List ℕ) (t : Cut i es) (h : i < length list) (c : ℕ) where
    abbrev x : ℕ
    x = get_or list i 0

    pub cut_more : length es < 2 * row_limit → c ≡ 8 * x + sides_of (r x) one other → Cut (i + 1) (es ++ c ∷ [])
    cut_more l e =
        let q = cut-row x (contains (r x) one) (contains (r x) other) in
        rw (filtered (λ y. contains (r y) one) list i h, filtered (λ y. contains (r y) other) list i h, e)
        (entry_more ws ws _ _ es t l (8 * x + sides_of (r x) one other) _ _
        (rows_cut ws false (λ y. contains (r y) one) x _ q (cut_first x (contains (r x) one) (contains (r x) other)))
        (rows_cut ws true (λ y. contains (r y) other) x _ q (cut_second x (contains (r x) one) (contains (r x) other))))

    pub cut_passed : sides_of (r x) one other ≡ 0 → Cut (i + 1) es
    cut_passed e =
        rw (filtered (λ y. contains (r y) one) list i h, filtered (λ y. contains (r y) other) list i h) (by (contains (r x) one) (contains (r x) other) e)
      where
        by : (a b : Bool) → ◌≡◌ {A = ℕ} (cond a (cond b 3 1) (cond b 2 0)) 0
            → SideRows ws ws (filter (λ y. contains (r y) one) (take i list) ++ cond a (x ∷ []) []) (filter (λ y. contains (r y) other) (take i list) ++ cond b (x ∷ []) []) es
        by true true z = absurd (omega arith)
        by true false z = absurd (omega arith)
        by false true z = absurd (omega arith)
        by false false z = simp append-nil t

    pub cut-next : (s : ℕ) → s ≡ sides_of (r x) one other → c ≡ 8 * x + s → length es < 2 * row_limit
        → (es' : List ℕ) → ((0 < s) × (es' ≡ es ++ c ∷ [])) ⊎ ((s ≤ 0) × (es' ≡ es)) → Cut (i + 1) es'
    cut-next s q k l es' o = ⊎_elim (λ w. rw w.1 (cut_more l (rw q at k))) (λ w. rw w.1 (cut_passed (omega (arith, q)))) o

-- A search of the rows of a side: what the first entry on it that holds the values gives.
choose : (us : List ℕ) (g : ℕ → ℕ) (h : ℕ → Row ℕ) (a : Bool) (e : ℕ) (es : List ℕ) (i k : ℕ) → (h e).leaf ≡ g i → find 0 (map h es) us ≡ g k
    → find 0 (map h (cond a (e ∷ es) es)) us ≡ g (cond (cond a (holds (h e).ranges us) false) i k)
unfolding find
choose us g h true e es i k p q = by (holds (h e).ranges us)
  where
    by : (b : Bool) → cond b (h e).leaf (find 0 (map h es) us) ≡ g (cond b i k)
    by true = p
    by false = q
choose us g h false e es i k p q = q

module _ (first second es : List ℕ) (f : ℕ) (s : Bool) (us : List ℕ) where
  abbrev entries : Sides
  entries = sides first second es f

  action-in : (i : ℕ) → i < length es → code_action first second (get_or es i 0) ≡ action_at entries i
  unfolding action_at
  action-in i h = rw (lt-ltb i (length es) h)

  action_end : (i : ℕ) → length es ≤ i → action_at entries i ≡ 0
  unfolding action_at
  action_end i h = rw (le-ltb i (length es) h)

  asked_in : (i : ℕ) → i < length es
      → cond (on entries s i) (holds_at entries us i) false ≡ cond (on_side s (get_or es i 0)) (code_holds first second f (get_or es i 0) us) false
  unfolding on_at holds_at
  asked_in i h = rw (lt-ltb i (length es) h)

  found_from : (i n : ℕ) → i + n ≡ length es
      → find 0 (side_rows first second f s (drop i es)) us ≡ action_at entries (first_of (λ k. cond (on entries s k) (holds_at entries us k) false) i n)
  unfolding find first_of
  found_from i zero e = rw (drop_all i es (omega arith)) (sym (action_end i (omega arith)))
  found_from i (suc n) e =
      rw (drop-cons es i 0 (omega arith), asked_in i (omega arith))
      (choose us (action_at entries) (λ x. row_behind (table_of first second x) f (row_of x)) (on_side s (get_or es i 0)) (get_or es i 0) (filter (on_side s) (drop (suc i) es)) i _ (action-in i (omega arith)) (found_from (suc i) n (omega arith)))

  found : find 0 (side_rows first second f s es) us ≡ side_action entries s us
  found = found_from 0 (length es) (omega arith)

-- Lists of rows are alike where the sides of their entries agree.
pub alike_of : (first second xs ys es : List ℕ) (f : ℕ) (bs : List ℕ) → SideRows first second xs ys es → Agreed (sides first second es f) bs
    → Alike f bs first xs second ys
unfolding Agreed Alike
alike_of first second xs ys es f bs r a us h =
    ap (λ (rs : List (Row ℕ)). find 0 rs us) (sym (r.on_first f))
    ∙ found first second es f false us ∙ a us h ∙ sym (found first second es f true us) ∙ ap (λ (rs : List (Row ℕ)). find 0 rs us) (r.on_second f)

pub alike_empty : (f : ℕ) (bs ws : List ℕ) (p q : ℕ → Bool) (xs : List ℕ) → length xs ≡ 0 → Alike f bs ws (filter p xs) ws (filter q xs)
unfolding Alike
alike_empty f bs ws p q [] e us h = refl
alike_empty f bs ws p q (x ∷ xs) e us h = absurd (omega arith)

-- On which sides the next entry stands.
module _ (first xs : List ℕ) (i : ℕ) (second ys : List ℕ) (j : ℕ) where
  pub next_first : i < length xs → Next first xs i second ys j (Some First)
  next_first h = record { of-first = λ e. h; of-second = λ e. absurd (e refl); same = λ e. cc }

  pub next_second : j < length ys → Next first xs i second ys j (Some Second)
  next_second h = record { of-first = λ e. absurd (e refl); of-second = λ e. h; same = λ e. cc }

  pub next_both : i < length xs → j < length ys → ((f : ℕ) → row_behind first f (get_or xs i 0) ≡ row_behind second f (get_or ys j 0)) → Next first xs i second ys j None
  next_both h g s = record { of-first = λ e. h; of-second = λ e. g; same = λ e. s }

  -- How far each list is then used.
  module _ (who : Option Side) (u v : ℕ) (t : Next first xs i second ys j who) where
    pub step_first : (who ≡ Some Second → u ≡ 0) × (who ≢ Some Second → u ≡ 1) → i ≤ length xs → i + u ≤ length xs
    step_first o h = by who refl
      where
        by : (w : Option Side) → who ≡ w → i + u ≤ length xs
        by None e = omega (arith, o.1 (λ z. cc), t.of-first (λ z. cc))
        by (Some First) e = omega (arith, o.1 (λ z. cc), t.of-first (λ z. cc))
        by (Some Second) e = omega (arith, o.0 e)

    pub step_second : (who ≡ Some First → v ≡ 0) × (who ≢ Some First → v ≡ 1) → j ≤ length ys → j + v ≤ length ys
    step_second o h = by who refl
      where
        by : (w : Option Side) → who ≡ w → j + v ≤ length ys
        by None e = omega (arith, o.1 (λ z. cc), t.of-second (λ z. cc))
        by (Some First) e = omega (arith, o.0 e)
        by (Some Second) e = omega (arith, o.1 (λ z. cc), t.of-second (λ z. cc))

    pub step_some : (who ≡ Some Second → u ≡ 0) × (who ≢ Some Second → u ≡ 1) → (who ≡ Some First → v ≡ 0) × (who ≢ Some First → v ≡ 1) → 1 ≤ u + v
    step_some o p = by who refl
      where
        by : (w : Option Side) → who ≡ w → 1 ≤ u + v
        by None e = omega (arith, o.1 (λ z. cc))
        by (Some First) e = omega (arith, o.1 (λ z. cc))
        by (Some Second) e = omega (arith, p.1 (λ z. cc))

-- The entries of two lists with one entry more: a row of the first on the first side, of the second on the second, of both on both.
module _ (first second xs ys es : List ℕ) (i j : ℕ) (r : SideRows first second (take i xs) (take j ys) es) (h : length es < 2 * row_limit) where
  abbrev pub Merged : ℕ → ℕ → ℕ → Type 0
  Merged i' j' c = SideRows first second (take i' xs) (take j' ys) (es ++ c ∷ [])

  row_first : (f c : ℕ) (s : ℕ) → c ≡ 8 * get_or xs i 0 + s → s < 4 → row_behind (table_of first second c) f (row_of c) ≡ row_behind first f (get_or xs i 0)
  row_first f c s e w =
      let q : row_of c ≡ get_or xs i 0 = omega arith in rw (ne_eqb (c / 4 % 2) 1 (λ z. omega arith), q)

  row_second : (f c : ℕ) → c ≡ 8 * get_or ys j 0 + 6 → row_behind (table_of first second c) f (row_of c) ≡ row_behind second f (get_or ys j 0)
  row_second f c e =
      let q : row_of c ≡ get_or ys j 0 = omega arith in rw (eq-eqb (c / 4 % 2) 1 (omega arith), q)

  pub merge_first : i < length xs → (c : ℕ) → c ≡ 8 * get_or xs i 0 + 1 → Merged (i + 1) j c
  merge_first g c e =
      rw (take_more xs i g, sym (append-nil (take j ys)))
      (entry_more first second _ _ es r h c (get_or xs i 0 ∷ []) []
      (λ f. rows_on first second f false c first (get_or xs i 0) (eq-eqb (c % 2) 1 (omega arith)) (row_first f c 1 e (omega arith)))
      (λ f. rows_off first second f true c second (ne_eqb (c / 2 % 2) 1 (λ z. omega arith))))

  pub merge_second : j < length ys → (c : ℕ) → c ≡ 8 * get_or ys j 0 + 6 → Merged i (j + 1) c
  merge_second g c e =
      rw (take_more ys j g, sym (append-nil (take i xs)))
      (entry_more first second _ _ es r h c [] (get_or ys j 0 ∷ [])
      (λ f. rows_off first second f false c first (ne_eqb (c % 2) 1 (λ z. omega arith)))
      (λ f. rows_on first second f true c second (get_or ys j 0) (eq-eqb (c / 2 % 2) 1 (omega arith)) (row_second f c e)))

  pub merge_both : i < length xs → j < length ys → ((f : ℕ) → row_behind first f (get_or xs i 0) ≡ row_behind second f (get_or ys j 0))
      → (c : ℕ) → c ≡ 8 * get_or xs i 0 + 3 → Merged (i + 1) (j + 1) c
  merge_both g g' same c e =
      rw (take_more xs i g, take_more ys j g')
      (entry_more first second _ _ es r h c (get_or xs i 0 ∷ []) (get_or ys j 0 ∷ [])
      (λ f. rows_on first second f false c first (get_or xs i 0) (eq-eqb (c % 2) 1 (omega arith)) (row_first f c 3 e (omega arith)))
      (λ f. rows_on first second f true c second (get_or ys j 0) (eq-eqb (c / 2 % 2) 1 (omega arith)) (row_first f c 3 e (omega arith) ∙ same f)))

  -- The next entry is that of the row whose turn it is, and each list is used as far.
  pub merge-next : (who : Option Side) (c u v : ℕ) → Next first xs i second ys j who
      → (who ≡ Some First → c ≡ 8 * get_or xs i 0 + 1) → (who ≡ Some Second → c ≡ 8 * get_or ys j 0 + 6) → (who ≡ None → c ≡ 8 * get_or xs i 0 + 3)
      → (who ≡ Some Second → u ≡ 0) × (who ≢ Some Second → u ≡ 1) → (who ≡ Some First → v ≡ 0) × (who ≢ Some First → v ≡ 1) → Merged (i + u) (j + v) c
  merge-next None c u v t a b ab o p =
      let q : i + u ≡ i + 1 = omega (arith, o.1 (λ z. cc)) in
      let q' : j + v ≡ j + 1 = omega (arith, p.1 (λ z. cc)) in
      rw (q, q') (merge_both (t.of-first (λ z. cc)) (t.of-second (λ z. cc)) (t.same refl) c (ab refl))
  merge-next (Some First) c u v t a b ab o p =
      let q : i + u ≡ i + 1 = omega (arith, o.1 (λ z. cc)) in
      let q' : j + v ≡ j = omega (arith, p.0 refl) in
      rw (q, q') (merge_first (t.of-first (λ z. cc)) c (a refl))
  merge-next (Some Second) c u v t a b ab o p =
      let q : i + u ≡ i = omega (arith, o.0 refl) in
      let q' : j + v ≡ j + 1 = omega (arith, p.1 (λ z. cc)) in
      rw (q, q') (merge_second (t.of-second (λ z. cc)) c (b refl))
