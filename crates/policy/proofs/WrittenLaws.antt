-- Rows written as words and read again. Assumes nothing.
use Prim.Native.Nat.{ℕ, suc, ◌+◌, ◌*◌, ◌/◌, ◌≤◌}
use native.Mathlib.Omega.{arith}
use Rattle.std.proofs.Common.{add_assoc, add-zero, sym, ◌∙◌, get_or-drop, drop-cons, drop-drop}
use Rattle.std.specs.Prelude.{◌≡◌, length, get_or, take}
use Rattle.std.proofs.Math.Path.{refl, ap}
use mathlib.Core.List.{List, [], ◌∷◌, ◌++◌, map, append_assoc, append-nil}
use Rattle.std.proofs.Math.ListN.{drop, length-append}
use Rattle.selectors.specs.Range.{Range}
use Rattle.selectors.specs.Words.{field_count, ranges_words, value_at, ranges_at, words_of_value, words_of_ranges}
use Rattle.selectors.proofs.WordsLaws.{value_written, AllWords, five_exact}
use Rattle.selectors.specs.declared.Direction.{Direction}
use Rattle.selectors.specs.declared.Direction.TheVariants.{Out, In}
use Rattle.policy.specs.declared.RowDirection.{RowDirection}
use Rattle.policy.specs.declared.RowDirection.TheVariants.{Only, Both}
use Rattle.policy.specs.declared.Row.{Row}
use Rattle.policy.specs.Policy.{PolicyRow, ordered_search}
use Rattle.policy.specs.Words.{direction_of, direction_word, action_of_word, action_word, row_words, row_at, rows_from, policy_rows, words_with, words_of_all, words_of, ranges_of, row_of, words_of_record, words_of_records}
use Rattle.policy.proofs.WordsLaws.{word_action}

pub direction-word : (d : RowDirection) → direction_of (direction_word d) ≡ d
direction-word (Only Out) = refl
direction-word (Only In) = refl
direction-word Both = refl

-- What is so of any five ranges is so of ranges of which there are five.
pub five-ranges : (P : List Range → Type 0) → ((a b c d e : Range) → P (a ∷ b ∷ c ∷ d ∷ e ∷ [])) → (rs : List Range) → length rs ≡ field_count → P rs
five-ranges P p (a ∷ b ∷ c ∷ d ∷ e ∷ []) f = p a b c d e
five-ranges P p [] f = absurd (omega arith)
five-ranges P p (a ∷ []) f = absurd (omega arith)
five-ranges P p (a ∷ b ∷ []) f = absurd (omega arith)
five-ranges P p (a ∷ b ∷ c ∷ []) f = absurd (omega arith)
five-ranges P p (a ∷ b ∷ c ∷ d ∷ []) f = absurd (omega arith)
five-ranges P p (a ∷ b ∷ c ∷ d ∷ e ∷ g ∷ rs) f = absurd (omega arith)

-- A row is read from its own words: those from its place on.
pub row_from : (ws : List ℕ) (at : ℕ) → row_at ws at ≡ row_at (drop at ws) 0
unfolding row_at value_at
row_from ws at = simp (get_or-drop, add_assoc, add-zero)

-- The row that two words and five ranges make.
abbrev pub row_with : ℕ → ℕ → List Range → PolicyRow
row_with first second rs = record { direction = direction_of first; action = action_of_word second; ranges = rs }

-- A row's words, whatever follows them, are read as the row, and 22 words on stands what follows.
abbrev Read : ℕ → ℕ → List ℕ → List Range → Type 0
Read first second rest rs =
    (row_at (words_with first second rs ++ rest) 0 ≡ row_with first second rs) × (drop row_words (words_with first second rs ++ rest) ≡ rest)

five_read : (first second : ℕ) (rest : List ℕ) (a b c d e : Range) → Read first second rest (a ∷ b ∷ c ∷ d ∷ e ∷ [])
unfolding row_at value_at words_of_value
five_read first second rest a b c d e = (simp value_written, refl)

pub row_read : (first second : ℕ) (rs : List Range) → length rs ≡ field_count → (rest : List ℕ)
    → (row_at (words_with first second rs ++ rest) 0 ≡ row_with first second rs) × (drop row_words (words_with first second rs ++ rest) ≡ rest)
row_read first second rs f rest = five-ranges (Read first second rest) (five_read first second rest) rs f

five-words : (a b c d e : Range) → length (words_of_ranges (a ∷ b ∷ c ∷ d ∷ e ∷ [])) ≡ ranges_words
unfolding words_of_value
five-words a b c d e = refl

pub ranges-words : (rs : List Range) → length rs ≡ field_count → length (words_of_ranges rs) ≡ ranges_words
ranges-words rs f = five-ranges (λ (qs : List Range). length (words_of_ranges qs) ≡ ranges_words) five-words rs f

-- A row's words, as they stand, are those of its first two words and its ranges.
pub row_exact : (ws : List ℕ) (at : ℕ) → AllWords ws → at + row_words ≤ length ws
    → take row_words (drop at ws) ≡ words_with (get_or ws at 0) (get_or ws (at + 1) 0) (ranges_at ws (at + 2))
row_exact ws at fit h =
    let e0 : suc at ≡ at + 1 = omega arith in
    let e1 : suc (at + 1) ≡ at + 2 = omega arith in
    let d0 : drop at ws ≡ get_or ws at 0 ∷ drop (at + 1) ws = rw e0 at (drop-cons ws at 0 (omega arith)) in
    let d1 : drop (at + 1) ws ≡ get_or ws (at + 1) 0 ∷ drop (at + 2) ws = rw e1 at (drop-cons ws (at + 1) 0 (omega arith)) in
    ap (λ (l : List ℕ). take row_words l) (d0 ∙ ap (λ (l : List ℕ). get_or ws at 0 ∷ l) d1)
    ∙ ap (λ (l : List ℕ). get_or ws at 0 ∷ get_or ws (at + 1) 0 ∷ l) (sym (five_exact ws fit (at + 2) (omega arith)))

-- Things that are rows, by two words and the ranges of each: written one after the other from the row i on, they are read there.
module _ (A : Type 0) (first second : A → ℕ) (ranges : A → List Range) where
  abbrev pub words : A → List ℕ
  words x = words_with (first x) (second x) (ranges x)

  abbrev pub read_row : A → PolicyRow
  read_row x = row_with (first x) (second x) (ranges x)

  -- Each has a range for each field.
  unfoldable pub AllFive : List A → Type 0
  AllFive [] = Unit
  AllFive (x ∷ xs) = (length (ranges x) ≡ field_count) × AllFive xs

  written_from : (ws : List ℕ) (i : ℕ) (xs : List A) (rest : List ℕ) → AllFive xs → drop (i * row_words) ws ≡ words_of_all words xs ++ rest
      → rows_from ws i (length xs) ≡ map read_row xs
  unfolding words_of_all AllFive rows_from
  written_from ws i [] rest f e = refl
  written_from ws i (x ∷ xs) rest f e =
      let here : drop (i * row_words) ws ≡ words x ++ (words_of_all words xs ++ rest) = e ∙ append_assoc (words x) (words_of_all words xs) rest in
      let both = row_read (first x) (second x) (ranges x) f.0 (words_of_all words xs ++ rest) in
      let one : row_at ws (i * row_words) ≡ read_row x = row_from ws (i * row_words) ∙ ap (λ (t : List ℕ). row_at t 0) here ∙ both.0 in
      let k : suc i * row_words ≡ i * row_words + row_words = omega arith in
      let next : drop (suc i * row_words) ws ≡ words_of_all words xs ++ rest
      = rw k (sym (drop-drop row_words (i * row_words) ws) ∙ ap (drop row_words) here ∙ both.1) in
      rw (one, written_from ws (suc i) xs rest f.1 next)

  pub written-length : (xs : List A) → AllFive xs → length (words_of_all words xs) ≡ length xs * row_words
  unfolding words_of_all AllFive
  written-length [] f = refl
  written-length (x ∷ xs) f =
      let n = ranges-words (ranges x) f.0 in
      let m = written-length xs f.1 in
      omega (arith, length-append (words_of_ranges (ranges x)) (words_of_all words xs))

  -- What was written is read.
  pub written_rows : (xs : List A) → AllFive xs → policy_rows (words_of_all words xs) ≡ map read_row xs
  written_rows xs f =
      let k : length (words_of_all words xs) / row_words ≡ length xs = omega (arith, written-length xs f) in
      rw k (written_from (words_of_all words xs) 0 xs [] f (sym (append-nil (words_of_all words xs))))

-- A policy's rows.
abbrev pub FiveEach : List PolicyRow → Type 0
FiveEach rs = AllFive PolicyRow (λ r. direction_word r.direction) (λ r. action_word r.action) (λ r. r.ranges) rs

pub words-length : (rs : List PolicyRow) → FiveEach rs → length (words_of rs) ≡ length rs * row_words
words-length rs f = written-length PolicyRow (λ r. direction_word r.direction) (λ r. action_word r.action) (λ r. r.ranges) rs f

same_rows : (rs : List PolicyRow) → map (read_row PolicyRow (λ r. direction_word r.direction) (λ r. action_word r.action) (λ r. r.ranges)) rs ≡ rs
same_rows [] = refl
same_rows (r ∷ rs) = rw (direction-word r.direction, word_action r.action, same_rows rs)

pub words_rows : (rs : List PolicyRow) → FiveEach rs → policy_rows (words_of rs) ≡ rs
words_rows rs f =
    written_rows PolicyRow (λ r. direction_word r.direction) (λ r. action_word r.action) (λ r. r.ranges) rs f ∙ same_rows rs

-- Records.
all_records : (rs : List Row) → AllFive Row (λ r. r.direction) (λ r. r.action) ranges_of rs
unfolding AllFive
all_records [] = tt
all_records (r ∷ rs) = (refl, all_records rs)

pub record-length : (r : Row) → length (words_of_record r) ≡ row_words
record-length r = omega (arith, ranges-words (ranges_of r) refl)

pub records_rows : (rs : List Row) → policy_rows (words_of_records rs) ≡ map row_of rs
records_rows rs = written_rows Row (λ r. r.direction) (λ r. r.action) ranges_of rs (all_records rs)

-- 'Likewise the ordered search is also offered over a lent list of row records': the same search.
pub records_search : (d : Direction) (rs : List Row) (vs : List ℕ) → ordered_search d (policy_rows (words_of_records rs)) vs ≡ ordered_search d (map row_of rs) vs
records_search d rs vs = rw (records_rows rs)
