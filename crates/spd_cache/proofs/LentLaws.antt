-- Laws of a cache lent as words. Assumes nothing.
use Rattle.std.specs.Prelude.{Some, ℕ, suc, ◌+◌, ◌*◌, ◌%◌, ◌<◌, ◌≤◌, min, max, ◌≡◌, refl, take}
use Rattle.std.proofs.Common.{arith, add-one, ◌∙◌, length-take, length-set, take-append-drop, take-suc, take-suc-set, take_all, take_at}
use Rattle.std.proofs.Math.Nat.{mod-lt}
use Rattle.std.proofs.Math.Path.{sym, ap}
use mathlib.Core.List.{List, [], ◌∷◌, ◌++◌, append_assoc}
use Rattle.std.proofs.Math.ListN.{length, get_or, drop, set, length-drop}
use Rattle.std.proofs.Math.Seq.{take-take, set-get_or, drop-length, paste, length-paste}
use Rattle.std.proofs.lemmas.List.{set_split, take-append-le, drop-append-le, get_or-append_right}
use Rattle.selectors.specs.declared.Direction.{Direction}
use Rattle.policy.specs.Policy.{match_from}
use Rattle.policy.specs.Words.{row_words}
use Rattle.spd_cache.specs.declared.Cache.{Cache}
use Rattle.spd_cache.specs.Cache.{slot_count, slots_words, used_words, in_use, cached, action_at, put, stored}
use Rattle.spd_cache.proofs.CacheLaws.{slot_bound, used_action}
use Rattle.spd_cache.specs.Lent.{count_at, next_at, cache_size, cache_from, cache_words}

-- One turn of a copy: the first i words are copied, and the next one is.
pub copied_next : (to from : List ℕ) (i : ℕ) → i < length to → i < length from → take i to ≡ take i from
    → take (i + 1) (set to i (get_or from i 0)) ≡ take (i + 1) from
copied_next to from i h g e = rw (add-one, take-suc-set to i (get_or from i 0) h, take-suc from i 0 g, e) refl

-- A list that is copied whole.
pub copied_whole : (to from : List ℕ) (n : ℕ) → length to ≡ n → take n to ≡ take n from → to ≡ take n from
copied_whole to from n h e = sym (take_all n to (omega (arith, h))) ∙ e

-- The words of a cache: those of the slots, and then two more.
pub two_more : (to words : List ℕ) (n a b : ℕ) → length to ≡ n + 2 → length words ≡ n → take n to ≡ take n words
    → set (set to n a) (n + 1) b ≡ words ++ a ∷ b ∷ []
two_more to words n a b h g e =
    let whole : take n to ≡ words = e ∙ take_all n words (omega (arith, g)) in
    let long : length (set to n a) ≡ n + 2 = length-set to n a ∙ h in
    let first : take (n + 1) (set to n a) ≡ words ++ a ∷ [] = rw add-one (take-suc-set to n a (omega (arith, h)) ∙ ap (λ (r : List ℕ). r ++ a ∷ []) whole) in
    let rest : drop (suc (n + 1)) (set to n a) ≡ [] = past (set to n a) (suc (n + 1)) (omega (arith, long)) in
    set_split (set to n a) (n + 1) b (omega (arith, long))
    ∙ ap (λ (r : List ℕ). r ++ b ∷ drop (suc (n + 1)) (set to n a)) first
    ∙ ap (λ (r : List ℕ). (words ++ a ∷ []) ++ b ∷ r) rest
    ∙ append_assoc words (a ∷ []) (b ∷ [])
  where
    past : (l : List ℕ) (m : ℕ) → length l ≡ m → drop m l ≡ []
    past l m e = ap (λ (k : ℕ). drop k l) (sym e) ∙ drop-length l

-- A copy into the first of two parts.
paste-append : (xs ys : List ℕ) (at : ℕ) (s : List ℕ) (m : ℕ) → at + m ≤ length xs → paste (xs ++ ys) at s m ≡ paste xs at s m ++ ys
paste-append xs ys at s m h = rw (take-append-le at xs ys (omega arith), drop-append-le (at + m) xs ys h) (simp append_assoc)

-- A copy that ends within the first n words is the copy into those words.
paste-take : (ws : List ℕ) (n at : ℕ) (s : List ℕ) (m : ℕ) → length (take n ws) ≡ n → at + m ≤ n → m ≤ length s → take n (paste ws at s m) ≡ paste (take n ws) at s m
paste-take ws n at s m h k l =
    let room : at + m ≤ length (take n ws) = omega (arith, h) in
    ap (λ (r : List ℕ). take n (paste r at s m)) (sym (take-append-drop n ws))
    ∙ ap (take n) (paste-append (take n ws) (drop n ws) at s m room)
    ∙ take_at (paste (take n ws) at s m) (drop n ws) n (length-paste (take n ws) at s m room l ∙ h)

-- A cache that is written as words is read as it was.
pub cache_read : (c : Cache) → length c.words ≡ slots_words → cache_from (cache_words c) ≡ c
unfolding cache_words cache_from
cache_read c h =
    let words : take slots_words (c.words ++ c.count ∷ c.next ∷ []) ≡ c.words = take_at c.words _ slots_words h in
    let count : get_or (c.words ++ c.count ∷ c.next ∷ []) count_at 0 ≡ c.count = get_or-append_right c.words _ slots_words count_at 0 h (omega arith) in
    let next : get_or (c.words ++ c.count ∷ c.next ∷ []) next_at 0 ≡ c.next = get_or-append_right c.words _ slots_words next_at 0 h (omega arith) in
    rw (words, count, next)

module _ (ws : List ℕ) (h : length ws ≡ cache_size) where
  long : length (take slots_words ws) ≡ slots_words
  long = simp length-take (omega (arith, h))

  -- The words of a cache that was read from words are those words: a call that leaves the cache leaves them.
  pub cache_kept : cache_words (cache_from ws) ≡ ws
  unfolding cache_words cache_from
  cache_kept =
      sym (two_more ws (take slots_words ws) slots_words (get_or ws count_at 0) (get_or ws next_at 0) h long (sym (take-take slots_words slots_words ws (omega arith))))
      ∙ ap (λ (r : List ℕ). set r next_at (get_or ws next_at 0)) (set-get_or ws count_at 0)
      ∙ set-get_or ws next_at 0

  -- So words that are read as a cache are that cache's words.
  pub words_of_cache : (c : Cache) → cache_from ws ≡ c → ws ≡ cache_words c
  words_of_cache c e = sym cache_kept ∙ ap cache_words e

  -- The slots in use, read off the words that are lent.
  pub slots-in_use : in_use (cache_from ws) ≡ used_words ws (get_or ws count_at 0)
  unfolding cache_from
  slots-in_use = take-take (min (get_or ws count_at 0) slot_count * row_words) slots_words ws (omega arith)

  -- A hit is in one of the slots in use, and its action is read where it lies.
  pub hit_below : (d : Direction) (vs : List ℕ) (j : ℕ) → match_from 0 d (cached (cache_from ws)) vs ≡ Some j → j < min (get_or ws count_at 0) slot_count
  unfolding cache_from
  hit_below d vs j e = slot_bound (take slots_words ws) (get_or ws count_at 0) d vs j e

  pub hit_action : (j : ℕ) → j < min (get_or ws count_at 0) slot_count → action_at (in_use (cache_from ws)) j ≡ action_at ws j
  hit_action j l = rw slots-in_use (used_action ws (get_or ws count_at 0) j l)

  -- A row stored where it lies.
  pub stored-words : (rows : List ℕ) (j : ℕ) → j * row_words + row_words ≤ length rows
      → set
      (set (paste ws (get_or ws next_at 0 % slot_count * row_words) (drop (j * row_words) rows) row_words) count_at (max (min (get_or ws count_at 0) slot_count) (get_or ws next_at 0 % slot_count + 1)))
      next_at
      ((get_or ws next_at 0 % slot_count + 1) % slot_count)
      ≡ cache_words (stored (cache_from ws) rows j)
  unfolding cache_words cache_from
  stored-words rows j l =
      let at = get_or ws next_at 0 % slot_count * row_words in
      let new = drop (j * row_words) rows in
      let below : at + row_words ≤ slots_words = omega (arith, mod-lt (get_or ws next_at 0) {m = slot_count} (omega arith)) in
      let row : row_words ≤ length new = simp length-drop (omega arith) in
      let slots : length (paste (take slots_words ws) at new row_words) ≡ slots_words = length-paste (take slots_words ws) at new row_words (omega (arith, long)) row ∙ long in
      two_more (paste ws at new row_words) (paste (take slots_words ws) at new row_words) slots_words _ _
      (length-paste ws at new row_words (omega (arith, h)) row ∙ h)
      slots
      (paste-take ws slots_words at new row_words long below row ∙ sym (take_all slots_words _ (omega (arith, slots))))

  stored-size : (rows : List ℕ) (j : ℕ) → j * row_words + row_words ≤ length rows → length (stored (cache_from ws) rows j).words ≡ slots_words
  unfolding cache_from
  stored-size rows j l =
      let below : get_or ws next_at 0 % slot_count * row_words + row_words ≤ slots_words = omega (arith, mod-lt (get_or ws next_at 0) {m = slot_count} (omega arith)) in
      length-paste (take slots_words ws) _ (drop (j * row_words) rows) row_words (omega (arith, long)) (simp length-drop (omega arith)) ∙ long

  pub stored-read : (rows : List ℕ) (j : ℕ) → j * row_words + row_words ≤ length rows
      → cache_from
      (set
      (set (put ws (get_or ws next_at 0 % slot_count) rows j) count_at (max (min (get_or ws count_at 0) slot_count) (get_or ws next_at 0 % slot_count + 1)))
      next_at
      ((get_or ws next_at 0 % slot_count + 1) % slot_count))
      ≡ stored (cache_from ws) rows j
  stored-read rows j l = ap cache_from (stored-words rows j l) ∙ cache_read (stored (cache_from ws) rows j) (stored-size rows j l)
