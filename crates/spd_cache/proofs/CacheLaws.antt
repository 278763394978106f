-- Laws of the cache. Assumes nothing.
use Rattle.std.specs.Prelude.{Some, None, ℕ, ◌+◌, ◌*◌, ◌<◌, ◌≤◌, min, ◌≡◌, List, length, get_or, drop, set}
use Rattle.std.proofs.Common.{arith, add-one, length-take, length-drop, get_or-take, get_or-drop}
use Rattle.std.proofs.Math.Seq.{paste, paste-suc}
use Rattle.selectors.specs.declared.Direction.{Direction}
use Rattle.policy.specs.declared.Action.TheVariants.{Discard}
use Rattle.policy.specs.Policy.{match_from}
use Rattle.policy.specs.Words.{row_words, policy_rows}
use Rattle.policy.proofs.WordsLaws.{match_bound}
use Rattle.spd_cache.specs.declared.Cache.{Cache}
use Rattle.spd_cache.specs.Cache.{slot_count, used_words, in_use, cached, action_at, answer, stored, looked_up}

-- One turn of a copy of the words from `from` on to the place `to`.
pub copy-next : (words : List ℕ) (to : ℕ) (rows : List ℕ) (from i : ℕ) → to + i < length words → from + i < length rows
    → set (paste words to (drop from rows) i) (to + i) (get_or rows (from + i) 0) ≡ paste words to (drop from rows) (i + 1)
copy-next words to rows from i h g =
    let k : i < length (drop from rows) = simp length-drop (omega arith) in
    rw (add-one, ← get_or-drop from rows i 0) (paste-suc words to (drop from rows) i 0 h k)

-- The place of a match: it is one of the rows, and among the slots one of those in use.
pub row_bound : (rows : List ℕ) (d : Direction) (vs : List ℕ) (j : ℕ) → match_from 0 d (policy_rows rows) vs ≡ Some j → j * row_words + row_words ≤ length rows
row_bound rows d vs j e = omega (arith, match_bound d rows vs 0 _ j e)

pub slot_bound : (words : List ℕ) (count : ℕ) (d : Direction) (vs : List ℕ) (j : ℕ) → match_from 0 d (policy_rows (used_words words count)) vs ≡ Some j
    → j < min count slot_count
slot_bound words count d vs j e =
    omega (arith, row_bound (used_words words count) d vs j e, length-take (min count slot_count * row_words) words)

-- A slot in use is read off the words of all slots.
pub used_action : (words : List ℕ) (count j : ℕ) → j < min count slot_count → action_at (used_words words count) j ≡ action_at words j
used_action words count j h = rw (get_or-take (min count slot_count * row_words) words (j * row_words + 1) 0 (omega arith))

-- The three cases of a lookup. 'A hit changes nothing. A miss that finds a row writes it … A miss without a row changes nothing.'
module _ (c : Cache) (rows : List ℕ) (d : Direction) (vs : List ℕ) where
  pub lookup_hit : (j : ℕ) → match_from 0 d (cached c) vs ≡ Some j → looked_up c rows d vs ≡ answer (action_at (in_use c) j) c
  unfolding looked_up
  lookup_hit j e = rw e

  pub lookup_miss : (j : ℕ) → match_from 0 d (cached c) vs ≡ None → match_from 0 d (policy_rows rows) vs ≡ Some j
      → looked_up c rows d vs ≡ answer (action_at rows j) (stored c rows j)
  unfolding looked_up
  lookup_miss j e f = rw (e, f)

  pub lookup_none : match_from 0 d (cached c) vs ≡ None → match_from 0 d (policy_rows rows) vs ≡ None
      → looked_up c rows d vs ≡ answer Discard c
  unfolding looked_up
  lookup_none e f = rw (e, f)
