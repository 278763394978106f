-- The cache of one direction (document 01, 'Cache and associations'). Assumes nothing: these are definitions.
use Rattle.std.specs.Prelude.{ℕ, ◌+◌, ◌*◌, ◌%◌, min, max, Option, Some, None, List, ◌∷◌, ◌++◌, get_or, take, drop, replicate}
use Rattle.std.proofs.Math.Seq.{paste}
use Rattle.selectors.specs.declared.Direction.{Direction}
use Rattle.policy.specs.declared.Action.{Action}
use Rattle.policy.specs.declared.Action.TheVariants.{Discard}
use Rattle.policy.specs.Policy.{PolicyRow, match_from}
use Rattle.policy.specs.Words.{action_of_word, row_words, policy_rows}
use Rattle.spd_cache.specs.declared.Cache.{Cache}
use Rattle.spd_cache.specs.declared.Looked.{Looked}

-- 'Each way has a cache of 32 slots for normal-form rows.'
abbrev pub slot_count : ℕ
slot_count = 32

-- The words of all slots.
abbrev pub slots_words : ℕ
slots_words = slot_count * row_words

-- 'A fresh gate holds … empty caches'; 'an accepted policy empties both caches, sets both turns to the first slot'.
abbrev pub empty_cache : Cache
empty_cache = record { words = replicate slots_words 0; count = 0; next = 0 }

-- The words of the slots in use: the first ones, as many as the count says, and never more than there are.
abbrev pub used_words : List ℕ → ℕ → List ℕ
used_words words count = take (min count slot_count * row_words) words

abbrev pub in_use : Cache → List ℕ
in_use c = used_words c.words c.count

-- The rows of the slots in use.
abbrev pub cached : Cache → List PolicyRow
cached c = policy_rows (in_use c)

-- The slot whose turn it is, whatever the field holds.
abbrev pub turn : Cache → ℕ
turn c = c.next % slot_count

-- The words with those of a slot replaced by the words of the row j of `rows`.
abbrev pub put : List ℕ → ℕ → List ℕ → ℕ → List ℕ
put words slot rows j = paste words (slot * row_words) (drop (j * row_words) rows) row_words

-- 'A miss that finds a row writes it to the slot whose turn it is, and the turn moves on, round after 32.'
abbrev pub stored : Cache → List ℕ → ℕ → Cache
stored c rows j =
    record {
      words = put c.words (turn c) rows j;
      count = max (min c.count slot_count) (turn c + 1);
      next = (turn c + 1) % slot_count;
    }

abbrev pub answer : Action → Cache → Looked
answer a c = record { action = a; cache = c }

abbrev pub action_at : List ℕ → ℕ → Action
action_at ws j = action_of_word (get_or ws (j * row_words + 1) 0)

-- 'A miss without a row changes nothing.'
abbrev pub missed : Cache → List ℕ → Option ℕ → Looked
missed c rows (Some j) = answer (action_at rows j) (stored c rows j)
missed c rows None = answer Discard c

-- 'A hit changes nothing.'
abbrev pub tried : Cache → List ℕ → Option ℕ → Option ℕ → Looked
tried c rows (Some j) found = answer (action_at (in_use c) j) c
tried c rows None found = missed c rows found

-- A lookup: the slots first, and then the rows.
unfoldable pub looked_up : Cache → List ℕ → Direction → List ℕ → Looked
looked_up c rows d vs = tried c rows (match_from 0 d (cached c) vs) (match_from 0 d (policy_rows rows) vs)

-- The rows with the row of one slot replaced; the slot may be the next after the last.
abbrev pub replaced : List PolicyRow → ℕ → PolicyRow → List PolicyRow
replaced rs slot r = take slot rs ++ r ∷ drop (slot + 1) rs
