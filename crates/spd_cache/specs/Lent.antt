-- The cache lent as words. Assumes nothing: these are definitions.
use Rattle.std.specs.Prelude.{ℕ, ◌+◌, List, [], ◌∷◌, ◌++◌, get_or, take}
use Rattle.spd_cache.specs.Cache.{slots_words}
use Rattle.spd_cache.specs.declared.Cache.{Cache}

-- A lent cache is the words of the slots, the count of slots in use, and the slot whose turn it is.
abbrev pub count_at : ℕ
count_at = slots_words

abbrev pub next_at : ℕ
next_at = count_at + 1

abbrev pub cache_size : ℕ
cache_size = next_at + 1

unfoldable pub cache_from : List ℕ → Cache
cache_from ws = record { words = take slots_words ws; count = get_or ws count_at 0; next = get_or ws next_at 0 }

unfoldable pub cache_words : Cache → List ℕ
cache_words c = c.words ++ c.count ∷ c.next ∷ []
