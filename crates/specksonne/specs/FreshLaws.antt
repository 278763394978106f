-- A fresh gateway: its table has no pair, and its caches as many words as the library says. Assumes nothing.
use Rattle.std.specs.Prelude.{ℕ, zero, suc, ◌*◌, ◌≡◌, refl, [], length, get_or, replicate}
use Rattle.sad.specs.Pairs.{pairs_from, pairs, place_count, place_words, table_words}
use Rattle.spd_cache.specs.Cache.{empty_cache}
use Rattle.spd_cache.specs.Lent.{cache_size, cache_words}

-- No word of zeros is live.
zeros : (n i : ℕ) → ◌≡◌ {A = ℕ} (get_or (replicate n 0) i 0) 0
zeros zero i = refl
zeros (suc n) zero = refl
zeros (suc n) (suc i) = zeros n i

no_pair : (n i k : ℕ) → pairs_from (replicate n 0) i k ≡ []
unfolding pairs_from
no_pair n i zero = refl
no_pair n i (suc k) = rw (zeros n (i * place_words)) (no_pair n (suc i) k)

-- 'A fresh gate holds … no pair.'
pub fresh-pairs : pairs (replicate table_words 0) ≡ []
fresh-pairs = no_pair table_words 0 place_count

pub cache-size : length (cache_words empty_cache) ≡ cache_size
unfolding cache_words
cache-size = refl
