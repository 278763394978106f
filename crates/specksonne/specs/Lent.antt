-- The two caches of a gateway as they are lent. Assumes nothing: these are definitions.
use Rattle.std.specs.Prelude.{ℕ, List}
use Rattle.acceptance.specs.declared.Caches.{Caches}
use Rattle.spd_cache.specs.Lent.{cache_from}

abbrev pub caches_from : List ℕ → List ℕ → Caches
caches_from out ins = record { outbound = cache_from out; inbound = cache_from ins }
