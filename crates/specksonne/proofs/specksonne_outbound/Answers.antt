-- `specksonne::specksonne_outbound` meets its contract: the words of the cache, as it was left in place. Assumes nothing.
use Rattle.spd_cache.proofs.LentLaws.{words_of_cache}
use Rattle.specksonne.proofs.specksonne_outbound.Goals as goal

pub returns-clause-cache_after : goal.returns-clause-cache_after
returns-clause-cache_after c = let call = c.outbound-going_out in words_of_cache call.new.cache call.array_long _ call.ensures.cache_after
