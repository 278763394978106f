-- `store` of a lent cache meets its contract: the row, the count and the turn are written where they lie. Assumes nothing.
use Rattle.spd_cache.proofs.LentLaws.{stored-read}
use Rattle.spd_cache.proofs.lent.ArrayU64CACHEWORDSSlots.store.Goals as goal

pub returns : goal.returns
returns c =
    let after = c.store_row-after.ensures in
    rw (after.words_after, after.count, after.next) (stored-read c.args.self.now c.told-self c.args.rows.now c.args.row c.requires)
