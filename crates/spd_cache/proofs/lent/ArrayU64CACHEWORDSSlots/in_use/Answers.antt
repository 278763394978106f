-- `in_use` of a lent cache meets its contract: the slots in use are read where they lie. Assumes nothing.
use Rattle.std.proofs.Common.{◌∙◌, sym}
use Rattle.spd_cache.proofs.LentLaws.{slots-in_use}
use Rattle.spd_cache.proofs.lent.ArrayU64CACHEWORDSSlots.in_use.Goals as goal

pub returns : goal.returns
returns c = c.used.ensures ∙ sym (slots-in_use c.args.self.now c.told-self)
