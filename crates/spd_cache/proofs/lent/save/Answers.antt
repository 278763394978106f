-- `lent::save` meets its contract: the words of the slots are copied, and two more. Assumes nothing.
use Rattle.std.proofs.Common.{arith, rules, length, ◌≡◌, ◌∙◌, sym, take_at, take_all}
use Rattle.std.proofs.lemmas.Slice.{overwrites}
use Rattle.spd_cache.specs.Lent.{cache_words}
use Rattle.spd_cache.specs.Cache.{slots_words}
use Rattle.spd_cache.proofs.LentLaws.{two_more}
use Rattle.spd_cache.proofs.lent.save.Goals as goal

pub returns : goal.returns
unfolding cache_words
returns c =
    let words = c.args.cache.words in
    let size : length c.args.cache.words ≡ slots_words = search rules in
    rw c.copy_from_slice.ensures.after
    (two_more _ words slots_words c.args.cache.count c.args.cache.next (search (rules, overwrites)) size
    (take_at words _ slots_words size ∙ sym (take_all slots_words words (omega (arith, size)))))
