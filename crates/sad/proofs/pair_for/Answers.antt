-- `sad::pair_for` meets its contract: the protocol and the outbound SPI of the best pair, if there is one. Assumes nothing.
use Rattle.std.proofs.Common.{◌≡◌, sym, ap, ◌∙◌}
use Rattle.selectors.specs.Value.{combination}
use Rattle.selectors.specs.Words.{values_of}
use Rattle.selectors.proofs.WordsLaws.{selector_values}
use Rattle.sad.specs.PairsLaws.{pair_for-none, pair_for-head}
use Rattle.sad.proofs.pair_for.Goals as goal

pub returns-in_err-best : goal.returns-in_err-best
returns-in_err-best c =
    let values-are : combination c.args.selectors ≡ values_of c.selector_words-values.result = sym (selector_values c.args.selectors) ∙ ap values_of (sym c.selector_words-values.ensures) in
    c.from_residual.ensures ∙ rw values-are (pair_for-none c.args.table.now c.args.number (values_of c.selector_words-values.result) (sym c.best_pair.ensures ∙ c.in_err-best.was))

pub returns : goal.returns
returns c =
    let values-are : combination c.args.selectors ≡ values_of c.selector_words-values.result = sym (selector_values c.args.selectors) ∙ ap values_of (sym c.selector_words-values.ensures) in
    rw values-are (pair_for-head c.args.table.now c.args.number (values_of c.selector_words-values.result) c.in_ok-best.best (sym c.best_pair.ensures ∙ c.in_ok-best.was))
