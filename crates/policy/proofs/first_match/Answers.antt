-- `policy::first_match` meets its contract. The loop's invariant: the match in all rows is the match in the rows from `row` on.
-- Assumes nothing.
use native.Mathlib.Nat.{sub-zero}
use mathlib.Core.Path.{◌≡◌, sym, ap, ◌∙◌}
use Rattle.selectors.specs.Value.{combination}
use Rattle.selectors.specs.Words.{values_of}
use Rattle.selectors.proofs.WordsLaws.{selector_values}
use Rattle.policy.proofs.WordsLaws.{match-found, match_passed, match_ended}
use borrow.Author.Rules.{rules}
use Rattle.policy.proofs.first_match.Goals as goal

pub loop-row-init : goal.loop-row-init
loop-row-init c = rw sub-zero

pub returns-then-row_matches : goal.returns-then-row_matches
returns-then-row_matches c =
    let values-are : combination c.args.selectors ≡ values_of c.selector_words-values.result = sym (selector_values c.args.selectors) ∙ ap values_of (sym c.selector_words-values.ensures) in
    rw (values-are)
    (sym (c.loop-row.invariant
    ∙ match-found c.args.direction c.args.rows.now (values_of c.selector_words-values.result) c.loop-row.row _ (search rules)
    (sym c.row_matches.ensures ∙ c.if-row_matches.true)))

pub loop-row-preserved : goal.loop-row-preserved
loop-row-preserved c =
    c.loop-row.invariant
    ∙ match_passed c.args.direction c.args.rows.now (values_of c.selector_words-values.result) c.loop-row.row _ (search rules)
    (sym c.row_matches.ensures ∙ c.if-row_matches.false)

pub returns : goal.returns
returns c =
    let values-are : combination c.args.selectors ≡ values_of c.selector_words-values.result = sym (selector_values c.args.selectors) ∙ ap values_of (sym c.selector_words-values.ensures) in
    rw (values-are)
    (sym (c.loop-row.invariant
    ∙ match_ended c.args.direction c.args.rows.now (values_of c.selector_words-values.result) c.loop-row.row _ (search rules)))
