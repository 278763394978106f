-- `policy_print::Writer::put_range` meets its contract: by the definition's tests, in its order. Assumes nothing.
use Rattle.std.proofs.Common.{sym, ◌∙◌}
use Rattle.std.proofs.lemmas.Bool.{not-true, not-false}
use Rattle.policy_print.specs.PrintingLaws.{puts_then, all_text, one_text, two_text}
use Rattle.policy_print.proofs.Writer.put_range.Goals as goal

pub returns-then-is_full : goal.returns-then-is_full
returns-then-is_full c = rw (all_text _ _ _ (sym c.is_full.ensures ∙ c.if-is_full.true)) (puts_then c.put.ensures c.put_text.ensures)

pub returns-then-ne : goal.returns-then-ne
returns-then-ne c =
    rw (two_text _ _ _ (sym c.is_full.ensures ∙ c.if-is_full.false) (not-true _ (sym c.ne.ensures ∙ c.if-ne.true)))
    (puts_then c.put.ensures (puts_then c.put_value.ensures (puts_then c.put-then-ne.ensures c.put_value-then-ne.ensures)))

pub returns-else-ne : goal.returns-else-ne
returns-else-ne c =
    rw (one_text _ _ _ (sym c.is_full.ensures ∙ c.if-is_full.false) (not-false _ (sym c.ne.ensures ∙ c.if-ne.false)))
    (puts_then c.put.ensures c.put_value.ensures)
