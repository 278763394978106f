-- `layout::lists::active` meets its contract: the direction first, and then the ranges. Assumes nothing.
use mathlib.Core.Path.{sym, ◌∙◌}
use borrow.Author.Rules.{rules}
use Rattle.selectors.proofs.HeldLaws.{held_there}
use Rattle.cover.specs.Boxes.{ranges_word}
use Rattle.layout.specs.Decode.{active}
use Rattle.layout.proofs.lists.active.Goals as goal

pub returns-then-applies_to : goal.returns-then-applies_to
unfolding active
returns-then-applies_to c = rw (← c.from.ensures, sym c.applies_to.ensures ∙ c.if-applies_to.true)
    (c.ranges_hold.ensures ∙ held_there c.args.rows.now (ranges_word c.args.row) c.args.point.now c.args.field (search rules) (search rules))

pub returns-else-applies_to : goal.returns-else-applies_to
unfolding active
returns-else-applies_to c = rw (← c.from.ensures, sym c.applies_to.ensures ∙ c.if-applies_to.false) c.if-applies_to.false
