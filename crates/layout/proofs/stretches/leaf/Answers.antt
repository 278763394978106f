-- `layout::stretches::leaf` meets its contract: the two actions agree, or there is no room for a row, or one is written. Assumes nothing.
use Rattle.layout.specs.FormLaws.{laid-agreed, laid-full, laid_leaf}
use Rattle.layout.proofs.stretches.leaf.Goals as goal

pub returns-then-action-other : goal.returns-then-action-other
returns-then-action-other c = laid-agreed _ _ _ _ _ _ c.action_at-action.ensures c.action_at-other.ensures c.if-action-other.true _

pub returns-then-branch-eq0 : goal.returns-then-branch-eq0
returns-then-branch-eq0 c = laid-full _ _ _ _ _ _ c.action_at-action.ensures c.action_at-other.ensures c.if-action-other.false c.if-branch-eq0.true _

pub returns : goal.returns
returns c = laid_leaf _ _ _ _ _ _ c.action_at-action.ensures c.action_at-other.ensures c.if-action-other.false c.if-branch-eq0.false c.args.room.now c.requires.room_fits
