-- `layout::room::place` meets its contract: the blocks are compared, and the last interval goes on or ends. Assumes nothing.
use native.Mathlib.Omega.{arith}
use mathlib.Core.Bool.{false≢true}
use mathlib.Core.Path.{refl, sym, ◌∙◌}
use mathlib.Core.Logic.{inl, inr}
use Rattle.layout.specs.StepsLaws.{begun}
use Rattle.layout.proofs.room.place.Goals as goal

pub returns-then-same_block : goal.returns-then-same_block
returns-then-same_block c = inl (record { kept = refl; words = refl; same = c.same_block.ensures.0 c.if-same_block.true })

pub returns : goal.returns
returns c = let a = c.args in
    inr (begun a.field _ a.kept a.count a.from _ a.room.now _ _ (omega arith) c.requires.1.0 refl refl refl c.previous.ensures
    (λ e. false≢true (sym c.if-same_block.false ∙ c.same_block.ensures.1 e)) c.stamp.ensures)
