-- `decorrelate::same` meets its contract: policies agree exactly where their difference has no rows. Assumes nothing.
use borrow.Author.Rules.{rules}
use Rattle.policy_text.specs.Editions.{edition_sizes}
use Rattle.decorrelate.specs.AgreeLaws.{answers_agree}
use Rattle.decorrelate.proofs.same.Goals as goal

pub returns-in-Ok : goal.returns-in-Ok
returns-in-Ok c =
    rw c.in-Ok.is at (answers_agree 0 (edition_sizes c.args.edition) _ c.args.direction _ _ _ _ _ (search rules) c.layout-laid.ensures c.highest-top.ensures)

pub returns-in-Err : goal.returns-in-Err
returns-in-Err c =
    rw c.in-Err.is at (answers_agree 0 (edition_sizes c.args.edition) _ c.args.direction _ _ _ _ _ (search rules) c.layout-laid.ensures c.highest-top.ensures)
