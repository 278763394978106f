-- `agree::cuts::acts` meets its contract: the row's action is read. Assumes nothing.
use Rattle.agree.proofs.cuts.acts.Goals as goal

pub returns : goal.returns
returns c = rw (c.action_in.ensures, c.wide.ensures)
