-- `layout::stretches::box_of` meets its contract: all values from 0 to the highest. Assumes nothing.
use mathlib.Core.Path.{refl}
use Rattle.layout.specs.AlikeLaws.{whole_box}
use Rattle.layout.proofs.stretches.box_of.Goals as goal

pub returns : goal.returns
returns c = whole_box _ _ refl
