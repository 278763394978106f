-- `decorrelate::fill` meets its contract: the words, and then the zeros. Assumes nothing.
use native.Mathlib.Omega.{arith}
use lib.ListN.{length-take}
use Rattle.std.proofs.Common.{length-append, length-drop}
use Rattle.decorrelate.specs.RoomLaws.{padded_written}
use Rattle.decorrelate.proofs.fill.Goals as goal

pub returns : goal.returns
returns c =
    let same = c.copy_from_slice.ensures.after in
    padded_written _ _ _ _ _ c.requires same (rw same (simp (length-take, length-drop, length-append) (omega arith))) (c.fill.ensures.after (λ y e. e))
