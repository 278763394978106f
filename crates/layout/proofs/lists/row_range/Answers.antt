-- `layout::lists::row_range` meets its contract: the four words are those of the range. Assumes nothing.
use native.Mathlib.Omega.{arith}
use mathlib.Core.Path.{◌∙◌}
use Prim.Native.Nat.{◌+◌, ◌-◌}
use Rattle.selectors.specs.Words.{range_words}
use Rattle.cover.specs.RangesLaws.{ends_lent}
use Rattle.layout.specs.Decode.{word_of}
use Rattle.layout.proofs.lists.row_range.Goals as goal

pub returns : goal.returns
returns c =
    let at = word_of c.args.row c.args.field in
    c.ends_at.ensures ∙ ends_lent c.args.rows.now at (at + range_words - at) (omega arith)
