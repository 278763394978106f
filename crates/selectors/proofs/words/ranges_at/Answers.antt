-- `words::ranges_at` meets its contract: range by range. Assumes nothing.
use native.Mathlib.Omega.{arith}
use Rattle.selectors.proofs.WordsLaws.{ends_missing}
use Prim.Native.Nat.{◌+◌}
use Rattle.selectors.proofs.words.ranges_at.Goals as goal

pub returns-then-words-at : goal.returns-then-words-at
returns-then-words-at c =
    let ws = c.args.words.now in
    let at = c.args.at in
    rw (
      ← (ends_missing ws at (omega arith)),
      ← (ends_missing ws (at + 4) (omega arith)),
      ← (ends_missing ws (at + 8) (omega arith)),
      ← (ends_missing ws (at + 12) (omega arith)),
      ← (ends_missing ws (at + 16) (omega arith)),
    )

pub returns : goal.returns
returns c =
    rw (
      ← c.ends_at.ensures,
      ← c.ends_at-2.ensures,
      ← c.ends_at-3.ensures,
      ← c.ends_at-4.ensures,
      ← c.ends_at-5.ensures,
    )
