-- `cover::rows::ranges_of` meets its contract. The words from that of the ranges on. Assumes nothing.
use Rattle.std.proofs.Common.{◌*◌, arith, Option, Some, None, MatchOption, IfSome}
use Rattle.selectors.specs.Words.{range_words}
use Rattle.cover.specs.RangesLaws.{ends_within}
use Rattle.cover.proofs.rows.ranges_of.Goals as goal

if_there : {X : Type 0} (r : Option X) (N : Type 0) {S Q : X → Type 0} → MatchOption r N S → ((x : X) → S x → Q x) → IfSome r Q
if_there None N m t = tt
if_there (Some x) N m t = t x m

pub returns : goal.returns
returns c = if_there c.get.result _ c.get.ensures.lookup.0 (λ x m f h. rw m.2 (ends_within c.args.rows.now _ _ (range_words * f) (omega arith)))
