-- `sad::add` meets its contract: the refusals in their order, and then the lowest free place. Assumes nothing.
use Rattle.std.specs.Prelude.{Some}
use Rattle.std.proofs.Common.{◌≡◌, sym, ◌∙◌}
use borrow.Author.Tests.{not-true, not-false}
use Rattle.sad.specs.Pairs.{free_place}
use Rattle.sad.specs.PairsLaws.{add_reserved, add_bad, add-live, add-full, add_at}
use Rattle.sad.proofs.add.Goals as goal

pub returns-then-is_reserved : goal.returns-then-is_reserved
returns-then-is_reserved c =
    let h = add_reserved c.args.table.now c.args.pair (sym c.is_reserved.ensures ∙ c.if-is_reserved.true) in
    record { answer = h.0; table_after = h.1 }

pub returns-then-not-is_well_formed : goal.returns-then-not-is_well_formed
returns-then-not-is_well_formed c =
    let h = add_bad c.args.table.now c.args.pair (sym c.is_reserved.ensures ∙ c.if-is_reserved.false) (sym c.is_well_formed.ensures ∙ not-true _ c.if-not-is_well_formed.true-raw) in
    record { answer = h.0; table_after = h.1 }

pub returns-then-is_live : goal.returns-then-is_live
returns-then-is_live c =
    let a = c.args in
    let h =
    add-live a.table.now a.pair (sym c.is_reserved.ensures ∙ c.if-is_reserved.false) (sym c.is_well_formed.ensures ∙ not-false _ c.if-not-is_well_formed.false-raw)
    (sym c.is_live.ensures ∙ c.if-is_live.true)
    in
    record { answer = h.0; table_after = h.1 }

pub returns-in_default : goal.returns-in_default
returns-in_default c =
    let a = c.args in
    let h =
    add-full a.table.now a.pair (sym c.is_reserved.ensures ∙ c.if-is_reserved.false) (sym c.is_well_formed.ensures ∙ not-false _ c.if-not-is_well_formed.false-raw)
    (sym c.is_live.ensures ∙ c.if-is_live.false) (sym c.free_place.ensures ∙ c.in_default.is)
    in
    record { answer = h.0; table_after = h.1 }

pub returns : goal.returns
returns c =
    let a = c.args in
    let is_free : free_place a.table.now ≡ Some c.in-Some.place = sym c.free_place.ensures ∙ c.in-Some.is in
    let h =
    add_at a.table.now a.pair (sym c.is_reserved.ensures ∙ c.if-is_reserved.false) (sym c.is_well_formed.ensures ∙ not-false _ c.if-not-is_well_formed.false-raw)
    (sym c.is_live.ensures ∙ c.if-is_live.false) _ is_free
    in
    record { answer = h.0; table_after = c.put_pair.ensures ∙ h.1 }
