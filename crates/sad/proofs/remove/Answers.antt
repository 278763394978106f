-- `sad::remove` meets its contract: the place of the pair, if it has one. Assumes nothing.
use Rattle.std.specs.Prelude.{Some}
use Rattle.std.proofs.Common.{◌≡◌, sym, ◌∙◌}
use Rattle.sad.specs.Pairs.{place_of}
use Rattle.sad.specs.PairsLaws.{removed_none, removed_at}
use Rattle.sad.proofs.remove.Goals as goal

pub returns-in_default : goal.returns-in_default
returns-in_default c =
    let a = c.args in
    let h = removed_none a.table.now a.protocol a.spi_in (sym c.place_of.ensures ∙ c.in_default.is) in
    record { answer = h.0; table_after = h.1 }

pub returns : goal.returns
returns c =
    let a = c.args in
    let is_at : place_of a.table.now a.protocol a.spi_in ≡ Some c.in-Some.place = sym c.place_of.ensures ∙ c.in-Some.is in
    let h = removed_at a.table.now a.protocol a.spi_in _ is_at in
    record { answer = h.0; table_after = h.1 }
