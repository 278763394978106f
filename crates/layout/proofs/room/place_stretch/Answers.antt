-- `layout::room::place_stretch` meets its contract, case by case. Assumes nothing.
use mathlib.Core.Path.{refl}
use Rattle.layout.specs.StretchesLaws.{placed_rows, placed_again}
use Rattle.layout.proofs.room.place_stretch.Goals as goal

pub place-requires : goal.place-requires
place-requires c = (c.requires.field_lt_field_count.0, (c.requires.field_lt_field_count.1, c.requires.by_index _ c.in-Some.is))

pub returns-in-Some : goal.returns-in-Some
returns-in-Some c = placed_rows _ _ _ _ _ _ _ _ _ c.in-Some.is c.place.ensures

pub returns-in-None : goal.returns-in-None
returns-in-None c = placed_again _ _ _ _ _ _ _ _ c.in-None.is refl refl
