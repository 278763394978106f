-- The triggering header of a packet from an association, held against the ranges at the place of its pair. Assumes nothing.
use Rattle.std.specs.Prelude.{ℕ, Option, Some, None, ◌≡◌, refl, List}
use Rattle.packet.specs.declared.Packet.{Packet}
use Rattle.sad.specs.Pairs.{pairs, place_of, fits_at}
use Rattle.sad.specs.PairsLaws.{fitting_at}
use Rattle.verdicts.specs.Calls.{shows, fits_pair, trigger_read}

-- The ranges at the place of a pair are that pair's.
pub trigger_at : (ws : List ℕ) (protocol spi i : ℕ) → place_of ws protocol spi ≡ Some i → (r : Option Packet)
    → trigger_read (fits_at ws i) r ≡ trigger_read (fits_pair protocol spi (pairs ws)) r
trigger_at ws protocol spi i e (Some k) = rw (fitting_at ws protocol spi i e (shows k))
trigger_at ws protocol spi i e None = refl
