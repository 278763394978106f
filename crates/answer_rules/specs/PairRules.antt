-- The rules of adding and removing a pair, a rule for each outcome. Assumes nothing: these are definitions.
use Rattle.std.specs.Prelude.{ℕ, ◌≡◌, true, false, List, length, Ok, Err}
use Rattle.sad.specs.Pairs.{pairs, live}
use Rattle.sad.specs.declared.NewPair.{NewPair}
use Rattle.sad.specs.Pairs.{Outcome}
use Rattle.sad.specs.declared.PairError.TheVariants.{ReservedSpi, AlreadyLive, TableFull, BadPair as Malformed, NothingToRemove}
use Rattle.answer_rules.specs.Terms.{LowSpi, BadPair}

-- 'An added pair: 25, 28, 26, 27': each only where none before it.
abbrev pub AddRule : List ℕ → NewPair → Outcome → Type 0
AddRule ws q (Err ReservedSpi) = LowSpi q
AddRule ws q (Err Malformed) = (¬ (LowSpi q)) × BadPair q
AddRule ws q (Err AlreadyLive) = (¬ (LowSpi q)) × (¬ (BadPair q)) × (live q.protocol q.spi_in (pairs ws) ≡ true)
AddRule ws q (Err TableFull) =
    (¬ (LowSpi q)) × (¬ (BadPair q)) × (live q.protocol q.spi_in (pairs ws) ≡ false) × (length (pairs ws) ≡ 64)
AddRule ws q (Ok u) =
    (¬ (LowSpi q)) × (¬ (BadPair q)) × (live q.protocol q.spi_in (pairs ws) ≡ false) × (¬ (length (pairs ws) ≡ 64))
AddRule ws q (Err NothingToRemove) = ⊥

-- 'A removal, whatever it names: 29 only.'
abbrev pub RemoveRule : List ℕ → ℕ → ℕ → Outcome → Type 0
RemoveRule ws protocol spi (Ok u) = live protocol spi (pairs ws) ≡ true
RemoveRule ws protocol spi (Err ReservedSpi) = ⊥
RemoveRule ws protocol spi (Err AlreadyLive) = ⊥
RemoveRule ws protocol spi (Err TableFull) = ⊥
RemoveRule ws protocol spi (Err Malformed) = ⊥
RemoveRule ws protocol spi (Err NothingToRemove) = live protocol spi (pairs ws) ≡ false
