-- What an error's message says before its number. Assumes nothing: these are definitions.
use Rattle.std.specs.Prelude.{ℕ, ◌≡◌, List, take, MatchOption}
use Rattle.std.specs.Str.Pattern.{FindsText}
use Rattle.std.specs.declared.option.Option.{Option}
use lib.Chars.{codes}

-- The words stand before the first ` (os error ` of the message, or are all of a message that has none.
abbrev pub IsWithoutNumber : List ℕ → List ℕ → Type 0
IsWithoutNumber message words = (place : Option (ℕ × ℕ)) × FindsText (codes " (os error ") message place × MatchOption place (words ≡ message) (λ p. words ≡ take p.0 message)
