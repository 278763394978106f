-- What the answers to parsing, printing and comparing carry. Assumes nothing: these are definitions.
use Rattle.std.specs.Prelude.{ℕ, Bool, Result, Ok, Err, List, [], ◌∷◌}
use Rattle.policy_text.specs.declared.Rows.{Rows}
use Rattle.policy_text.specs.declared.ParseError.{ParseError}
use Rattle.policy_text.specs.declared.ParseError.TheVariants.{Refused, NoRoom as NoRows}
use Rattle.policy_text.specs.Editions.{refusal_carries}
use Rattle.policy_print.specs.declared.NoRoom.{NoRoom}
use Rattle.same_policy.specs.declared.CompareError.{CompareError}
use Rattle.same_policy.specs.Same.{compared_carries, compared_file}

-- What the answers to parsing and printing carry: the count of rows or of bytes, what a refusal carries.
abbrev pub parsed_carries : Result Rows ParseError → ℕ
parsed_carries (Ok rows) = rows.count
parsed_carries (Err (Refused r)) = refusal_carries r
parsed_carries (Err NoRows) = 0

abbrev pub printed_carries : Result ℕ NoRoom → ℕ
printed_carries (Ok n) = n
printed_carries (Err e) = 0

-- What comparing two files carries: 1 for the same policy, 0 for another, or what a refusal carries; and, of a refusal, which file, 1 or 2.
abbrev pub compared_words : Result Bool CompareError → List ℕ
compared_words c = compared_carries c ∷ compared_file c ∷ []
