-- Whether two policy files are the same policy in a direction. Assumes nothing: these are definitions.
use Rattle.std.specs.Prelude.{ℕ, Bool, true, false, Result, Ok, Err, List, [], ◌∷◌}
use Rattle.selectors.specs.declared.Direction.{Direction}
use Rattle.normal_form.specs.Search.{Row}
use Rattle.policy_text.specs.Editions.{edition_sizes, Policy, refused, rows, refusal_number, refusal_carries}
use Rattle.layout.specs.Parting.{Parting, difference_form}
use Rattle.same_policy.specs.declared.CompareError.{CompareError}
use Rattle.same_policy.specs.declared.CompareError.TheVariants.{First, Second}

-- Policies without a difference are the same: SameLaws.antt has `same_exactly`, which says this by the ordered search.
abbrev pub by_difference : List (Row Parting) → Result Bool CompareError
by_difference [] = Ok true
by_difference (r ∷ D) = Ok false

-- What comparing two files answers: the first file's refusal, then the second's, then whether the policies differ, over the fields of their
-- edition. (There is one, so that two policies are of one edition.)
abbrev pub compared : Direction → Policy → Policy → Result Bool CompareError
compared d (refused p) other = Err (First p)
compared d (rows rs) (refused q) = Err (Second q)
compared d (rows rs) (rows qs) = by_difference (difference_form (edition_sizes rs.edition) d rs.entries qs.entries)

-- Document 01's number of an answer.
abbrev pub compared_number : Result Bool CompareError → ℕ
compared_number (Ok same) = 5
compared_number (Err (First p)) = refusal_number p
compared_number (Err (Second q)) = refusal_number q

-- What an answer carries: 1 for the same policy and 0 for another, or the row's number; and, of a refusal, which file, 1 or 2.
abbrev pub compared_carries : Result Bool CompareError → ℕ
compared_carries (Ok true) = 1
compared_carries (Ok false) = 0
compared_carries (Err (First p)) = refusal_carries p
compared_carries (Err (Second q)) = refusal_carries q

abbrev pub compared_file : Result Bool CompareError → ℕ
compared_file (Ok same) = 0
compared_file (Err (First p)) = 1
compared_file (Err (Second q)) = 2
