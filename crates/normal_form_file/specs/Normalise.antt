-- Normalising: the call for one direction, from a policy file to its normal-form file (document 01; docs/RULES.md, 'Normalising'). Assumes nothing: these are definitions.
use Rattle.std.specs.Prelude.{ℕ, Result, Ok, Err, cond, List, ◌++◌, leb, length, drop}
use Rattle.selectors.specs.declared.Direction.{Direction}
use Rattle.policy.specs.Policy.{as_policy}
use Rattle.policy_text.specs.Editions.{format_of, Rules, Policy, refused, rows, refusal_number, refusal_carries}
use Rattle.policy_text.specs.Print.{policy_text}
use Rattle.decorrelate.specs.Form.{form, direction_number}
use Rattle.normal_form_file.specs.declared.NormaliseError.{NormaliseError}
use Rattle.normal_form_file.specs.declared.NormaliseError.TheVariants.{Refused, TooLarge, NoRoom}

-- 'The normal-form file is that, printed', in the policy's own edition.
abbrev pub form_file : Direction → Rules → List ℕ
form_file d rs = policy_text (format_of rs.edition) (as_policy d (form d rs))

-- 'A call for one way alone tries 22 for that way only; 31 comes last.'
abbrev pub normalised : ℕ → Direction → ℕ → Policy → Result ℕ NormaliseError
normalised limit d room (refused r) = Err (Refused r)
normalised limit d room (rows rs) =
    cond (leb (length (form d rs)) limit)
    (cond (leb (length (form_file d rs)) room) (Ok (length (form_file d rs))) (Err NoRoom))
    (Err (TooLarge d))

-- What stands in the lent bytes afterwards: 'a print that succeeds writes its bytes at the start and leaves the rest'; a refusal leaves all.
abbrev pub bytes_after : Direction → Rules → Result ℕ NormaliseError → List ℕ → List ℕ
bytes_after d rs (Ok n) room = form_file d rs ++ drop n room
bytes_after d rs (Err e) room = room

abbrev pub normalised_bytes : ℕ → Direction → List ℕ → Policy → List ℕ
normalised_bytes limit d room (refused r) = room
normalised_bytes limit d room (rows rs) = bytes_after d rs (normalised limit d (length room) (rows rs)) room

-- Document 01's numbers, and what they carry: the count of bytes, what a refusal carries, or the way, 1 for out and 2 for in.
abbrev pub normalised_number : Result ℕ NormaliseError → ℕ
normalised_number (Ok n) = 5
normalised_number (Err (Refused r)) = refusal_number r
normalised_number (Err (TooLarge d)) = 22
normalised_number (Err NoRoom) = 31

abbrev pub normalised_carries : Result ℕ NormaliseError → ℕ
normalised_carries (Ok n) = n
normalised_carries (Err (Refused r)) = refusal_carries r
normalised_carries (Err (TooLarge d)) = direction_number d
normalised_carries (Err NoRoom) = 0
