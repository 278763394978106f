-- The editions of the policy file, and the file (document 01; docs/RULES.md, 'The policy file'). Assumes nothing: these are definitions.
use Rattle.std.specs.Prelude.{ℕ, ◌-◌, Bool, cond, List, [], ◌∷◌, leb, eqb, length, get_or, take, drop}
use Rattle.std.proofs.Math.Option.{Option, none, some}
use Rattle.policy.specs.Policy.{PolicyRow}
use Rattle.policy_text.specs.declared.Edition.{Edition}
use Rattle.policy_text.specs.declared.Edition.TheVariants.{One}
use Rattle.policy_text.specs.declared.Refusal.{Refusal}
use Rattle.policy_text.specs.declared.Refusal.TheVariants.{NotHeader, NotEnded, TooMany, BadRow}
use Rattle.policy_text.specs.Bytes.{lf, count, are_same_bytes}
use Rattle.policy_text.specs.Format.{Format, sizes, lines_of, Lines, all_rows, bad_row, rows_of}
use Rattle.policy_text.specs.Edition1.{edition1}

abbrev pub format_of : Edition → Format
format_of One = edition1

abbrev pub edition_sizes : Edition → List ℕ
edition_sizes e = sizes (format_of e)

abbrev pub editions : List Edition
editions = One ∷ []

-- The edition of a file: that whose header line the file begins with.
abbrev pub headed : Format → List ℕ → Bool
headed f s = are_same_bytes (take (length f.header) s) f.header

unfoldable pub edition_among : List Edition → List ℕ → Option Edition
edition_among [] s = none
edition_among (e ∷ es) s = cond (headed (format_of e) s) (some e) (edition_among es s)

abbrev pub edition_of : List ℕ → Option Edition
edition_of s = edition_among editions s

-- What a file of an edition has after its header line: every LF there ends a row.
abbrev pub body_of : Edition → List ℕ → List ℕ
body_of e s = drop (length (format_of e).header) s

abbrev pub row_count : Edition → List ℕ → ℕ
row_count e s = count lf (body_of e s)

abbrev pub row_lines : Edition → List ℕ → List (List ℕ)
row_lines e s = lines_of (row_count e s) (body_of e s)

-- The rules of a policy: its edition, and its rows.
pub record Rules : Type 0 where
  pub edition : Edition
  pub entries : List PolicyRow

abbrev pub rules : Edition → List PolicyRow → Rules
rules e rs = record { edition = e; entries = rs }

-- What a file is: a refusal, or the rules of a policy.
pub data Policy : Type 0 where
  refused : Refusal → Policy
  rows : Rules → Policy

abbrev pub policy_of : Edition → Lines → Policy
policy_of e (all_rows rs) = rows (rules e rs)
policy_of e (bad_row i) = refused (BadRow i)

-- 'A policy is checked in the order 23, 24, 21, 20': 'first nine bytes aren't the header line', 'last byte isn't LF', more rows than the
-- limit, 'bad row'.
abbrev pub checked : ℕ → List ℕ → Option Edition → Policy
checked limit s none = refused NotHeader
checked limit s (some e) =
    cond (eqb (get_or s (length s - 1) 0) lf)
    (cond (leb (row_count e s) limit) (policy_of e (rows_of (format_of e) 1 (row_lines e s))) (refused TooMany))
    (refused NotEnded)

unfoldable pub parse_policy : ℕ → List ℕ → Policy
parse_policy limit s = checked limit s (edition_of s)

-- Document 01's number of a refusal, and what it carries: a bad row 'its number, first row 1'.
abbrev pub refusal_number : Refusal → ℕ
refusal_number NotHeader = 23
refusal_number NotEnded = 24
refusal_number TooMany = 21
refusal_number (BadRow i) = 20

abbrev pub refusal_carries : Refusal → ℕ
refusal_carries NotHeader = 0
refusal_carries NotEnded = 0
refusal_carries TooMany = 0
refusal_carries (BadRow i) = i
