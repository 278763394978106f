-- Laws of entries. Assumes nothing.
use Rattle.std.specs.Prelude.{ℕ, ◌≡◌, refl, List, [], length, Option as Perhaps, Some, None}
use Rattle.std.proofs.Common.{sym, ap, ◌∙◌}
use Rattle.std.proofs.Math.Option.{Option, none, some}
use Rattle.selectors.specs.Range.{Range}
use Rattle.selectors.specs.Ranges.{address_of, protocol_of, port_of}
use Rattle.selectors.specs.Value.{number}
use Rattle.selectors.proofs.ValueLaws.{number-lower}
use Rattle.policy.specs.declared.Action.{Action}
use Rattle.policy.specs.declared.RowDirection.{RowDirection}
use Rattle.policy.specs.Policy.{PolicyRow}
use Rattle.policy.specs.declared.Row.{Row}
use Rattle.policy.proofs.WrittenLaws.{record-length}
use Rattle.policy_text.specs.Format.{direction_field, field, fields_from, row_made_of, row_of, onto_range, ranges_from}
use Rattle.policy_text.specs.Edition1.{address_field, protocol_field, port_field, action_field, edition1}
use Rattle.policy.specs.Words.{row_words, words_of_row, words_of_record}
use Rattle.policy_fields.specs.Answers.{small, range_for, perhaps, entry_for, entry_of, text_words}

-- An entry stands for a row: there is none without the other, and the words are the same.
abbrev pub EntryIs : Perhaps Row → Option PolicyRow → Type 0
EntryIs None none = Unit
EntryIs None (some r) = ⊥
EntryIs (Some e) none = ⊥
EntryIs (Some e) (some r) = words_of_record e ≡ words_of_row r

number_small : (n : ℕ) → number (small n) ≡ n
number_small n = number-lower (small n) refl

seven : (d : Option RowDirection) (a : Option Action) (l r p x y : Option Range)
    → EntryIs (entry_for (perhaps d) (perhaps a) (range_for address_of l) (range_for address_of r) (range_for protocol_of p) (range_for port_of x) (range_for port_of y)) (row_made_of d a (onto_range l (onto_range r (onto_range p (onto_range x (onto_range y (some [])))))))
seven none a l r p x y = tt
seven (some d) none l r p x y = tt
seven (some d) (some a) none r p x y = tt
seven (some d) (some a) (some l) none p x y = tt
seven (some d) (some a) (some l) (some r) none x y = tt
seven (some d) (some a) (some l) (some r) (some p) none y = tt
seven (some d) (some a) (some l) (some r) (some p) (some x) none = tt
seven (some d) (some a) (some l) (some r) (some p) (some x) (some y) = simp number_small

pub entry_is : (s : List ℕ) → EntryIs (entry_of s) (row_of edition1 s)
unfolding entry_of row_of ranges_from
entry_is s =
    seven (direction_field (field 0 s)) (action_field (field 1 s)) (address_field (field 2 s)) (address_field (field 3 s)) (protocol_field (field 4 s))
    (port_field (field 5 s)) (port_field (fields_from 6 s))

row_none : (o : Option PolicyRow) → EntryIs None o → o ≡ none
row_none none h = refl
row_none (some r) h = absurd h

row_some : (e : Row) (o : Option PolicyRow) → EntryIs (Some e) o → (r : PolicyRow) × ((o ≡ some r) × (words_of_record e ≡ words_of_row r))
row_some e none h = absurd h
row_some e (some r) h = (r, (refl, h))

-- A line whose entry is bad is no row, and a line whose entry is none is one.
pub bad_none : (l : List ℕ) → entry_of l ≡ None → row_of edition1 l ≡ none
bad_none l e = row_none (row_of edition1 l) (rw e at (entry_is l))

pub entry_some : (l : List ℕ) (e : Row) → entry_of l ≡ Some e → (r : PolicyRow) × ((row_of edition1 l ≡ some r) × (words_of_record e ≡ words_of_row r))
entry_some l e q = row_some e (row_of edition1 l) (rw q at (entry_is l))

words_some : (t : Perhaps Row) (r : PolicyRow) → EntryIs t (some r) → (text_words t ≡ words_of_row r) × (length (words_of_row r) ≡ row_words)
words_some None r h = absurd h
words_some (Some e) r h = (h, sym (ap length h) ∙ record-length e)

-- The words of a line that is a row.
pub line-words : (l : List ℕ) (r : PolicyRow) → row_of edition1 l ≡ some r → (text_words (entry_of l) ≡ words_of_row r) × (length (words_of_row r) ≡ row_words)
line-words l r q = words_some (entry_of l) r (rw q at (entry_is l))
