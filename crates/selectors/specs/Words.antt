-- Values, ranges and five ranges as words in a flat list. Assumes nothing: these are definitions.
-- A value is two words, the upper first; a range is its low end and its high end; a row's and a pair's five ranges, and a packet's five
-- values, stand in the order of the fields.
use Rattle.std.specs.Prelude.{ℕ, zero, suc, ◌+◌, ◌*◌, ◌/◌, ◌%◌, ◌^◌, Bool, ◌&&◌, List, [], ◌∷◌, ◌++◌, leb, length, get_or}
use Rattle.selectors.specs.Range.{Range, holds}
use Rattle.selectors.specs.Ranges.{ends_range}
use Rattle.selectors.specs.Value.{number}
use Rattle.selectors.specs.declared.ranges.Ends.{Ends}
use Rattle.selectors.specs.declared.Fields.{Fields}
use Rattle.selectors.specs.declared.Value.{Value}

-- How many fields there are, and the words of a value, of a range, and of a range for each field.
abbrev pub field_count : ℕ
field_count = 5

abbrev pub value_words : ℕ
value_words = 2

abbrev pub range_words : ℕ
range_words = 4

abbrev pub ranges_words : ℕ
ranges_words = field_count * range_words

-- Reading. The value of two words and the range of four, from the word i on. (A word that is not there is 0.)
unfoldable pub value_at : List ℕ → ℕ → Value
value_at ws i = record { upper = get_or ws i 0; lower = get_or ws (i + 1) 0 }

abbrev pub ends_at : List ℕ → ℕ → Ends
ends_at ws i = record { low = value_at ws i; high = value_at ws (i + 2) }

abbrev pub range_at : List ℕ → ℕ → Range
range_at ws i = ends_range (ends_at ws i)

-- The ranges of the five fields, as ranges and by their ends.
abbrev pub ranges_at : List ℕ → ℕ → List Range
ranges_at ws i = range_at ws i ∷ range_at ws (i + 4) ∷ range_at ws (i + 8) ∷ range_at ws (i + 12) ∷ range_at ws (i + 16) ∷ []

abbrev pub five_at : List ℕ → ℕ → Fields Ends
five_at ws i =
    record {
      local = ends_at ws i;
      remote = ends_at ws (i + 4);
      protocol = ends_at ws (i + 8);
      local_port = ends_at ws (i + 12);
      remote_port = ends_at ws (i + 16);
    }

-- n ranges from the field f on, of ranges that begin at the word i; and n values from the field f on.
unfoldable pub ranges_from : List ℕ → ℕ → ℕ → ℕ → List Range
ranges_from ws i f zero = []
ranges_from ws i f (suc n) = range_at ws (i + 4 * f) ∷ ranges_from ws i (f + 1) n

abbrev pub value_of : List ℕ → ℕ → ℕ
value_of ws f = number (value_at ws (2 * f))

unfoldable pub values_from : List ℕ → ℕ → ℕ → List ℕ
values_from ws f zero = []
values_from ws f (suc n) = value_of ws f ∷ values_from ws (f + 1) n

-- The five values of ten words, as numbers and as selectors.
abbrev pub values_of : List ℕ → List ℕ
values_of ws =
    number (value_at ws 0) ∷ number (value_at ws 2) ∷ number (value_at ws 4) ∷ number (value_at ws 6) ∷ number (value_at ws 8) ∷ []

unfoldable pub selectors_in : List ℕ → Fields Value
selectors_in ws =
    record {
      local = value_at ws 0;
      remote = value_at ws 2;
      protocol = value_at ws 4;
      local_port = value_at ws 6;
      remote_port = value_at ws 8;
    }

-- Whether the ranges of the first n fields, which begin at the word i, are there whole and hold the values of those fields.
unfoldable pub held_at : List ℕ → ℕ → List ℕ → ℕ → Bool
held_at ws i vs n = leb n field_count && (leb (i + range_words * n) (length ws) && holds (ranges_from ws i 0 n) (values_from vs 0 n))

-- Writing. A value's words are its quotient and its remainder by 2^64; ranges' words stand one after the other.
unfoldable pub words_of_value : ℕ → List ℕ
words_of_value n = n / 2 ^ 64 ∷ n % 2 ^ 64 ∷ []

abbrev pub words_of_range : Range → List ℕ
words_of_range r = words_of_value r.low ++ words_of_value r.high

abbrev pub words_of_ranges : List Range → List ℕ
words_of_ranges [] = []
words_of_ranges (r ∷ rs) = words_of_range r ++ words_of_ranges rs

-- Five selectors are ten words.
unfoldable pub words_of_selectors : Fields Value → List ℕ
words_of_selectors s =
    s.local.upper ∷ s.local.lower ∷ s.remote.upper ∷ s.remote.lower ∷ s.protocol.upper ∷ s.protocol.lower
    ∷ s.local_port.upper ∷ s.local_port.lower ∷ s.remote_port.upper ∷ s.remote_port.lower ∷ []
