-- The table of SA pairs as words, and what any words mean (document 01, 'Cache and associations'). Assumes nothing: these are definitions.
-- 64 places of 24 words each: protocol, inbound SPI, outbound SPI, protect number, and a range for each of five fields.
use Rattle.std.specs.Prelude.{ℕ, zero, suc, ◌+◌, ◌*◌, Bool, true, false, not, cond, ◌&&◌, ◌||◌, Option, Some, None, Result, Ok, Err, List, [], ◌∷◌, ltb, leb, eqb, length, get_or, set}
use Rattle.std.proofs.lemmas.List.Edits.{sets}
use Rattle.selectors.specs.Range.{Range, in_field, address_size, protocol_size, port_size, holds}
use Rattle.selectors.specs.Ranges.{ends_range, five_ranges}
use Rattle.selectors.specs.Words.{ranges_words, ranges_at, words_of_ranges}
use Rattle.selectors.specs.declared.Fields.{Fields}
use Rattle.selectors.specs.declared.ranges.Ends.{Ends}
use Rattle.sad.specs.declared.NewPair.{NewPair}
use Rattle.sad.specs.declared.PairError.{PairError}
use Rattle.sad.specs.declared.PairError.TheVariants.{ReservedSpi, AlreadyLive, TableFull, BadPair, NothingToRemove}
use Rattle.sad.specs.declared.Sa.{Sa}
use Rattle.sad.specs.declared.Head.{Head}

-- 'An association pair: protocol (50 ESP, 51 AH), inbound SPI, outbound SPI, protect number, five ranges.'
pub record Pair : Type 0 where
  pub protocol : ℕ
  pub inbound_spi : ℕ
  pub outbound_spi : ℕ
  pub number : ℕ
  pub ranges : List Range

-- 'At most 64 live pairs.'
abbrev pub place_count : ℕ
place_count = 64

-- The words of a place before its ranges, of a place, and of the table.
abbrev pub head_words : ℕ
head_words = 4

abbrev pub place_words : ℕ
place_words = head_words + ranges_words

abbrev pub table_words : ℕ
table_words = place_count * place_words

-- The protocols: ESP or AH.
abbrev pub esp_protocol : ℕ
esp_protocol = 50

abbrev pub ah_protocol : ℕ
ah_protocol = 51

abbrev pub ipsec : ℕ → Bool
ipsec protocol = eqb protocol esp_protocol || eqb protocol ah_protocol

-- The pair at a place, and whether it is live: whether its protocol is ESP or AH.
unfoldable pub pair_at : List ℕ → ℕ → Pair
pair_at ws i =
    record {
      protocol = get_or ws (i * place_words) 0;
      inbound_spi = get_or ws (i * place_words + 1) 0;
      outbound_spi = get_or ws (i * place_words + 2) 0;
      number = get_or ws (i * place_words + 3) 0;
      ranges = ranges_at ws (i * place_words + head_words);
    }

abbrev pub is_live_at : List ℕ → ℕ → Bool
is_live_at ws i = ipsec (get_or ws (i * place_words) 0)

-- The live pairs of n places from the place i on, and those of the table, in the places' order.
unfoldable pub pairs_from : List ℕ → ℕ → ℕ → List Pair
pairs_from ws i zero = []
pairs_from ws i (suc n) = cond (is_live_at ws i) (pair_at ws i ∷ pairs_from ws (suc i) n) (pairs_from ws (suc i) n)

abbrev pub pairs : List ℕ → List Pair
pairs ws = pairs_from ws 0 place_count

-- 'Protocol and inbound SPI name a pair.'
abbrev pub named : ℕ → ℕ → Pair → Bool
named protocol spi q = eqb q.protocol protocol && eqb q.inbound_spi spi

-- Whether a pair of that name is live.
unfoldable pub live : ℕ → ℕ → List Pair → Bool
live protocol spi [] = false
live protocol spi (q ∷ qs) = cond (named protocol spi q) true (live protocol spi qs)

-- Whether a pair of that name is live and its ranges hold the values.
unfoldable pub fitting : ℕ → ℕ → List ℕ → List Pair → Bool
fitting protocol spi vs [] = false
fitting protocol spi vs (q ∷ qs) = cond (named protocol spi q) (holds q.ranges vs) (fitting protocol spi vs qs)

-- 'Among live pairs with number N whose ranges hold the values, the smallest inbound SPI, ESP before AH on a tie.'
unfoldable pub wanted : ℕ → List ℕ → Pair → Bool
wanted number vs q = eqb q.number number && holds q.ranges vs

unfoldable pub before : Pair → Pair → Bool
before q b = ltb q.inbound_spi b.inbound_spi || (eqb q.inbound_spi b.inbound_spi && ltb q.protocol b.protocol)

-- Whether a pair beats the best so far.
abbrev pub beats : Pair → Option Pair → Bool
beats q None = true
beats q (Some b) = before q b

unfoldable pub best_of : ℕ → List ℕ → Option Pair → List Pair → Option Pair
best_of number vs b [] = b
best_of number vs b (q ∷ qs) = best_of number vs (cond (wanted number vs q && beats q b) (Some q) b) qs

-- The pair's protocol and outbound SPI.
abbrev pub found_sa : Pair → Sa
found_sa q = record { protocol = q.protocol; spi = q.outbound_spi }

abbrev pub found_pair : Option Pair → Option Sa
found_pair None = None
found_pair (Some q) = Some (found_sa q)

unfoldable pub pair_for : ℕ → List ℕ → List Pair → Option Sa
pair_for number vs qs = found_pair (best_of number vs None qs)

-- By places, as the code searches. The first of n places from the place i on for which a test holds.
unfoldable pub first_from : (ℕ → Bool) → ℕ → ℕ → Option ℕ
first_from test i zero = None
first_from test i (suc n) = cond (test i) (Some i) (first_from test (suc i) n)

-- The place of a live pair of that name.
abbrev pub named_at : List ℕ → ℕ → ℕ → ℕ → Bool
named_at ws protocol spi i = is_live_at ws i && named protocol spi (pair_at ws i)

abbrev pub place_of : List ℕ → ℕ → ℕ → Option ℕ
place_of ws protocol spi = first_from (named_at ws protocol spi) 0 place_count

-- Whether there is such a place and its ranges hold the values. That a pair lives there is not asked.
unfoldable pub fits_at : List ℕ → ℕ → List ℕ → Bool
fits_at ws i vs = ltb i place_count && holds (pair_at ws i).ranges vs

-- The lowest free place.
abbrev pub free_at : List ℕ → ℕ → Bool
free_at ws i = not (is_live_at ws i)

abbrev pub free_place : List ℕ → Option ℕ
free_place ws = first_from (free_at ws) 0 place_count

-- What the words of a place before its ranges say of its pair, and whether such words beat the best so far.
abbrev pub head_of : Pair → Head
head_of q = record { protocol = q.protocol; spi_in = q.inbound_spi; spi_out = q.outbound_spi; number = q.number }

abbrev pub head_beats : Head → Option Head → Bool
head_beats h None = true
head_beats h (Some b) = ltb h.spi_in b.spi_in || (eqb h.spi_in b.spi_in && ltb h.protocol b.protocol)

-- What adding and removing a pair answer.
abbrev pub Outcome : Type 0
Outcome = Result (Unit {0}) PairError

abbrev pub done : Outcome
done = Ok tt

-- Document 01's numbers.
abbrev pub outcome_number : Outcome → ℕ
outcome_number (Ok unit) = 5
outcome_number (Err ReservedSpi) = 25
outcome_number (Err AlreadyLive) = 26
outcome_number (Err TableFull) = 27
outcome_number (Err BadPair) = 28
outcome_number (Err NothingToRemove) = 29

-- 'Either SPI below 256.'
abbrev pub first_spi : ℕ
first_spi = 256

unfoldable pub reserved_spi : NewPair → Bool
reserved_spi p = ltb p.spi_in first_spi || ltb p.spi_out first_spi

-- 'Protocol not 50 or 51, number not 1 to 255, a range value beyond its field, or low above high' makes a pair a bad one.
abbrev pub last_number : ℕ
last_number = 255

abbrev pub ends_in : ℕ → Ends → Bool
ends_in size e = in_field size (ends_range e)

unfoldable pub ranges_in_fields : Fields Ends → Bool
ranges_in_fields r =
    ends_in address_size r.local
    && ends_in address_size r.remote
    && ends_in protocol_size r.protocol
    && ends_in port_size r.local_port
    && ends_in port_size r.remote_port

unfoldable pub well_formed : NewPair → Bool
well_formed p = ipsec p.protocol && leb 1 p.number && leb p.number last_number && ranges_in_fields p.ranges

-- 'An added pair: 25, 28, 26, 27.'
unfoldable pub add_outcome : List Pair → NewPair → Outcome
add_outcome qs p =
    cond (reserved_spi p) (Err ReservedSpi)
    (cond (not (well_formed p)) (Err BadPair)
    (cond (live p.protocol p.spi_in qs) (Err AlreadyLive)
    (cond (leb place_count (length qs)) (Err TableFull) done)))

-- The pair that is added, and its words.
abbrev pub new_pair : NewPair → Pair
new_pair p =
    record {
      protocol = p.protocol;
      inbound_spi = p.spi_in;
      outbound_spi = p.spi_out;
      number = p.number;
      ranges = five_ranges p.ranges;
    }

unfoldable pub pair_words : NewPair → List ℕ
pair_words p = p.protocol ∷ p.spi_in ∷ p.spi_out ∷ p.number ∷ words_of_ranges (five_ranges p.ranges)

abbrev pub put_at : List ℕ → NewPair → Option ℕ → List ℕ
put_at ws p (Some i) = sets ws (i * place_words) (pair_words p)
put_at ws p None = ws

-- The table afterwards: a refusal changes nothing.
abbrev pub added_if : List ℕ → NewPair → Outcome → List ℕ
added_if ws p (Ok unit) = put_at ws p (free_place ws)
added_if ws p (Err e) = ws

unfoldable pub added : List ℕ → NewPair → List ℕ
added ws p = added_if ws p (add_outcome (pairs ws) p)

-- 'A removal, whatever it names: 29 only.'
unfoldable pub remove_outcome : List Pair → ℕ → ℕ → Outcome
remove_outcome qs protocol spi = cond (live protocol spi qs) done (Err NothingToRemove)

abbrev pub cleared_at : List ℕ → Option ℕ → List ℕ
cleared_at ws (Some i) = set ws (i * place_words) 0
cleared_at ws None = ws

unfoldable pub removed : List ℕ → ℕ → ℕ → List ℕ
removed ws protocol spi = cleared_at ws (place_of ws protocol spi)
