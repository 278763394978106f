-- Laws of the words of a gateway that holds a policy. Assumes nothing.
use Rattle.std.specs.Prelude.{ℕ, ◌-◌, ◌*◌, ◌≤◌, min, ◌≡◌, refl, ◌↔◌, Result, Ok, Err, List, [], ◌∷◌, length, take, replicate}
use Rattle.std.proofs.Common.{arith, ap, ◌∙◌, length-append, drop_at, le-leb}
use Rattle.std.proofs.Math.Decide.{dec_le}
use Rattle.std.proofs.lemmas.List.{take-append-le}
use Rattle.std.proofs.lemmas.Bool.{lt-leb}
use Rattle.selectors.specs.declared.Direction.{Direction}
use Rattle.selectors.specs.declared.Direction.TheVariants.{Out, In}
use Rattle.normal_form.specs.Search.{Combination}
use Rattle.policy.specs.Policy.{ordered_search}
use Rattle.policy.specs.Words.{row_words, policy_rows, words_of_all}
use Rattle.policy_text.specs.declared.Edition.TheVariants.{One}
use Rattle.policy_text.specs.Editions.{edition_sizes, Rules, Policy, refused, rows}
use Rattle.decorrelate.specs.Form.{form, form_words, padded, form_room}
use Rattle.decorrelate.specs.AgreeLaws.{empty-form}
use Rattle.decorrelate.specs.FormLaws.{form_words-length, form_search}
use Rattle.decorrelate.specs.RoomLaws.{padded_size, padded_start}
use Rattle.acceptance.specs.declared.AcceptError.{AcceptError}
use Rattle.acceptance.specs.declared.AcceptError.TheVariants.{TooLarge}
use Rattle.acceptance.specs.Spd.{held_words, spd_words, no_rules, accepting, if_accepted, spd_after}
use Rattle.spd.specs.Words.{spd_size, address_of, rows_of, rows_at}

-- The words of the policy without rows.
pub empty-words : (capacity a : ℕ)
    → held_words a 0 (replicate (capacity * row_words) 0) 0 (replicate (capacity * row_words) 0) ≡ spd_words capacity a no_rules
unfolding words_of_all padded
empty-words capacity a =
    let e : capacity * row_words - length (form_words []) ≡ capacity * row_words = omega arith in
    rw (empty-form Out One, empty-form In One, e)

-- The normal form for each direction is within a number of rows.
pub record Within (most : ℕ) (rs : Rules) : Type 0 where
  pub out_within : length (form Out rs) ≤ most
  pub in_within : length (form In rs) ≤ most

pub empty_within : (most : ℕ) → Within most no_rules
empty_within most = record { out_within = rw (empty-form Out One) (omega arith); in_within = rw (empty-form In One) (omega arith) }

-- What is within the limit is within every capacity that carries it.
pub within_more : (limit capacity : ℕ) → limit ≤ capacity → (rs : Rules) → Within limit rs → Within capacity rs
within_more limit capacity bound rs w =
    record { out_within = omega (arith, bound, w.out_within); in_within = omega (arith, bound, w.in_within) }

-- The room of a direction, for `capacity` rows.
module _ (capacity : ℕ) (d : Direction) (rs : Rules) (h : length (form d rs) ≤ capacity) where
  room_size : length (form_room capacity d rs) ≡ capacity * row_words
  room_size = padded_size (capacity * row_words) (form_words (form d rs)) (omega (arith, form_words-length d rs))

  -- As many words as the rows have, at its start.
  rows_start : take (min (length (form d rs)) capacity * row_words) (form_room capacity d rs) ≡ form_words (form d rs)
  rows_start =
      padded_start (capacity * row_words) (form_words (form d rs)) (min (length (form d rs)) capacity * row_words) (omega (arith, form_words-length d rs))

-- A policy whose normal forms the words carry.
module _ (capacity address : ℕ) (rs : Rules) (w : Within capacity rs) where
  pub spd-size : length (spd_words capacity address rs) ≡ spd_size capacity
  spd-size = omega (arith, length-append (form_room capacity Out rs) (form_room capacity In rs), room_size capacity Out rs w.out_within, room_size capacity In rs w.in_within)

  pub spd-address : address_of (spd_words capacity address rs) ≡ address
  spd-address = refl

  -- The rows that the words hold for a direction are those of the policy's normal form.
  pub spd_rows : (d : Direction) → rows_of capacity (spd_words capacity address rs) d ≡ form_words (form d rs)
  spd_rows Out =
      take-append-le (min (length (form Out rs)) capacity * row_words) (form_room capacity Out rs) (form_room capacity In rs) (omega (arith, room_size capacity Out rs w.out_within))
      ∙ rows_start capacity Out rs w.out_within
  spd_rows In =
      ap (take (min (length (form In rs)) capacity * row_words))
      (drop_at (address ∷ length (form Out rs) ∷ length (form In rs) ∷ form_room capacity Out rs) (form_room capacity In rs) (rows_at capacity In) (omega (arith, room_size capacity Out rs w.out_within)))
      ∙ rows_start capacity In rs w.in_within

  -- Searching them is searching the policy.
  pub spd_search : (d : Direction) (vs : List ℕ) → Combination (edition_sizes rs.edition) vs
      → ordered_search d (policy_rows (rows_of capacity (spd_words capacity address rs) d)) vs ≡ ordered_search d rs.entries vs
  spd_search d vs ok = rw (spd_rows d) (form_search d rs d vs ok)

-- A policy of these rows is accepted exactly where both normal forms are within the limit.
pub accepted_exactly : (limit : ℕ) (rs : Rules) → (accepting limit (rows rs) ≡ Ok tt) ↔ Within limit rs
accepted_exactly limit rs = by (dec_le (length (form Out rs)) limit) (dec_le (length (form In rs)) limit)
  where
    refused_as : (d : Direction) → ◌≡◌ {A = Result Unit AcceptError} (Err (TooLarge d)) (Ok tt) → ⊥
    refused_as d e = let z : ◌≡◌ {A = ℕ} 0 1 = cc in omega arith

    by : Dec (length (form Out rs) ≤ limit) → Dec (length (form In rs) ≤ limit) → (accepting limit (rows rs) ≡ Ok tt) ↔ Within limit rs
    by (yes g) (yes h) =
        (λ e. record { out_within = g; in_within = h }, λ w. rw (le-leb (length (form Out rs)) limit g, le-leb (length (form In rs)) limit h))
    by (yes g) (no h) = (
      λ e. absurd (refused_as In (rw (le-leb (length (form Out rs)) limit g, lt-leb (length (form In rs)) limit (omega arith)) at e)),
      λ w. absurd (h w.in_within),
    )
    by (no g) d = (λ e. absurd (refused_as Out (rw (lt-leb (length (form Out rs)) limit (omega arith)) at e)), λ w. absurd (g w.out_within))

-- The address is 'never changed'.
pub address_kept : (capacity limit : ℕ) (ws : List ℕ) (p : Policy) → address_of (spd_after capacity limit ws p) ≡ address_of ws
address_kept capacity limit ws (refused p) = refl
address_kept capacity limit ws (rows rs) = by (accepting limit (rows rs))
  where
    by : (a : Result Unit AcceptError) → address_of (if_accepted a (spd_words capacity (address_of ws) rs) ws) ≡ address_of ws
    by (Ok u) = refl
    by (Err e) = refl
