-- Laws of stored texts. Assumes nothing.
use Prim.Native.Nat.{ℕ, zero, suc, ◌+◌, ◌-◌, ◌*◌, ◌/◌, ◌%◌, ◌^◌, ◌≤◌, ◌<◌}
use native.Mathlib.Omega.{arith}
use Rattle.std.proofs.Common.{pow-suc, add-zero, zero-add, mod-eq_of_lt, sym, ap, ◌∙◌, length-append, lt-ltb, le-ltb, le-leb}
use Rattle.std.proofs.Math.Decide.{dec_lt}
use Rattle.std.proofs.Math.Nat.{mul-add-mod_self_right}
use Rattle.std.proofs.Math.Numerals.{add-one}
use Rattle.std.specs.Prelude.{◌≡◌, refl, Ok, Err, List, [], ◌∷◌, ◌++◌, map, Bool, true, false, eqb, length, get_or, drop, set}
use Rattle.std.proofs.lemmas.List.Edits.{sets, sets-eq}
use Rattle.std.proofs.Math.Seq.{length-sets}
use Rattle.std.proofs.lemmas.Bool.{lt-leb}
use Rattle.selectors.specs.Range.{Range, full, same_range, absent}
use Rattle.selectors.specs.Value.{number}
use Rattle.selectors.proofs.ValueLaws.{number-lower}
use Rattle.selectors.specs.Words.{range_at}
use Rattle.selectors.specs.declared.Value.{Value}
use Rattle.selectors.specs.declared.Direction.{Direction}
use Rattle.selectors.specs.declared.Direction.TheVariants.{Out, In}
use Rattle.policy.specs.declared.RowDirection.TheVariants.{Only}
use Rattle.policy.specs.Policy.{PolicyRow}
use Rattle.policy.specs.Words.{row_words, action_of_word, row_at, rows_from, policy_rows}
use Rattle.policy_text.specs.declared.Edition.{Edition}
use Rattle.policy_text.specs.declared.Edition.TheVariants.{One}
use Rattle.policy_text.specs.Bytes.{dash}
use Rattle.policy_text.proofs.BytesLaws.{left_more, left_none}
use Rattle.policy_text.specs.Decimals.{last_digits, decimal_text}
use Rattle.policy_text.specs.Format.{any}
use Rattle.policy_text.specs.Edition1.{opaque_word, lower, dotted, address_text, protocol_text, port_text, action_text, edition1}
use Rattle.policy_text.specs.Print.{range_text, ranges_text, direction_text, row_text, line_text, rows_text, policy_text, toward}
use Rattle.selectors.proofs.StoresLaws.{sets_more}
use Rattle.policy_text.proofs.PrintLaws.{action_most, ranges_most}
use Rattle.policy_print.specs.declared.Writer.{Writer}
use Rattle.policy_print.specs.Printing.{Put, printed, no_room, printed_in, printed_room}
use Rattle.policy_print.specs.Writing.{Puts}

-- A text stored after another, and no text.
pub put_then : {r₀ r₁ r₂ : List ℕ} {a n₁ n₂ : ℕ} {xs ys : List ℕ} → Put r₀ a xs r₁ n₁ → Put r₁ n₁ ys r₂ n₂ → Put r₀ a (xs ++ ys) r₂ n₂
put_then {r₀} {r₁} {r₂} {a} {n₁} {n₂} {xs} {ys} p q = record {
  place = omega (arith, length-append xs ys, p.place, q.place);
  bytes = q.bytes ∙ rw (p.bytes, p.place) (sets_more r₀ a xs ys);
}

pub put_none : {r : List ℕ} {a : ℕ} → Put r a [] r a
put_none {r} {a} = record { place = sym (add-zero a); bytes = refl }

-- The room is as long as it was.
pub put-length : {r r' : List ℕ} {a n : ℕ} {xs : List ℕ} → Put r a xs r' n → length r' ≡ length r
put-length {r} {r'} {a} {n} {xs} p = rw p.bytes (length-sets r a xs)

-- What is left of a text after a part of it is stored.
pub put_rest : {r r' : List ℕ} {a n : ℕ} {xs : List ℕ} (ys : List ℕ) → Put r a xs r' n → sets r a (xs ++ ys) ≡ sets r' n ys
put_rest {r} {r'} {a} {n} {xs} ys p = rw (p.bytes, p.place) (sym (sets_more r a xs ys))

-- What a writer puts is stored in its room, from its place on.
pub puts_put : {a b : Writer} {xs : List ℕ} → Puts a xs b → a.at + length xs < 2 ^ 64 → Put a.out.now a.at xs b.out.now b.at
puts_put {a} {b} {xs} p h = record { place = p.place h; bytes = p.bytes h }

-- One byte of a text.
pub text_more : (room : List ℕ) (at : ℕ) (text : List ℕ) (i : ℕ) → i < length text
    → sets room at (drop i text) ≡ sets (set room at (get_or text i 0)) (at + 1) (drop (i + 1) text)
text_more room at text i h = rw (left_more text i h, add-one at)

pub text_none : (room : List ℕ) (at : ℕ) (text : List ℕ) (i : ℕ) → length text ≤ i → sets room at (drop i text) ≡ room
text_none room at text i h = rw (left_none text i h)

-- A text put after another, and no text.
pub puts_then : {a b c : Writer} {xs ys : List ℕ} → Puts a xs b → Puts b ys c → Puts a (xs ++ ys) c
puts_then {a} {b} {c} {xs} {ys} p q = record {
  same_room = q.same_room ∙ p.same_room;
  place = λ h.
      let e : b.at ≡ a.at + length xs = p.place (omega (arith, length-append xs ys)) in
      let f : c.at ≡ b.at + length ys = q.place (omega (arith, length-append xs ys)) in
      omega (arith, length-append xs ys);
  bytes = λ h.
      let e : b.at ≡ a.at + length xs = p.place (omega (arith, length-append xs ys)) in
      q.bytes (omega (arith, length-append xs ys))
      ∙ rw (p.bytes (omega (arith, length-append xs ys)), e) (sets_more a.out.now a.at xs ys);
}

pub puts_none : {w : Writer} → Puts w [] w
puts_none {w} = record { same_room = refl; place = λ h. omega arith; bytes = λ h. refl }

-- Room for one more digit changes nothing of a number that has no more.
digits_enough : (k n : ℕ) → n < 10 ^ suc k → last_digits (suc (suc k)) n ≡ last_digits (suc k) n
unfolding last_digits
digits_enough zero n h = rw (lt-ltb n 10 h)
digits_enough (suc k) n h = by (dec_lt n 10) (digits_enough k (n / 10) (omega (arith, rw (pow-suc 10 (suc k)) at h)))
  where
    by : Dec (n < 10) → last_digits (suc (suc k)) (n / 10) ≡ last_digits (suc k) (n / 10)
        → last_digits (suc (suc (suc k))) n ≡ last_digits (suc (suc k)) n
    by (yes l) e = rw (lt-ltb n 10 l)
    by (no l) e = rw (le-ltb n 10 (omega arith)) (ap (λ (t : List ℕ). t ++ ((48 + n % 10) ∷ [])) e)

-- The digits of a number, one and more.
pub digits_none : (k n : ℕ) → k ≡ 0 → last_digits k n ≡ []
unfolding last_digits
digits_none k n e = rw e

pub digits_one : (k n : ℕ) → (k ≡ 0 → ⊥) → n < 10 → last_digits k n ≡ (48 + n) ∷ []
unfolding last_digits
digits_one zero n z h = absurd (z refl)
digits_one (suc k) n z h = rw (lt-ltb n 10 h)

pub digits_more : (k n : ℕ) → (k ≡ 0 → ⊥) → 10 ≤ n → last_digits k n ≡ last_digits (k - 1) (n / 10) ++ ((48 + n % 10) ∷ [])
unfolding last_digits
digits_more zero n z h = absurd (z refl)
digits_more (suc k) n z h = let e : suc k - 1 ≡ k = omega arith in rw (e, le-ltb n 10 h)

-- A decimal of one digit, and of more.
pub decimal_one : (n : ℕ) → n < 10 → decimal_text n ≡ (48 + n % 10) ∷ []
unfolding decimal_text last_digits
decimal_one n h = rw (lt-ltb n 10 h, mod-eq_of_lt h)

digits_suc : (k n : ℕ) → 10 ≤ n → last_digits (suc k) n ≡ last_digits k (n / 10) ++ ((48 + n % 10) ∷ [])
unfolding last_digits
digits_suc k n h = rw (le-ltb n 10 h)

pub decimal_more : (n : ℕ) → 10 ≤ n → n < 2 ^ 64 → decimal_text n ≡ decimal_text (n / 10) ++ ((48 + n % 10) ∷ [])
unfolding decimal_text
decimal_more n g h = rw (digits_enough 18 (n / 10) (omega arith)) (digits_suc 19 n g)

-- A value's lower word is what is printed of it.
pub lower-number : (v : Value) → v.lower < 2 ^ 64 → lower (number v) ≡ v.lower
unfolding number
lower-number v h = mul-add-mod_self_right v.upper (2 ^ 64) v.lower ∙ mod-eq_of_lt h

pub port-opaque : (v : Value) → eqb (number v) (number (record { upper = 0; lower = 65536 })) ≡ true → port_text (number v) ≡ opaque_word
unfolding port_text
port-opaque v e = let a : eqb (number v) absent ≡ true = rw (number-lower (record { upper = 0; lower = 65536 }) refl) at e in rw a

pub port-number : (v : Value) → v.lower < 2 ^ 64 → eqb (number v) (number (record { upper = 0; lower = 65536 })) ≡ false
    → port_text (number v) ≡ decimal_text v.lower
unfolding port_text
port-number v h e =
    let a : eqb (number v) absent ≡ false = rw (number-lower (record { upper = 0; lower = 65536 }) refl) at e in
    rw (a, lower-number v h)

-- An address and a protocol are printed by their lower words.
pub address-text : (v : Value) → v.lower < 2 ^ 64 → address_text (number v) ≡ dotted v.lower
unfolding address_text
address-text v h = rw (lower-number v h)

pub protocol-text : (v : Value) → v.lower < 2 ^ 64 → protocol_text (number v) ≡ decimal_text v.lower
unfolding protocol_text
protocol-text v h = rw (lower-number v h)

-- A range: all of its field, one value, or two ends; the low end is never longer than the whole.
module _ (size : ℕ) (text : ℕ → List ℕ) (r : Range) where
  pub all_text : same_range r (full size) ≡ true → range_text size text r ≡ any
  unfolding range_text
  all_text a = rw a

  pub one_text : same_range r (full size) ≡ false → eqb r.low r.high ≡ true → range_text size text r ≡ text r.low
  unfolding range_text
  one_text a s = rw (a, s)

  pub two_text : same_range r (full size) ≡ false → eqb r.low r.high ≡ false
      → range_text size text r ≡ text r.low ++ (dash ∷ text r.high)
  unfolding range_text
  two_text a s = rw (a, s)

  pub low_fits : same_range r (full size) ≡ false → length (text r.low) ≤ length (range_text size text r)
  low_fits a = by (eqb r.low r.high) refl
    where
      by : (b : Bool) → eqb r.low r.high ≡ b → length (text r.low) ≤ length (range_text size text r)
      by true s = rw (one_text a s) (omega arith)
      by false s = rw (two_text a s) (omega (arith, length-append (text r.low) (dash ∷ text r.high)))

-- The text of the rows that are left: that of the first one, and of the rows after it.
module _ (d : Direction) (ws : List ℕ) (i count : ℕ) where
  pub rows_more : i < count
      → rows_text edition1 (map (toward d) (rows_from ws i (count - i)))
      ≡ line_text edition1 (toward d (row_at ws (i * row_words))) ++ rows_text edition1 (map (toward d) (rows_from ws (i + 1) (count - (i + 1))))
  unfolding rows_text rows_from
  rows_more h = let e : count - i ≡ suc (count - (i + 1)) = omega arith in rw (e, add-one i)

  pub rows_none : count ≤ i → rows_text edition1 (map (toward d) (rows_from ws i (count - i))) ≡ []
  unfolding rows_text rows_from
  rows_none h = let e : count - i ≡ zero = omega arith in rw e

-- Whatever its words, a row is printed in at most 291 bytes.
direction_most : (d : Direction) → length (direction_text (Only d)) ≤ 3
direction_most Out = omega arith
direction_most In = omega arith

pub line_most : (d : Direction) (ws : List ℕ) (at : ℕ) → length (line_text edition1 (toward d (row_at ws at))) ≤ 291
unfolding row_text row_at
line_most d ws at =
    simp length-append
    (omega (
      arith,
      direction_most d,
      action_most (action_of_word (get_or ws (at + 1) 0)),
      simp length-append at (ranges_most (range_at ws (at + 2)) (range_at ws (at + 2 + 4)) (range_at ws (at + 2 + 8)) (range_at ws (at + 2 + 12)) (range_at ws (at + 2 + 16))),
    ))

pub rows_most : (d : Direction) (ws : List ℕ) (i n : ℕ) → length (rows_text edition1 (map (toward d) (rows_from ws i n))) ≤ n * 291
unfolding rows_text rows_from
rows_most d ws i zero = omega arith
rows_most d ws i (suc n) =
    rw length-append (omega (arith, line_most d ws (i * row_words), rows_most d ws (suc i) n))

-- A row's line, by its parts.
pub line-length : (r : PolicyRow)
    → length (line_text edition1 r) ≡ length (direction_text r.direction) + 1 + length (action_text r.action) + length (ranges_text edition1 r.ranges) + 1
unfolding row_text
line-length r = simp length-append (omega arith)

-- Rows that fit in memory print to fewer than 2^64 bytes.
pub printed_most : (e : Edition) (d : Direction) (ws : List ℕ) → length ws < 2 ^ 60 → 0 + length (printed e d (policy_rows ws)) < 2 ^ 64
unfolding policy_text
printed_most One d ws h = omega (arith, rows_most d ws 0 (length ws / row_words))

-- What printing a text of n bytes answers and leaves: it is too long for the room, or it stands at its start.
module _ (room text : List ℕ) (n : ℕ) (e : n ≡ length text) where
  pub printed_short : length room < n → (printed_in (length room) text ≡ Err no_room) × (printed_room room text ≡ room)
  printed_short h =
      let l : length room < length text = omega arith in
      (rw (lt-leb (length text) (length room) l), rw (lt-leb (length text) (length room) l))

  pub printed_fits : n ≤ length room → (printed_in (length room) text ≡ Ok n) × (printed_room room text ≡ sets room 0 text)
  printed_fits h =
      let l : length text ≤ length room = omega arith in
      let m : n ≡ length text = omega arith in (
        rw (le-leb (length text) (length room) l, m),
        rw (le-leb (length text) (length room) l) (sym (sets-eq text room 0 (omega arith) ∙ rw zero-add)),
      )
