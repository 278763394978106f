-- Ranges of any field, printed and read. Assumes nothing.
use Rattle.std.specs.Prelude.{ℕ, suc, ◌+◌, ◌≤◌, ◌<◌, ◌≡◌, Bool, cond, List, ◌∷◌, ◌++◌, leb, ltb, length, Some, None}
use Rattle.std.proofs.Common.{arith, sym, ◌∙◌}
use Rattle.std.proofs.Math.Path.{refl, ap}
use Rattle.std.proofs.Math.Bool.{true, false}
use Rattle.std.proofs.Math.Option.{Option, none, some}
use Rattle.std.proofs.Math.Dec.{eqb}
use borrow.Author.Tests.{leb-true, ltb-true, le-leb, lt-ltb, eqb-true, eqb-false}
use Rattle.selectors.specs.Range.{Range, range, full, in_field, same_range}
use Rattle.selectors.proofs.RangeLaws.{both_true, same_range_true}
use Rattle.policy_text.specs.Decimals.{Number}
use Rattle.policy_text.specs.Bytes.{tab, lf, dot, dash, has, before, after, count, are_same_bytes}
use Rattle.policy_text.specs.Format.{any, made, spanned, ends}
use Rattle.policy_text.specs.Print.{range_text}
use Rattle.policy_text.specs.Edition1.{opaque_word}
use Rattle.policy_text.proofs.PrintLaws.{range_length}
use Rattle.policy_round_trip.proofs.CutsLaws.{count-append, differ, has_none, has_seam, before_seam, after_seam}
use Rattle.policy_round_trip.proofs.DecimalsLaws.{is_digit}
use Rattle.policy_round_trip.specs.Lawful.{Clean}

-- A range of a field: its low end is at most its high end, and that is in the field.
pub in_field-ends : (size : ℕ) (r : Range) → in_field size r ≡ true → (r.low ≤ r.high) × (r.high < size)
unfolding in_field
in_field-ends size r h =
    let p = both_true (leb r.low r.high) (ltb r.high size) h in (leb-true _ _ p.0, ltb-true _ _ p.1)

-- Such a range is one of the field.
pub in_field-made : (size : ℕ) (r : Range) → r.low ≤ r.high → r.high < size → in_field size r ≡ true
unfolding in_field
in_field-made size r p q = rw (le-leb r.low r.high p, lt-ltb r.high size q)

-- A byte that no value is printed with: no digit, no dot, and none of `opaque`.
abbrev pub Outside : ℕ → Type 0
Outside b = (is_digit b ≡ false) × (eqb dot b ≡ false) × (count b opaque_word ≡ 0)

-- Values of a field, whose texts are read as the values, those before the last also as a low end.
pub record Values (size width : ℕ) (text : ℕ → List ℕ) (low high : List ℕ → Number) : Type 0 where
  pub low_back : (n : ℕ) → suc n < size → low (text n) ≡ Some n
  pub high_back : (n : ℕ) → n < size → high (text n) ≡ Some n
  pub without : (b : ℕ) → Outside b → (n : ℕ) → count b (text n) ≡ 0
  pub short : (n : ℕ) → n < size → length (text n) ≤ width

-- What is printed of a range that is not full.
abbrev pub span_text : (ℕ → List ℕ) → Range → List ℕ
span_text text r = cond (eqb r.low r.high) (text r.low) (text r.low ++ (dash ∷ text r.high))

module _ {size width : ℕ} {text : ℕ → List ℕ} {low high : List ℕ → Number} (values : Values size width text low high) (r : Range) where
  pub span-without : (b : ℕ) → Outside b → eqb dash b ≡ false → count b (span_text text r) ≡ 0
  unfolding count
  span-without b o d = by (eqb r.low r.high) (values.without b o)
    where
      by : (e : Bool) → ((n : ℕ) → count b (text n) ≡ 0) → count b (cond e (text r.low) (text r.low ++ (dash ∷ text r.high))) ≡ 0
      by true w = w r.low
      by false w = simp (count-append, d, w)

  -- A byte outside the values that is no dash and not in `any` stands in no range.
  pub range-without : (b : ℕ) → Outside b → eqb dash b ≡ false → count b any ≡ 0 → count b (range_text size text r) ≡ 0
  unfolding range_text
  range-without b o d a = by (same_range r (full size))
    where
      by : (e : Bool) → count b (cond e any (span_text text r)) ≡ 0
      by true = a
      by false = span-without b o d

  pub span_not_any : are_same_bytes (span_text text r) any ≡ false
  unfolding count
  span_not_any = differ 121 (span_text text r) any (span-without 121 (refl, refl, refl) refl) (omega arith)

  -- A field that reads `any` and the other ranges reads what is printed.
  pub range_back : (field : List ℕ → Option Range) → field any ≡ some (full size) → field (span_text text r) ≡ some r
      → field (range_text size text r) ≡ some r
  unfolding range_text
  range_back field a s = by (same_range r (full size)) refl
    where
      by : (e : Bool) → same_range r (full size) ≡ e → field (cond e any (span_text text r)) ≡ some r
      by true e = a ∙ ap some (sym (same_range_true r (full size) e))
      by false e = s

  module _ (h : in_field size r ≡ true) where
    pub ends_back : ends size low high (span_text text r) ≡ some r
    unfolding count
    ends_back = let p = in_field-ends size r h in by (eqb r.low r.high) refl p.0 p.1 (values.without dash (refl, refl, refl) r.low)
      where
        by : (e : Bool) → eqb r.low r.high ≡ e → r.low ≤ r.high → r.high < size → count dash (text r.low) ≡ 0
            → ends size low high (cond e (text r.low) (text r.low ++ (dash ∷ text r.high))) ≡ some r
        by true e p q w =
            rw (has_none dash (text r.low) w, values.high_back r.low (omega arith))
            (ap (λ (x : ℕ). made size r.low x) (eqb-true r.low r.high e) ∙ rw h)
        by false e p q w =
            let n : r.low ≡ r.high → ⊥ = eqb-false _ _ e in
            rw (
              has_seam dash (text r.low) _ w,
              before_seam dash (text r.low) _ w,
              after_seam dash (text r.low) _ w,
              values.low_back r.low (omega arith),
              values.high_back r.high q,
              h,
            )

    -- A range is at most two values with a dash, or `any`.
    pub range_short : 1 ≤ width → length (range_text size text r) ≤ width + width + 1
    range_short l =
        let p = in_field-ends size r h in
        range_length width size text r l (values.short r.low (omega arith)) (values.short r.high (omega arith))

-- A range's text has no tab and no LF.
pub range_clean : {size width : ℕ} {text : ℕ → List ℕ} {low high : List ℕ → Number} → Values size width text low high → (r : Range)
    → Clean (range_text size text r)
unfolding count
range_clean v r =
    record { no-tab = range-without v r tab (refl, refl, refl) refl refl; no-lf = range-without v r lf (refl, refl, refl) refl refl }

-- What is read, if anything, has a property.
abbrev pub Reads : {A : Type 0} → (A → Type 0) → Option A → Type 0
Reads P none = Unit
Reads P (some a) = P a

pub either : {A : Type 0} (P : A → Type 0) (t : Bool) (a b : Option A) → Reads P a → Reads P b → Reads P (cond t a b)
either P true a b p q = p
either P false a b p q = q

-- A range from low to high that is read is one of the field.
abbrev pub In : ℕ → Range → Type 0
In size r = in_field size r ≡ true

pub made_in : (size low high : ℕ) → Reads (In size) (made size low high)
made_in size low high = by (in_field size (range low high)) refl
  where
    by : (e : Bool) → in_field size (range low high) ≡ e → Reads (In size) (cond e (some (range low high)) none)
    by true e = e
    by false e = tt

spanned_in : (size : ℕ) (a b : Number) → Reads (In size) (spanned size a b)
spanned_in size None b = tt
spanned_in size (Some m) None = tt
spanned_in size (Some m) (Some n) = made_in size m n

pub ends-in : (size : ℕ) (low high : List ℕ → Number) (s : List ℕ) → Reads (In size) (ends size low high s)
ends-in size low high s = either (In size) (has dash s) _ _ (spanned_in size (low (before dash s)) (high (after dash s))) (spanned_in size (high s) (high s))

-- So is `any`, of a field that has a value.
pub full_in : (size : ℕ) → 0 < size → In size (full size)
full_in size h = in_field-made size (full size) (omega arith) (omega arith)
