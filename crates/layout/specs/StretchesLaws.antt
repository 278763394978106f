-- Laws of what is laid out behind one value of a field. Assumes nothing.
use Rattle.std.specs.Prelude.{ℕ, ◌+◌, ◌*◌, ◌≤◌, ◌<◌, refl, false, List, [], length, Option, Some, None, Result, Ok, Err, is_ok}
use Rattle.std.proofs.Common.{arith, sym, le-leb}
use Rattle.std.proofs.Math.Decide.{dec_le}
use Rattle.std.proofs.Math.Path.{◌≡◌}
use Rattle.std.proofs.lemmas.Bool.{false≢true, lt-leb}
use Rattle.normal_form.specs.Search.{Row}
use Rattle.policy.specs.Words.{row_words}
use Rattle.layout.specs.Parting.{Parting}
use Rattle.layout.specs.Decode.{part_rows}
use Rattle.layout.specs.Steps.{LaidOut, Placed}
use Rattle.layout.specs.StepsLaws.{laid-rows}
use Rattle.layout.specs.ProgressLaws.{laid-count}
use Rattle.layout.specs.Stretches.{stretch_of, Joins, StretchOut, PlacedStretch}
use Rattle.layout.specs.declared.Kept.{Kept}
use Rattle.layout.specs.declared.LayoutError.{LayoutError}
use Rattle.layout.specs.declared.LayoutError.TheVariants.{Over}

-- What becomes of the last interval: rows were placed, or none were written.
module _ (f n : ℕ) (old : Kept) (laid : Option ℕ) (v : ℕ) (ws ws' : List ℕ) (r : Kept) where
  pub placed_rows : (c : ℕ) → laid ≡ Some c → Placed f n old c v ws ws' r → PlacedStretch f n old laid v ws ws' r
  placed_rows c e p = record {
    placed = λ c' e'. let k : c ≡ c' = cc in rw k at p;
    again = λ e'. cc;
  }

  pub placed_again : laid ≡ None → r ≡ old → ws' ≡ ws → PlacedStretch f n old laid v ws ws' r
  placed_again e k w = record { placed = λ c e'. cc; again = λ e'. (k, w) }

-- A layout without rows.
pub laid_empty : (limit f n : ℕ) (form : List (Row Parting)) (ws : List ℕ) → form ≡ [] → LaidOut limit f n form ws (Ok 0)
unfolding part_rows
laid_empty limit f n form ws e = laid-rows limit f n form ws 0 (sym e) (omega arith)

-- A layout behind a value: that of the value before, none, or any.
module _ (limit f n v : ℕ) (form : ℕ → List (Row Parting)) (ws : List ℕ) where
  pub stretch_again : Joins v form → StretchOut limit f n v form ws (Ok None)
  stretch_again j = record { again = λ e. j; rows = λ c e. cc; over = λ d e. cc }

  pub stretch_rows : (c : ℕ) → LaidOut limit f n (form v) ws (Ok c) → StretchOut limit f n v form ws (Ok (Some c))
  stretch_rows c l = record {
    again = λ e. cc;
    rows = λ c' e. let k : c ≡ c' = cc in rw k at l;
    over = λ d e. cc;
  }

  pub stretch_empty : form v ≡ [] → StretchOut limit f n v form ws (Ok (Some 0))
  stretch_empty e = stretch_rows 0 (laid_empty limit f n (form v) ws e)

  pub stretch_over : (d : LayoutError) → LaidOut limit f n (form v) ws (Err d) → StretchOut limit f n v form ws (Err d)
  stretch_over d l = record { again = λ e. cc; rows = λ c e. cc; over = λ d' e. by d' e (dec_le (length (form v)) limit) }
    where
      by : (d' : LayoutError) → ◌≡◌ {A = Result (Option ℕ) LayoutError} (Err d) (Err d') → Dec (length (form v) ≤ limit) → (d' ≡ Over) × (limit < length (form v))
      by d' e (yes h) = let z : ◌≡◌ {A = Result ℕ LayoutError} (Err d) (Ok (length (form v))) = rw (le-leb (length (form v)) limit h) at l.answer in cc
      by d' e (no h) =
          let z : ◌≡◌ {A = Result ℕ LayoutError} (Err d) (Err Over) = rw (lt-leb (length (form v)) limit (omega arith)) at l.answer in
          (cc, omega arith)

  pub stretch_laid : (laid : Result ℕ LayoutError) → LaidOut limit f n (form v) ws laid → StretchOut limit f n v form ws (stretch_of laid)
  unfolding stretch_of
  stretch_laid (Ok c) l = stretch_rows c l
  stretch_laid (Err d) l = stretch_over d l

  -- An answer that is no rows, counted or known, is that there are more than the limit.
  pub over_told : (r : Result (Option ℕ) LayoutError) → StretchOut limit f n v form ws r → is_ok r ≡ false → r ≡ Err Over
  over_told (Ok c) s e = absurd (false≢true (sym e))
  over_told (Err d) s e = let h = s.over d refl in rw h.0

-- Room for the rows behind the rows so far.
pub stretch_fits : (limit f n v : ℕ) (form : ℕ → List (Row Parting)) (ws : List ℕ) (r : Result (Option ℕ) LayoutError) → StretchOut limit f n v form ws r → (next room : ℕ)
    → (next + limit) * row_words ≤ room → (c : ℕ) → r ≡ Ok (Some c) → (next + c) * row_words ≤ room
stretch_fits limit f n v form ws r s next room h c e =
    let k = laid-count limit f n (form v) ws c (Ok c) refl (s.rows c e) in omega (arith, k.0)
