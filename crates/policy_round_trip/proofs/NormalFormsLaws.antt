-- A policy of an edition that can be printed has a normal form that can be printed. Assumes nothing.
use Rattle.std.specs.Prelude.{ℕ, ◌≡◌, refl, Bool, cond}
use Rattle.std.proofs.Common.{arith}
use Rattle.std.proofs.Math.Bool.{true, false}
use mathlib.Core.List.Memᴰ
use mathlib.Core.List.{List, [], ◌∷◌}
use Rattle.selectors.specs.Range.{Range, holds}
use Rattle.selectors.proofs.RangeLaws.{contains_in}
use Rattle.selectors.specs.declared.Direction.{Direction}
use Rattle.normal_form.proofs.ShapeLaws.{Fits, normal_form_fits, normal_form-row}
use Rattle.policy.specs.declared.Action.TheVariants.{Discard}
use Rattle.policy.specs.ActionLaws.{action-≟}
use Rattle.policy.specs.Policy.{PolicyRow, matches, ordered_search, policy_normal_form, as_row, as_policy}
use Rattle.policy_text.specs.Format.{Format, sizes}
use Rattle.policy_round_trip.specs.Lawful.{Writable, Lawful}
use Rattle.policy_round_trip.proofs.FilesLaws.{AllPrintable, first_printable, rest_printable}

lows : List Range → List ℕ
lows [] = []
lows (r ∷ rs) = r.low ∷ lows rs

lows_held : (sizes : List ℕ) (rs : List Range) → Fits sizes rs → holds rs (lows rs) ≡ true
unfolding Fits holds lows
lows_held [] [] f = refl
lows_held [] (r ∷ rs) f = absurd f
lows_held (S ∷ Ss) [] f = absurd f
lows_held (S ∷ Ss) (r ∷ rs) f = rw (contains_in r r.low (omega arith) f.0) (lows_held Ss rs f.2)

module _ (f : Format) (l : Lawful f) (d : Direction) where
  search_writable : (rs : List PolicyRow) (vs : List ℕ) → AllPrintable f rs → Writable f (ordered_search d rs vs)
  unfolding ordered_search
  search_writable [] vs a = l.discard_writable
  search_writable (r ∷ rs) vs a = by (matches d r vs) (first_printable a).writable (search_writable rs vs (rest_printable a))
    where
      by : (e : Bool) → Writable f r.action → Writable f (ordered_search d rs vs) → Writable f (cond e r.action (ordered_search d rs vs))
      by true p ih = p
      by false p ih = ih

  -- The rows of the normal form for a direction can be printed where those of the policy can.
  pub normal_form_printable : (rs : List PolicyRow) → AllPrintable f rs → AllPrintable f (as_policy d (policy_normal_form (sizes f) d rs))
  normal_form_printable rs a q m =
      let i = Memᴰ.of_map (as_row d) (policy_normal_form (sizes f) d rs) m in
      let r = i.0 in
      let fits = (normal_form_fits action-≟ Discard (sizes f) (ordered_search d rs) r i.1).0 in
      let e = normal_form-row action-≟ Discard (sizes f) (ordered_search d rs) r i.1 (lows r.ranges) (lows_held (sizes f) r.ranges fits) in
      rw (← i.2) record { fits = fits; writable = rw e (search_writable rs (lows r.ranges) a) }
