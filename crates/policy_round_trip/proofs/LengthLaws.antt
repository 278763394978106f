-- How long printed files are. Assumes nothing.
use Rattle.std.specs.Prelude.{ℕ, ◌+◌, ◌*◌, ◌≤◌, List, [], ◌∷◌, length}
use Rattle.std.proofs.Common.{arith, length-append}
use Rattle.selectors.specs.Range.{Range, address_size, protocol_size, port_size}
use Rattle.selectors.specs.declared.Direction.TheVariants.{Out, In}
use Rattle.normal_form.proofs.ShapeLaws.{Fits}
use Rattle.policy.specs.declared.Action.{Action}
use Rattle.policy.specs.declared.Action.TheVariants.{Discard, Bypass, Protect}
use Rattle.policy.specs.declared.RowDirection.{RowDirection}
use Rattle.policy.specs.declared.RowDirection.TheVariants.{Only, Both}
use Rattle.policy.specs.Policy.{PolicyRow}
use Rattle.policy_text.specs.declared.Edition.{Edition}
use Rattle.policy_text.specs.declared.Edition.TheVariants.{One}
use Rattle.policy_text.specs.Format.{Format, sizes}
use Rattle.policy_text.specs.Print.{direction_text, ranges_text, row_text, rows_text, policy_text}
use Rattle.policy_text.specs.Edition1.{action_text, edition1}
use Rattle.policy_text.specs.Editions.{format_of}
use Rattle.policy_text.proofs.PrintLaws.{decimal-length, ranges-length}
use Rattle.policy_round_trip.proofs.RangesLaws.{in_field-made, range_short}
use Rattle.policy_round_trip.specs.Lawful.{Printable}
use Rattle.policy_round_trip.specs.Proper.{Proper}
use Rattle.policy_round_trip.proofs.Edition1Laws.{proper, address_values, protocol_values, port_values}
use Rattle.policy_round_trip.proofs.FilesLaws.{AllPrintable, first_printable, rest_printable, rows-cons}

-- Rows whose texts, with their LF, have at most so many bytes.
rows-length : (f : Format) (width : ℕ) → ((r : PolicyRow) → Printable f r → length (row_text f r) + 1 ≤ width) → (rs : List PolicyRow)
    → AllPrintable f rs → length (rows_text f rs) ≤ width * length rs
unfolding rows_text
rows-length f width short [] a = omega arith
rows-length f width short (r ∷ rs) a =
    rw (rows-cons f r rs, length-append)
    (omega (arith, short r (first_printable a), rows-length f width short rs (rest_printable a)))

direction-length : (d : RowDirection) → length (direction_text d) ≤ 4
direction-length (Only Out) = omega arith
direction-length (Only In) = omega arith
direction-length Both = omega arith

action-length : (a : Action) → Proper a → length (action_text a) ≤ 11
unfolding action_text
action-length Discard p = omega arith
action-length Bypass p = omega arith
action-length (Protect n) p = omega (arith, decimal-length 2 n (omega arith))

-- Edition 1: five ranges, and a row.
fields-length : (rs : List Range) → Fits (sizes edition1) rs → length (ranges_text edition1 rs) ≤ 100
unfolding Fits
fields-length [] h = absurd h
fields-length (l ∷ []) h = absurd h.2
fields-length (l ∷ r ∷ []) h = absurd h.2.2
fields-length (l ∷ r ∷ p ∷ []) h = absurd h.2.2.2
fields-length (l ∷ r ∷ p ∷ x ∷ []) h = absurd h.2.2.2.2
fields-length (l ∷ r ∷ p ∷ x ∷ y ∷ []) h =
    let h₁ = h.2 in
    let h₂ = h₁.2 in
    let h₃ = h₂.2 in
    let h₄ = h₃.2 in
    ranges-length 31 7 13 l r p x y
    (range_short address_values l (in_field-made address_size l h.0 h.1) (omega arith))
    (range_short address_values r (in_field-made address_size r h₁.0 h₁.1) (omega arith))
    (range_short protocol_values p (in_field-made protocol_size p h₂.0 h₂.1) (omega arith))
    (range_short port_values x (in_field-made port_size x h₃.0 h₃.1) (omega arith))
    (range_short port_values y (in_field-made port_size y h₄.0 h₄.1) (omega arith))
fields-length (l ∷ r ∷ p ∷ x ∷ y ∷ z ∷ rs) h = absurd h.2.2.2.2.2

row-length : (r : PolicyRow) → Printable edition1 r → length (row_text edition1 r) + 1 ≤ 120
unfolding row_text
row-length row w =
    simp length-append
    (omega (arith, direction-length row.direction, action-length row.action (proper row.action w.writable), fields-length row.ranges w.fits))

-- A printed file is at most the header and 120 bytes for each row.
pub policy-length : (e : Edition) (rs : List PolicyRow) → AllPrintable (format_of e) rs → length (policy_text (format_of e) rs) ≤ 9 + 120 * length rs
unfolding policy_text
policy-length One rs a = omega (arith, rows-length edition1 120 row-length rs a)
