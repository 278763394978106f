-- `layout::room::same_row` meets its contract: the first two words, and then the ranges. Assumes nothing.
use Prim.Native.Nat.{◌-◌, ◌+◌, ◌*◌}
use native.Mathlib.Omega.{arith}
use mathlib.Core.Path.{◌≡◌, sym, ◌∙◌}
use mathlib.Core.Bool.{false≢true}
use Rattle.std.specs.Prelude.{take, drop}
use Rattle.std.proofs.lemmas.Slice.Eq.{slice_eq-Decides}
use Rattle.std.proofs.lemmas.Bool.Decides.{Decides-eqb}
use Rattle.selectors.specs.Words.{field_count}
use Rattle.policy.specs.Words.{row_words}
use Rattle.cover.specs.Boxes.{ranges_word}
use Rattle.layout.specs.DecodeLaws.{same-row_heads, same-row_fields, same-row}
use Rattle.layout.proofs.room.same_row.Goals as goal

pub returns-then-eq : goal.returns-then-eq
returns-then-eq c =
    let ws = c.args.room.now in
    let a = c.args.a in
    let b = c.args.b in
    let f = c.args.field in
    let r = c.requires in
    let m = 4 * (field_count - f) in
    let left : a * row_words + row_words - (a * row_words + (2 + 4 * f)) ≡ m = omega arith in
    let right : b * row_words + row_words - (b * row_words + (2 + 4 * f)) ≡ m = omega arith in
    let at_left : a * row_words + (2 + 4 * f) ≡ ranges_word a + 4 * f = omega arith in
    let at_right : b * row_words + (2 + 4 * f) ≡ ranges_word b + 4 * f = omega arith in
    let k : a * row_words + 2 - a * row_words ≡ 2 = omega arith in
    let k' : b * row_words + 2 - b * row_words ≡ 2 = omega arith in
    let heads = slice_eq-Decides Decides-eqb (take 2 (drop (a * row_words) ws)) (take 2 (drop (b * row_words) ws)) c.eq.result (rw (k, k') at c.eq.ensures) in
    let fields = slice_eq-Decides Decides-eqb (take m (drop (ranges_word a + 4 * f) ws)) (take m (drop (ranges_word b + 4 * f) ws)) c.eq-then-eq.result (rw (left, right, at_left, at_right) at c.eq-then-eq.ensures) in
    (λ e. same-row f r.0 ws a b (heads.0 c.if-eq.true) (fields.0 e), λ e. fields.1 (same-row_fields f r.0 ws a b (λ i. omega (arith, c.type_inv.room i)) r.1.0 r.1.1 e))

pub returns-else-eq : goal.returns-else-eq
returns-else-eq c =
    let ws = c.args.room.now in
    let a = c.args.a in
    let b = c.args.b in
    let r = c.requires in
    let k : a * row_words + 2 - a * row_words ≡ 2 = omega arith in
    let k' : b * row_words + 2 - b * row_words ≡ 2 = omega arith in
    let heads = slice_eq-Decides Decides-eqb (take 2 (drop (a * row_words) ws)) (take 2 (drop (b * row_words) ws)) c.eq.result (rw (k, k') at c.eq.ensures) in
    (λ e. absurd (false≢true (sym c.if-eq.false ∙ e)), λ e. heads.1 (same-row_heads c.args.field r.0 ws a b r.1.0 r.1.1 e))
