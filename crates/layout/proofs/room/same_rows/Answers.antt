-- `layout::room::same_rows` meets its contract. The loop's invariant: the rows are the same if those from i on are. Assumes nothing.
use Prim.Native.Nat.{◌-◌}
use mathlib.Core.Bool.{false≢true}
use mathlib.Core.Path.{sym, ◌∙◌}
use borrow.Author.Tests.{not-true, not-false}
use borrow.Author.Rules.{rules}
use Rattle.selectors.specs.Words.{field_count}
use Rattle.layout.specs.DecodeLaws.{always, never, same_rows_start, same_rows_go, same_rows_stop, same_rows_end}
use Rattle.layout.proofs.room.same_rows.Goals as goal

pub loop-i-init : goal.loop-i-init
loop-i-init c = let a = c.args in
    same_rows_start a.field (field_count - a.field) a.room.now a.a a.b 0 a.count

pub returns-then-not-same_row : goal.returns-then-not-same_row
returns-then-not-same_row c = let l = c.loop-i in
    never (λ p. same_rows_stop c.args.field (field_count - c.args.field) c.args.room.now c.args.a c.args.b l.i c.args.count (search rules)
    (λ q. false≢true (sym (not-true _ c.if-not-same_row.true-raw) ∙ c.same_row.ensures.1 q)) (l.invariant.0 p))

pub loop-i-preserved : goal.loop-i-preserved
loop-i-preserved c = let l = c.loop-i in
    let go = same_rows_go c.args.field (field_count - c.args.field) c.args.room.now c.args.a c.args.b l.i c.args.count (search rules)
    (c.same_row.ensures.0 (not-false _ c.if-not-same_row.false-raw)) in
    (λ p. go.0 (l.invariant.0 p), λ p. l.invariant.1 (go.1 p))

pub returns : goal.returns
returns c = always (c.loop-i.invariant.1 (same_rows_end c.args.field (field_count - c.args.field) c.args.room.now c.args.a c.args.b c.loop-i.i c.args.count (search rules)))
