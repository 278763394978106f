-- `policy_text::find` meets its contract: std's words say where the byte is. Assumes nothing.
use Rattle.std.proofs.Common.{◌≡◌, ◌∙◌, cond, eqb, ltb, length, Some, None, rules, tests}
use Rattle.std.specs.List.{position_or_len}
use Rattle.std.proofs.lemmas.Iterator.{YieldsList-from_slice}
use Rattle.std.proofs.lemmas.Iterator.Search.{position_from_yields_List}
use Rattle.policy_text.specs.Bytes.{index}
use Rattle.policy_text.proofs.BytesLaws.{index_position, index_most, found_or_length}
use Rattle.policy_text.proofs.find.Goals as goal

pub returns : goal.returns
returns c =
    let s = c.args.s.now in
    let b = c.args.b in
    let p : c.position.result ≡ cond (ltb (position_or_len (λ x. eqb x b) s) (length s)) (Some (position_or_len (λ x. eqb x b) s)) None =
    position_from_yields_List (λ x. eqb x b) _ _ c.position.result c.position.ensures.ran (YieldsList-from_slice s cc) (λ x b q k. search (rules, tests)) in
    let e : c.unwrap_or.result ≡ index b s = c.unwrap_or.ensures ∙ rw (p, ← index_position b s) (found_or_length (index b s) (length s) (index_most b s)) in
    (e, rw e (index_most b s))
