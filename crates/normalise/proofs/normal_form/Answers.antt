-- `normalise::normal_form` meets its contract: the room is long enough for any normal-form file. Assumes nothing.
use Rattle.std.proofs.Common.{arith, rules, ◌≡◌, length}
use Rattle.normalise.specs.RoomLaws.{form_bytes, answered}
use Rattle.normalise.proofs.normal_form.Goals as goal

pub returns-clause-answered : goal.returns-clause-answered
returns-clause-answered c =
    let a = c.args in
    let e = c.normalise.ensures in
    let long : length a.text.now ≡ form_bytes = search rules in
    rw (e.value, e.out_after) (answered a.direction a.policy.now a.text.now (omega arith))
