-- `policy_print::store` meets its contract: rows that fit in memory print to fewer than 2^64 bytes. Assumes nothing.
use Rattle.std.proofs.Common.{arith, rules}
use Rattle.policy_print.specs.PrintingLaws.{printed_most}
use Rattle.policy_print.proofs.store.Goals as goal

pub returns : goal.returns
returns c =
    let a = c.args in
    let p = c.put_file.ensures in
    let fits = printed_most a.edition a.direction a.rows.now (omega (arith, c.well_formed)) in
    let bytes = p.bytes fits in
    let same = p.same_room in
    record { all = omega (arith, p.place fits); bytes = search rules }
