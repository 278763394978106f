-- `program_input::without_number`: the words stand before the place that std found. Assumes nothing.
use Rattle.std.proofs.Common.{Some}
use Rattle.program_input.proofs.without_number.Goals as goal

pub returns-in-Some : goal.returns-in-Some
returns-in-Some c = let cut = c.in-Some.ensures.cases in (Some (cut.0, cut.1), cut.2, cut.3)
