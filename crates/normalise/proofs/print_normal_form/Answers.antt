-- `normalise::print_normal_form` meets what it calls: what was printed is the normal-form file. Assumes nothing.
use Rattle.normalise.specs.RoomLaws.{printed_file}
use Rattle.normalise.proofs.print_normal_form.Goals as goal

pub write_file-requires : goal.write_file-requires
write_file-requires c = printed_file _ _ _ _ c.in-Ok.ensures.answered
