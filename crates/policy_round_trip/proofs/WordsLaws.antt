-- What can be printed has a range for each field in every row, so that its words are read as its rows. Assumes nothing.
use Rattle.std.proofs.Common.{◌∙◌}
use Rattle.std.specs.Prelude.{List, [], ◌∷◌}
use Rattle.normal_form.proofs.ShapeLaws.{fits-length}
use Rattle.policy.specs.Policy.{PolicyRow}
use Rattle.policy.proofs.WrittenLaws.{AllFive, FiveEach}
use Rattle.policy_text.specs.declared.Edition.{Edition}
use Rattle.policy_text.specs.Editions.{format_of, edition_sizes}
use Rattle.policy_text.proofs.EditionsLaws.{five_fields}
use Rattle.policy_round_trip.proofs.FilesLaws.{AllPrintable, first_printable, rest_printable}

pub all_five : (e : Edition) (rs : List PolicyRow) → AllPrintable (format_of e) rs → FiveEach rs
unfolding AllFive
all_five e [] a = tt
all_five e (r ∷ rs) a =
    (fits-length (edition_sizes e) r.ranges (first_printable a).fits ∙ five_fields e, all_five e rs (rest_printable a))
