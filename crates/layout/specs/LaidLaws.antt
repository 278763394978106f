-- From the layout of the first field on to the whole. Assumes nothing.
use Rattle.std.specs.Prelude.{ℕ, zero, suc, ◌+◌, ◌≤◌, ◌<◌, ◌≡◌, refl, List, [], length, Result, Ok, Err}
use Rattle.std.proofs.Common.{arith, sym, ◌∙◌, le-leb}
use Rattle.std.proofs.Math.Decide.{dec_le}
use Rattle.std.proofs.lemmas.Bool.{lt-leb}
use Rattle.selectors.proofs.HeldLaws.{all_ranges}
use Rattle.selectors.specs.Words.{field_count, values_from}
use Rattle.normal_form.specs.Search.{Row}
use Rattle.policy.specs.Words.{policy_rows}
use Rattle.cover.specs.Boxes.{ranges_word}
use Rattle.layout.specs.Parting.{Parting, difference_form}
use Rattle.layout.specs.Decode.{part_row, part_rows}
use Rattle.layout.specs.Laid.{laid_row, laid_from, sizes_of, room_for, Outcome}
use Rattle.layout.specs.Steps.{form_at, words_for, LaidOut}
use Rattle.layout.specs.ProgressLaws.{laid-count}
use Rattle.layout.specs.declared.branch.Task.{Task}
use Rattle.layout.specs.declared.LayoutError.{LayoutError}
use Rattle.layout.specs.declared.LayoutError.TheVariants.{Over, NoRoom}

-- A row of which all fields are laid out is a whole row.
rows_whole : (ws : List ℕ) (i c : ℕ) → part_rows 0 field_count ws i c ≡ laid_from ws i c
unfolding part_rows part_row laid_from laid_row
rows_whole ws i zero = refl
rows_whole ws i (suc c) = rw (all_ranges ws (ranges_word i), rows_whole ws (i + 1) c)

pub all_words : (limit : ℕ) → words_for limit field_count ≡ room_for limit
unfolding words_for
all_words limit = omega arith

pub no_room : (limit : ℕ) (form : List (Row Parting)) (ws : List ℕ) → length ws < room_for limit → Outcome limit form ws ws (Err NoRoom)
no_room limit form ws h = record {
  answer = rw (lt-leb (room_for limit) (length ws) h);
  rows = λ n e. cc;
  untouched = λ e. refl;
}

pub laid_all : (first second : List ℕ) (task : Task) (ps ws ws' : List ℕ) (r : Result ℕ LayoutError) → room_for task.limit ≤ length ws
    → LaidOut task.limit 0 field_count (form_at first second task (values_from ps 0 0) 0 field_count) ws' r
    → Outcome task.limit (difference_form (sizes_of task.highest) task.direction (policy_rows first) (policy_rows second)) ws ws' r
unfolding values_from
laid_all first second task ps ws ws' r h l = record {
  answer = rw (le-leb (room_for task.limit) (length ws) h) l.answer;
  rows = λ n e. sym (rows_whole ws' 0 n) ∙ (laid-count task.limit 0 field_count _ ws' n r e l).1;
  untouched = λ e. absurd (never e (dec_le (length (form_at first second task [] 0 field_count)) task.limit));
}
  where
    never : r ≡ Err NoRoom → Dec (length (form_at first second task [] 0 field_count) ≤ task.limit) → ⊥
    never e (yes g) =
        let a : r ≡ Ok (length (form_at first second task [] 0 field_count)) = rw (le-leb (length (form_at first second task [] 0 field_count)) task.limit g) at l.answer in
        cc
    never e (no g) =
        let a : r ≡ Err Over = rw (lt-leb (length (form_at first second task [] 0 field_count)) task.limit (omega arith)) at l.answer in
        cc
