-- The ordered search over records, record by record. Assumes nothing.
use Rattle.std.specs.Prelude.{ℕ, suc, ◌+◌, ◌≤◌, ◌<◌, ◌≡◌, true, false, cond, List, map, length, get_or, drop}
use Rattle.std.proofs.Common.{add-one, ◌∙◌, drop_of_length-le, drop-cons}
use Rattle.std.proofs.Math.Path.{sym, ap}
use Rattle.selectors.specs.declared.Direction.{Direction}
use Rattle.selectors.specs.declared.Value.{Value}
use Rattle.policy.specs.declared.Action.{Action}
use Rattle.policy.specs.declared.Action.TheVariants.{Discard}
use Rattle.policy.specs.Policy.{matches, ordered_search}
use Rattle.policy.specs.declared.Row.{Row}
use Rattle.policy.specs.Words.{action_of_word, row_of}

-- What stands at an index beyond the last record.
abbrev zero : Value
zero = record { upper = 0; lower = 0 }

abbrev pub no_row : Row
no_row =
    record {
      direction = 0;
      action = 0;
      local = record { low = zero; high = zero };
      remote = record { low = zero; high = zero };
      protocol = record { low = zero; high = zero };
      local_port = record { low = zero; high = zero };
      remote_port = record { low = zero; high = zero };
    }

module _ (d : Direction) (vs : List ℕ) where
  abbrev pub searched : List Row → Action
  searched rs = ordered_search d (map row_of rs) vs

  module _ (rs : List Row) (i : ℕ) (passed : searched rs ≡ searched (drop i rs)) where
    abbrev here : Row
    here = get_or rs i no_row

    -- The search from the record i on, where there is one.
    at_record : i < length rs → searched rs ≡ cond (matches d (row_of here) vs) (action_of_word here.action) (searched (drop (suc i) rs))
    unfolding ordered_search
    at_record l = passed ∙ ap searched (drop-cons rs i no_row l)

    -- It is the match, or is passed over, or there is none.
    pub match-found : i < length rs → matches d (row_of here) vs ≡ true → action_of_word here.action ≡ searched rs
    match-found l e = sym (at_record l ∙ rw e)

    pub match_passed : i < length rs → matches d (row_of here) vs ≡ false → searched rs ≡ searched (drop (i + 1) rs)
    match_passed l e = at_record l ∙ rw (e, add-one)

    pub match_ended : length rs ≤ i → Discard ≡ searched rs
    unfolding ordered_search
    match_ended l = sym (passed ∙ ap searched (drop_of_length-le rs l))
