-- A normal form, computed by its definition. (At the real sizes `compute` does it: see the worked example of crate policy.) Assumes nothing.
use Rattle.std.proofs.Math.Decide.{ℕ_discrete}
use Rattle.std.specs.Prelude.{◌≡◌, refl, [], ◌∷◌}
use Rattle.selectors.specs.Range.{range, contains, holds}
use Rattle.normal_form.specs.Search.{row, find}
use Rattle.normal_form.specs.SameLaws.{list-≟, range-≟, row-≟}
use Rattle.normal_form.specs.NormalForm.{rows_of, push, runs, normal_form}

-- The second row keeps what the first leaves of it, and 3 is cut off from 1 and 2.
pub computed : normal_form ℕ_discrete 0 (4 ∷ 3 ∷ []) (find 0 (row (range 1 3 ∷ range 1 1 ∷ []) 7 ∷ row (range 3 3 ∷ range 0 2 ∷ []) 9 ∷ []))
    ≡ row (range 1 2 ∷ range 1 1 ∷ []) 7
    ∷ row (range 3 3 ∷ range 0 0 ∷ []) 9
    ∷ row (range 3 3 ∷ range 1 1 ∷ []) 7
    ∷ row (range 3 3 ∷ range 2 2 ∷ []) 9
    ∷ []
unfolding find holds contains rows_of push runs normal_form list-≟ range-≟ row-≟ ℕ_discrete
computed = refl
