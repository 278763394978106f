-- Laws of lists of those numbers that a test takes. Assumes nothing.
use Rattle.std.specs.Prelude.{ℕ, ◌<◌, ◌≡◌, refl, Bool, true, false, List, [], ◌∷◌, ◌++◌, ◌⊎◌, length, get_or}
use Rattle.std.specs.List.{filter}
use Rattle.std.proofs.Common.{append-nil, ⊎_elim}
use Rattle.std.proofs.lemmas.List.Elements.{filter-append}
use Rattle.agree.specs.Sides.{Takes}
use Rattle.agree.specs.CuttingLaws.{filter_each}

pub takes_none : (p : ℕ → Bool) → Takes p [] []
takes_none p = refl

-- A list with the next number: behind the others, or passed over.
module _ (p : ℕ → Bool) (x : ℕ) (xs list : List ℕ) (t : Takes p xs list) where
  takes_kept : p x ≡ true → Takes p (xs ++ x ∷ []) (list ++ x ∷ [])
  takes_kept e = rw (filter-append p xs (x ∷ []), t, e)

  takes_passed : p x ≡ false → Takes p (xs ++ x ∷ []) list
  takes_passed e = rw (filter-append p xs (x ∷ []), e, append-nil) t

  pub takes-next : (ys : List ℕ) → ys ≡ xs ++ x ∷ [] → (list' : List ℕ) → ((p x ≡ true) × (list' ≡ list ++ x ∷ [])) ⊎ ((p x ≡ false) × (list' ≡ list)) → Takes p ys list'
  takes-next ys e list' o = ⊎_elim (λ w. rw (e, w.1) (takes_kept w.0)) (λ w. rw (e, w.1) (takes_passed w.0)) o

-- What is true of each number that is taken is true of each for which the test is.
pub takes_each : (p : ℕ → Bool) (xs list : List ℕ) → Takes p xs list → (Q : ℕ → Type 0) → ((k : ℕ) → k < length list → Q (get_or list k 0))
    → (j : ℕ) → j < length xs → p (get_or xs j 0) ≡ true → Q (get_or xs j 0)
takes_each p xs list t Q q = filter_each p Q xs (rw t at q)
