-- Decided equality of rows: what decides that two layouts are one. Assumes nothing.
use Rattle.std.proofs.Math.Decide.{ℕ_discrete}
use Rattle.std.specs.Prelude.{◌≡◌, refl}
use Rattle.std.proofs.Common.{sym}
use mathlib.Core.List.{List, [], ◌∷◌, cons-ne-nil}
use Rattle.selectors.specs.Range.{Range}
use Rattle.normal_form.specs.Search.{Row}

module _ {A : Type 0} (same? : Discrete A) where
  unfoldable pub list-≟ : Discrete (List A)
  list-≟ [] [] = yes refl
  list-≟ [] (y ∷ ys) = no (λ e. cons-ne-nil y ys (sym e))
  list-≟ (x ∷ xs) [] = no (cons-ne-nil x xs)
  list-≟ (x ∷ xs) (y ∷ ys) = both (same? x y) (list-≟ xs ys)
    where
      both : Dec (x ≡ y) → Dec (xs ≡ ys) → Dec (x ∷ xs ≡ y ∷ ys)
      both (yes p) (yes q) = yes (cc)
      both (yes p) (no n) = no (λ e. n (cc))
      both (no n) d = no (λ e. n (cc))

unfoldable pub range-≟ : Discrete Range
range-≟ s t = both (ℕ_discrete s.low t.low) (ℕ_discrete s.high t.high)
  where
    both : Dec (s.low ≡ t.low) → Dec (s.high ≡ t.high) → Dec (s ≡ t)
    both (yes p) (yes q) = yes (λ i. record { low = p i; high = q i })
    both (yes p) (no n) = no (λ e. n (λ i. (e i).high))
    both (no n) d = no (λ e. n (λ i. (e i).low))

unfoldable pub row-≟ : {A : Type 0} → Discrete A → Discrete (Row A)
row-≟ same? r q = both (list-≟ range-≟ r.ranges q.ranges) (same? r.leaf q.leaf)
  where
    both : Dec (r.ranges ≡ q.ranges) → Dec (r.leaf ≡ q.leaf) → Dec (r ≡ q)
    both (yes p) (yes e) = yes (λ i. record { ranges = p i; leaf = e i })
    both (yes p) (no n) = no (λ e. n (λ i. (e i).leaf))
    both (no n) d = no (λ e. n (λ i. (e i).ranges))
