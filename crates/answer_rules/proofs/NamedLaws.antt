-- 'Protocol and inbound SPI name a pair': what it is for the pair of a name to be live and to fit, by the pairs themselves. Assumes nothing.
use Rattle.std.specs.Prelude.{ℕ, ◌≡◌, Bool, cond, ◌↔◌, ◌⊎◌}
use Rattle.std.proofs.Math.Path.{refl, sym}
use Rattle.std.proofs.Common.{◌∙◌, inl, inr}
use Rattle.std.proofs.Math.Bool.{true}
use Rattle.std.proofs.lemmas.Bool.{false≢true}
use mathlib.Core.List.Memᴰ
use mathlib.Core.List.{List, [], ◌∷◌, Memᴰ}
use Rattle.selectors.specs.Range.{holds}
use Rattle.sad.specs.Pairs.{Pair, named, live, fitting}
use Rattle.answer_rules.proofs.DecidesLaws.{Decides, holding, failing, decides_and, decides_eq}

-- A pair of that name.
abbrev pub Named : ℕ → ℕ → Pair → Type 0
Named protocol spi q = (q.protocol ≡ protocol) × (q.inbound_spi ≡ spi)

named_decides : (protocol spi : ℕ) (q : Pair) → Decides (Named protocol spi q) (named protocol spi q)
named_decides protocol spi q = decides_and (decides_eq q.protocol protocol) (decides_eq q.inbound_spi spi)

-- The pair of a name is live exactly where one of the live pairs has that name.
module _ (protocol spi : ℕ) where
  pub live_iff : (pairs : List Pair) → (live protocol spi pairs ≡ true) ↔ ((q : Pair) × Memᴰ q pairs × Named protocol spi q)
  unfolding live
  live_iff [] = (λ e. absurd (false≢true e), λ h. absurd (Memᴰ.not-nil h.1))
  live_iff (r ∷ rs) = by (named_decides protocol spi r) (live_iff rs)
    where
      by : {b : Bool} → Decides (Named protocol spi r) b
          → ((live protocol spi rs ≡ true) ↔ ((q : Pair) × Memᴰ q rs × Named protocol spi q))
          → (cond b true (live protocol spi rs) ≡ true) ↔ ((q : Pair) × Memᴰ q (r ∷ rs) × Named protocol spi q)
      by (holding n) rest = (λ e. (r, Memᴰ.head refl, n), λ h. refl)
      by (failing n) rest = (λ e. let h = rest.0 e in (h.0, Memᴰ.tail h.1, h.2), λ h. rest.1 (later h (Memᴰ.cases_cons h.1)))
        where
          later : (h : (q : Pair) × Memᴰ q (r ∷ rs) × Named protocol spi q) → (h.0 ≡ r) ⊎ Memᴰ h.0 rs
              → (q : Pair) × Memᴰ q rs × Named protocol spi q
          later h (inl e) = absurd (n (rw e at h.2))
          later h (inr m) = (h.0, m, h.2)

-- No two of the pairs have one name.
abbrev pub NamesDiffer : List Pair → Type 0
NamesDiffer pairs = (q r : Pair) → Memᴰ q pairs → Memᴰ r pairs → q.protocol ≡ r.protocol → q.inbound_spi ≡ r.inbound_spi → q ≡ r

-- Values fit the pair of a name exactly where a live pair has that name and its ranges hold them.
module _ (protocol spi : ℕ) (vs : List ℕ) where
  pub fitting_iff : (pairs : List Pair) → NamesDiffer pairs
      → (fitting protocol spi vs pairs ≡ true)
      ↔ ((q : Pair) × Memᴰ q pairs × Named protocol spi q × (holds q.ranges vs ≡ true))
  unfolding fitting
  fitting_iff [] d = (λ e. absurd (false≢true e), λ h. absurd (Memᴰ.not-nil h.1))
  fitting_iff (r ∷ rs) d =
      by (named_decides protocol spi r) (fitting_iff rs (λ q p m l. d q p (Memᴰ.tail m) (Memᴰ.tail l)))
    where
      by : {b : Bool} → Decides (Named protocol spi r) b
          → ((fitting protocol spi vs rs ≡ true) ↔ ((q : Pair) × Memᴰ q rs × Named protocol spi q × (holds q.ranges vs ≡ true)))
          → (cond b (holds r.ranges vs) (fitting protocol spi vs rs) ≡ true)
          ↔ ((q : Pair) × Memᴰ q (r ∷ rs) × Named protocol spi q × (holds q.ranges vs ≡ true))
      by (holding n) rest = (λ e. (r, Memᴰ.head refl, n, e), first)
        where
          first : (q : Pair) × Memᴰ q (r ∷ rs) × Named protocol spi q × (holds q.ranges vs ≡ true) → holds r.ranges vs ≡ true
          first h =
              let e : h.0 ≡ r = d h.0 r h.1 (Memᴰ.head refl) (h.2.0 ∙ sym n.0) (h.2.1 ∙ sym n.1) in
              rw e at h.3
      by (failing n) rest =
          (λ e. let h = rest.0 e in (h.0, Memᴰ.tail h.1, h.2, h.3), λ h. rest.1 (later h (Memᴰ.cases_cons h.1)))
        where
          later : (h : (q : Pair) × Memᴰ q (r ∷ rs) × Named protocol spi q × (holds q.ranges vs ≡ true))
              → (h.0 ≡ r) ⊎ Memᴰ h.0 rs
              → (q : Pair) × Memᴰ q rs × Named protocol spi q × (holds q.ranges vs ≡ true)
          later h (inl e) = absurd (n (rw e at h.2))
          later h (inr m) = (h.0, m, h.2, h.3)
