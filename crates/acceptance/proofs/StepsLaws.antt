-- What the steps of policy acceptance give: the answer, and the words after it. Assumes nothing.
use Rattle.std.specs.Prelude.{ℕ, ◌≤◌, ◌<◌, ◌≡◌, Ok, Err, List, length}
use Rattle.std.proofs.Common.{arith, le-leb}
use Rattle.std.proofs.lemmas.Bool.{lt-leb}
use Rattle.selectors.specs.declared.Direction.TheVariants.{Out, In}
use Rattle.policy_text.specs.Editions.{Rules, rows}
use Rattle.decorrelate.specs.Form.{form}
use Rattle.decorrelate.specs.RoomLaws.{Held}
use Rattle.acceptance.specs.declared.AcceptError.TheVariants.{TooLarge}
use Rattle.acceptance.specs.declared.Caches.{Caches}
use Rattle.acceptance.specs.Spd.{held_words, empty_caches, accepting, spd_after, caches_after}
use Rattle.spd.specs.Words.{address_of}

-- Where a normal form is over the limit, out tried first: the answer, and the words and the caches after it.
module _ (capacity limit : ℕ) (c : Caches) (ws : List ℕ) (rs : Rules) where
  pub out_too_large : limit < length (form Out rs)
      → (Err (TooLarge Out) ≡ accepting limit (rows rs)) × (ws ≡ spd_after capacity limit ws (rows rs)) × (c ≡ caches_after limit c (rows rs))
  out_too_large h = let e = lt-leb (length (form Out rs)) limit h in (rw e, rw e, rw e)

  pub in_too_large : length (form Out rs) ≤ limit → limit < length (form In rs)
      → (Err (TooLarge In) ≡ accepting limit (rows rs)) × (ws ≡ spd_after capacity limit ws (rows rs)) × (c ≡ caches_after limit c (rows rs))
  in_too_large g h =
      let e = le-leb (length (form Out rs)) limit g in
      let f = lt-leb (length (form In rs)) limit h in
      (rw (e, f), rw (e, f), rw (e, f))

-- Where both normal forms are within the limit: the answer, and the words and the caches after it.
pub accepted : (capacity limit : ℕ) (c : Caches) (ws : List ℕ) (rs : Rules) (n m : ℕ) (a b : List ℕ)
    → Held capacity limit Out rs n a → Held capacity limit In rs m b
    → (Ok tt ≡ accepting limit (rows rs)) × (held_words (address_of ws) n a m b ≡ spd_after capacity limit ws (rows rs))
    × (empty_caches ≡ caches_after limit c (rows rs))
accepted capacity limit c ws rs n m a b p q =
    let u = le-leb (length (form Out rs)) limit (omega (arith, p.few, p.rows)) in
    let v = le-leb (length (form In rs)) limit (omega (arith, q.few, q.rows)) in
    (rw (u, v), rw (u, v, p.words, q.words, p.rows, q.rows), rw (u, v))
