-- Laws of the words that cross to C. Assumes nothing.
use Rattle.std.specs.Prelude.{ℕ, ◌≤◌, List, length}
use Rattle.std.proofs.Common.{arith, length-take}
use Rattle.packet.specs.Read.{trigger_of}

-- A triggering header is no longer than what ends where it ends.
pub trigger-length : (p : List ℕ) (upper end : ℕ) → length (trigger_of p upper end) ≤ end
unfolding trigger_of
trigger-length p upper end = simp length-take (omega arith)
