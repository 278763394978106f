-- Laws of the answers. Assumes nothing.
use Rattle.std.specs.Prelude.{ℕ, ◌≡◌, refl, Bool, true, false, cond, List}
use Rattle.std.proofs.lemmas.Bool.{false≢true}
use Rattle.std.proofs.Math.Option.{none, some}
use Rattle.selectors.specs.Range.{range, in_field, address_size, protocol_size, port_size}
use Rattle.selectors.specs.declared.Value.{Value}
use Rattle.selectors.proofs.ValueLaws.{number-lower}
use Rattle.selectors.specs.Ranges.{address_of, protocol_of, port_of, new_range}
use Rattle.policy_text.specs.Bytes.{slash, index, has, are_same_bytes}
use Rattle.policy_text.specs.Format.{any, made}
use Rattle.policy_text.proofs.BytesLaws.{same_bytes}
use Rattle.policy_fields.specs.Answers.{small, range_for}

-- The constructor of a range makes the range of the definition.
pub new_small : {R : Type 0} (size : ℕ) (of_ends : Value → Value → R) (a b : ℕ) → new_range size of_ends (small a) (small b) ≡ range_for of_ends (made size a b)
new_small size of_ends a b = rw (number-lower (small a) refl, number-lower (small b) refl) (by (in_field size (range a b)))
  where
    by : (t : Bool) → cond t (range_for of_ends (some (range a b))) (range_for of_ends none) ≡ range_for of_ends (cond t (some (range a b)) none)
    by true = refl
    by false = refl

-- The constructors of the three kinds of ranges make the ranges of the definition.
module _ (a b : ℕ) where
  pub new-address : new_range address_size address_of (small a) (small b) ≡ range_for address_of (made address_size a b)
  new-address = new_small address_size address_of a b

  pub new-protocol : new_range protocol_size protocol_of (small a) (small b) ≡ range_for protocol_of (made protocol_size a b)
  new-protocol = new_small protocol_size protocol_of a b

  pub new_port : new_range port_size port_of (small a) (small b) ≡ range_for port_of (made port_size a b)
  new_port = new_small port_size port_of a b

-- A text with a slash is not `any`.
pub unlike_any : (s : List ℕ) → has slash s ≡ true → are_same_bytes s any ≡ false
unfolding has index
unlike_any s h = by (are_same_bytes s any) refl
  where
    by : (e : Bool) → are_same_bytes s any ≡ e → e ≡ false
    by true e = absurd (false≢true (rw (same_bytes s any e) at h))
    by false e = refl
