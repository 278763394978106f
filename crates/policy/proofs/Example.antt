-- Document 01's worked example: two rows, their normal form out (six rows) and in (one), at the real sizes. Assumes nothing.
use Rattle.std.specs.Prelude.{ℕ, ◌+◌, ◌*◌, ◌≡◌, refl, true, List, [], ◌∷◌}
use Rattle.std.proofs.Math.Decide.{ℕ_discrete}
use Rattle.std.proofs.Common.{sym, ◌∙◌}
use Rattle.selectors.specs.Range.{Range, range, full, contains, address_size, protocol_size, port_size, ipv4_sizes, holds}
use Rattle.selectors.specs.declared.Direction.{Direction}
use Rattle.selectors.specs.declared.Direction.TheVariants.{Out, In}
use Rattle.normal_form.specs.Search.{Row, row, find}
use Rattle.normal_form.specs.SameLaws.{list-≟, range-≟, row-≟}
use Rattle.normal_form.specs.NormalForm.{rows_of, push, normal_form}
use Rattle.normal_form.proofs.LoopLaws.{jump}
use Rattle.normal_form.proofs.Laws.{normal_form_ext}
use Rattle.normal_form.proofs.ComputeLaws.{is_cut, rising, cuts_rise, ranges_cut, are_rows_cut, narrowed, behind, compute, compute-normal_form}
use Rattle.policy.specs.declared.Action.{Action}
use Rattle.policy.specs.declared.Action.TheVariants.{Discard, Bypass, Protect}
use Rattle.policy.specs.declared.RowDirection.TheVariants.{Only, Both}
use Rattle.policy.specs.ActionLaws.{action-≟}
use Rattle.policy.specs.Policy.{PolicyRow, policy_normal_form}
use Rattle.policy.proofs.PolicyLaws.{rows_for, search-find}

-- a.b.c.d
abbrev ip : ℕ → ℕ → ℕ → ℕ → ℕ
ip a b c d = ((a * 256 + b) * 256 + c) * 256 + d

-- out protect-7 10.1.0.0/255.255.255.0 10.0.0.0-10.0.0.9 6 any 22
-- both bypass any any 17 500 500
abbrev pub example : List PolicyRow
example =
    record {
      direction = Only Out;
      action = Protect 7;
      ranges = range (ip 10 1 0 0) (ip 10 1 0 255) ∷ range (ip 10 0 0 0) (ip 10 0 0 9) ∷ range 6 6 ∷ full port_size ∷ range 22 22 ∷ [];
    }
    ∷ record {
      direction = Both;
      action = Bypass;
      ranges = full address_size ∷ full address_size ∷ range 17 17 ∷ range 500 500 ∷ range 500 500 ∷ [];
    }
    ∷ []

-- A bypass of UDP from port 500 to port 500 between these addresses.
abbrev key_exchange : Range → Range → Row Action
key_exchange local remote = row (local ∷ remote ∷ range 17 17 ∷ range 500 500 ∷ range 500 500 ∷ []) Bypass

abbrev cuts : List (List ℕ)
cuts =
    (ip 10 1 0 0 ∷ ip 10 1 1 0 ∷ address_size ∷ [])
    ∷ (ip 10 0 0 0 ∷ ip 10 0 0 10 ∷ address_size ∷ [])
    ∷ (6 ∷ 7 ∷ 17 ∷ 18 ∷ protocol_size ∷ [])
    ∷ (500 ∷ 501 ∷ port_size ∷ [])
    ∷ (22 ∷ 23 ∷ 500 ∷ 501 ∷ port_size ∷ [])
    ∷ []

computed : (d : Direction) (rows : List PolicyRow) → cuts_rise ipv4_sizes cuts ≡ true → are_rows_cut cuts (rows_for d rows) ≡ true
    → policy_normal_form ipv4_sizes d rows ≡ compute action-≟ Discard cuts (rows_for d rows)
computed d rows g c =
    normal_form_ext action-≟ Discard ipv4_sizes _ _ (λ vs ok. search-find d rows vs)
    ∙ sym (compute-normal_form action-≟ Discard ipv4_sizes cuts (rows_for d rows) g c)

pub example_out : policy_normal_form ipv4_sizes Out example
    ≡ key_exchange (range (ip 0 0 0 0) (ip 10 0 255 255)) (full address_size)
    ∷ key_exchange (range (ip 10 1 0 0) (ip 10 1 0 255)) (range (ip 0 0 0 0) (ip 9 255 255 255))
    ∷ row (range (ip 10 1 0 0) (ip 10 1 0 255) ∷ range (ip 10 0 0 0) (ip 10 0 0 9) ∷ range 6 6 ∷ full port_size ∷ range 22 22 ∷ []) (Protect 7)
    ∷ key_exchange (range (ip 10 1 0 0) (ip 10 1 0 255)) (range (ip 10 0 0 0) (ip 10 0 0 9))
    ∷ key_exchange (range (ip 10 1 0 0) (ip 10 1 0 255)) (range (ip 10 0 0 10) (ip 255 255 255 255))
    ∷ key_exchange (range (ip 10 1 1 0) (ip 255 255 255 255)) (full address_size)
    ∷ []
unfolding is_cut rising cuts_rise ranges_cut are_rows_cut narrowed behind compute jump push rows_of normal_form find holds contains rows_for list-≟ range-≟ row-≟ action-≟ ℕ_discrete
example_out = computed Out example refl refl ∙ refl

pub example_in : policy_normal_form ipv4_sizes In example ≡ key_exchange (full address_size) (full address_size) ∷ []
unfolding is_cut rising cuts_rise ranges_cut are_rows_cut narrowed behind compute jump push rows_of normal_form find holds contains rows_for list-≟ range-≟ row-≟ action-≟ ℕ_discrete
example_in = computed In example refl refl ∙ refl
