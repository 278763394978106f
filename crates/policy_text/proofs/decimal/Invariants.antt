-- `policy_text::decimal` meets its contract. The loop's invariant: the text's digits are those of the rest, and its value what they make after n. Assumes nothing.
use lib.ListN.{drop}
use Prim.Native.Nat.{◌≤◌}
use mathlib.Core.Path.{◌≡◌}
use Rattle.policy_text.specs.Decimals.{digits, value}
use Rattle.policy_text.proofs.decimal.Given as goal

abbrev pub invariant-loop-c : goal.invariant-loop-c
invariant-loop-c l =
    (l.n ≤ l.max) × (digits l.s ≡ digits (drop l.c-index l.s)) × (value 0 l.s ≡ value l.n (drop l.c-index l.s))
