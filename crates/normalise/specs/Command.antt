-- What the command's words mean. Assumes nothing: these are definitions.
use Rattle.std.specs.Prelude.{ℕ, cond, List, Some, None, Option}
use Rattle.selectors.specs.declared.Direction.{Direction}
use Rattle.selectors.specs.declared.Direction.TheVariants.{Out, In}
use Rattle.policy_text.specs.Bytes.{are_same_bytes}
use Rattle.policy_text.specs.Format.{out_word, in_word}

-- The first argument asks for a direction by the policy file's own word.
abbrev pub direction_asked : List ℕ → Option Direction
direction_asked s = cond (are_same_bytes s out_word) (Some Out) (cond (are_same_bytes s in_word) (Some In) None)
