-- The Body and Return around an expression body. Assumes nothing.
use Rattle.std.specs.Prelude.{Bool, cond, List, ℕ, ◌+◌}
use Rattle.grammar.specs.Kinds.{Body, Return}
use Rattle.output.specs.Output.{put}

-- the bytes o with both rows written from row `at` on, their ends open
abbrev pub opened : Bool → (o : List ℕ) (at : ℕ) → List ℕ
opened wanted o at = cond wanted (put (put o at Body 0 0 0) (at + 1) Return 0 0 0) o
