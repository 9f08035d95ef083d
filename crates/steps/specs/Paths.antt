-- Where a row stands: the path outward from it, innermost first, as far as modules 3, 4 and 5 ask. Assumes nothing.
use Rattle.std.specs.Prelude.{ℕ, Bool}

-- The end of the path is Program. `along` is a row that no rule stops at. Of a Function the path has the row, the attr, and whether it is method-like:
-- "Method-like: last child of a Method, or of a Property with bit 1." (`is_class_method_like_ancestor` of the Rust)
pub data Step : Type 0 where
  along : Step
  in_params in_body : (row attr : ℕ) (method_like : Bool) → Step
  in_arrow : (attr : ℕ) → Step
  in_value in_static : (row : ℕ) → Step
