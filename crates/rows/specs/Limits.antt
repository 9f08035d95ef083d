-- Change request No. 1, "Contractors' tablets with less room": the limits of the two callers. Assumes nothing.
use Rattle.std.specs.Prelude.{ℕ, Bool, cond}

-- "The contractors' tablet build takes at most 512 rows and depth 32; the print room keeps 16,384 and 128. One converter serves both, told by a bool which caller it has"
abbrev pub row_limit_of : (tablet : Bool) → ℕ
row_limit_of tablet = cond tablet 512 16384

abbrev pub depth_limit_of : (tablet : Bool) → ℕ
depth_limit_of tablet = cond tablet 32 128
