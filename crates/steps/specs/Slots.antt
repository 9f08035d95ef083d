-- How a row stands under its parent, as far as the steps ask. Assumes nothing.
use Rattle.std.specs.Prelude.{ℕ}

abbrev pub free : ℕ
free = 0

-- last child of a Method, or of a Property with bit 1
abbrev pub of_method : ℕ
of_method = 1

-- a Function's Body
abbrev pub body_of : ℕ
body_of = 2

-- the same, of a constructor where "a Super left in place has that constructor as nearest Function"
abbrev pub late_body : ℕ
late_body = 3

-- an expression body that becomes a Body
abbrev pub wrapped : ℕ
wrapped = 4

-- a Target's child
abbrev pub of_target : ℕ
of_target = 5

-- `super.m` or `super[k]` that is called, rewritten
abbrev pub callee : ℕ
callee = 6

-- a part of a rewritten access that falls away: its Super, or the Target and the access of an assignment
abbrev pub dropped : ℕ
dropped = 7
