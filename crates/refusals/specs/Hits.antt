-- Refusal 7 by numbers: the next row that a Field's value must not hold. Assumes nothing.
use Rattle.std.specs.Prelude.{ℕ, zero, suc, ◌+◌, Bool, cond, ◌&&◌, ◌||◌, List, eqb, ltb}
use Rattle.grammar.specs.Kinds.{Super, Arrow, Field}
use Rattle.names.specs.Words.{kind_at, attr_at, end_at}
use Rattle.steps.specs.Mode.{bit}
use Rattle.steps.specs.Refusals.{Rule, alone, holds, value_of}

-- "a Super, or in AsyncOnly an Arrow"
abbrev pub hit : (arrows : Bool) → ℕ → Bool
hit arrows k = eqb k Super || arrows && eqb k Arrow

-- the first such row of the `count` rows from i on; the row after them where there is none
unfoldable pub next_hit : List ℕ → (arrows : Bool) (count i : ℕ) → ℕ
next_hit ws arrows zero i = i
next_hit ws arrows (suc count) i = cond (hit arrows (kind_at ws i)) i (next_hit ws arrows count (i + 1))

-- the first row of the value of the Field i, of attr a and end e; e where it has none. "key if bit 0, value if bit 2"
unfoldable pub value_from : List ℕ → (i a e : ℕ) → ℕ
value_from ws i a e = cond (bit 4 a) (cond (bit 1 a) (cond (ltb (i + 1) e) (end_at ws (i + 1)) e) (i + 1)) e

-- row i is a Field, and one of the rows from its value's first row up to its end is the next hit from there on
unfoldable pub holds_at : List ℕ → (next : ℕ → ℕ) (i : ℕ) → Bool
holds_at ws next i =
    let e : ℕ = end_at ws i in
    let s : ℕ = value_from ws i (attr_at ws i) e in
    eqb (kind_at ws i) Field && (ltb s e && ltb (next s) e)

-- 7: "first Field row: its value holds a Super, or in AsyncOnly an Arrow, at any depth"
unfoldable pub field_rule : (arrows : Bool) → Rule (Unit {0})
field_rule arrows = alone (λ k a n i. eqb k Field && holds arrows (value_of a i))
