-- What each row is told by its parent, over any words, as a visit of the rows in order finds it: each row tells its children, which it finds by hopping over ends.
-- A row's parent is the last row before it among whose children it is. Assumes nothing.
use Rattle.std.specs.Prelude.{◌≡◌, ℕ, zero, suc, ◌+◌, ◌%◌, ◌<◌, ◌≤◌, Bool, cond, ◌&&◌, List, [], ◌∷◌, eqb, ltb, leb, length, get_or, Option, None}
use Rattle.names.specs.Words.{kind_at, attr_at, end_at}
use Rattle.grammar.specs.Grammar.{top_place, place_of}
use Rattle.names.specs.First.{first}
use Rattle.names.specs.Answered.{or_else}
use Rattle.forest.specs.Faults.{kids_of, end_good, fault_of, told}
use Rattle.forest.specs.declared.Fault.{Fault}
use Rattle.forest.specs.declared.BadRow.{BadRow}

-- what row j is told where the children are listed and the first of them has position pos: say pos c to the child c; v where j is none of them
unfoldable pub told_in : {A : Type 0} (say : ℕ → ℕ → A) (pos : ℕ) (kids : List ℕ) (j : ℕ) (v : A) → A
told_in say pos [] j v = v
told_in say pos (c ∷ cs) j v = cond (eqb j c) (say pos c) (told_in say (pos + 1) cs j v)

-- what row j has been told by the rows before i: its parent p, which was told v itself, tells the child c at position pos tell v p pos c; row 0 starts with r
unfoldable pub told_by : List ℕ → (tell : ℕ → ℕ → ℕ → ℕ → ℕ) (r i j : ℕ) → ℕ
told_by ws tell r zero j = cond (eqb j 0) r 0
told_by ws tell r (suc p) j = told_in (tell (told_by ws tell r p p) p) 0 (kids_of ws p) j (told_by ws tell r p j)

-- an array with room for n rows, in which no row has been told anything: it is all 0
abbrev pub Fresh : List ℕ → (n : ℕ) → Type 0
Fresh R n = (n ≤ length R) × ((j : ℕ) → get_or R j 0 ≡ 0)

-- one value for the first child, and one for the later ones
abbrev pub first_then : {A : Type 0} (one more : A) → ℕ → ℕ → A
first_then one more pos c = cond (eqb pos 0) one more

-- one value for every child
abbrev pub to_all : ℕ → ℕ → ℕ → ℕ
to_all d pos c = d

-- Depth: one more than the parent's, "row 0 having depth 0".
abbrev pub deeper : ℕ → ℕ → ℕ → ℕ → ℕ
deeper v p pos c = v + 1

unfoldable pub depth_at : List ℕ → ℕ → ℕ
depth_at ws i = told_by ws deeper 0 i i

-- each of n rows ends within them
abbrev pub Within : List ℕ → (n : ℕ) → Type 0
Within ws n = (i : ℕ) → i < n → end_at ws i ≤ n

-- "first row: depth over 128", of n rows, over any limit
unfoldable pub first_deep : List ℕ → (most n : ℕ) → Option ℕ
first_deep ws most n = first (λ i. ltb most (depth_at ws i)) n 0

-- The mark of a row: its place, and 16 more where its `end` is at fault.
abbrev pub mark : (place : ℕ) (ends : Bool) → ℕ
mark place ends = place + cond ends 0 16

-- what a row of kind k, attr a and end e says to its children
abbrev pub says : List ℕ → (k a e : ℕ) → ℕ → ℕ → ℕ
says ws k a e pos c = mark (place_of k a pos) (end_good ws c e)

abbrev pub marks : List ℕ → ℕ → ℕ → ℕ → ℕ → ℕ
marks ws v p = says ws (kind_at ws p) (attr_at ws p) (end_at ws p)

-- the mark of row 0, whose end is e, in a table of n rows
abbrev pub top_mark : (e n : ℕ) → ℕ
top_mark e n = mark top_place (eqb e n)

unfoldable pub mark_at : List ℕ → (n i : ℕ) → ℕ
mark_at ws n i = told_by ws (marks ws) (top_mark (end_at ws 0) n) i i

-- row i's lowest fault, by its mark
unfoldable pub fault_at : List ℕ → (n names i : ℕ) → Option Fault
fault_at ws n names i = fault_of ws names (mark_at ws n i % 16) (ltb (mark_at ws n i) 16 && leb (end_at ws i) n) i

-- the lowest row, of the count rows from i on, that has a fault
unfoldable pub lowest_from : List ℕ → (n names count i : ℕ) → Option BadRow
lowest_from ws n names zero i = None
lowest_from ws n names (suc f) i = or_else (told (fault_at ws n names i) i) (lowest_from ws n names f (i + 1))

unfoldable pub lowest_fault : List ℕ → (n names : ℕ) → Option BadRow
lowest_fault ws n names = lowest_from ws n names n 0
