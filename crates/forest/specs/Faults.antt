-- What is wrong with a row, over any words, and the first row with which something is wrong. Assumes nothing.
use Rattle.std.specs.Prelude.{ℕ, zero, suc, ◌+◌, Bool, cond, not, ◌&&◌, List, [], ◌∷◌, length, eqb, ltb, leb, Option, Some, None}
use Rattle.names.specs.Words.{kind_at, attr_at, name_at, end_at}
use Rattle.names.specs.Answered.{or_else}
use Rattle.grammar.specs.Grammar.{top_place, place_of, kind_ok, attr_ok, fits, count_ok, name_ok}
use Rattle.forest.specs.declared.Fault.{Fault}
use Rattle.forest.specs.declared.Fault.TheVariants.{Kind, Attr, End, Place, Name}
use Rattle.forest.specs.declared.BadRow.{BadRow}

-- the `end` of row c is past the row and not past its parent's, which is e
abbrev pub end_good : List ℕ → (c e : ℕ) → Bool
end_good ws c e = ltb c (end_at ws c) && leb (end_at ws c) e

-- The rows from c that stand side by side below the end e. "A child whose `end` is at fault counts as its parent's last." The number before them is fuel.
unfoldable pub kids : List ℕ → (fuel c e : ℕ) → List ℕ
kids ws zero c e = []
kids ws (suc f) c e = cond (ltb c e) (cond (end_good ws c e) (c ∷ kids ws f (end_at ws c) e) (c ∷ [])) []

-- of these rows the one whose `end` is at fault, which is the last
unfoldable pub faulty_kid : List ℕ → (fuel c e : ℕ) → Option ℕ
faulty_kid ws zero c e = None
faulty_kid ws (suc f) c e = cond (ltb c e) (cond (end_good ws c e) (faulty_kid ws f (end_at ws c) e) (Some c)) None

-- the children of row p
unfoldable pub kids_of : List ℕ → ℕ → List ℕ
kids_of ws p = kids ws (end_at ws p) (p + 1) (end_at ws p)

-- Change request No. 3: "21 for a kind that is not in the list, 22 for an attr that the kind or its place doesn't allow (also a Function or Class without bit 3 in a statement's place), 23 for
-- an `end` that is not past the row, exceeds the parent's end or in row 0 is not the row count, 24 for a row that its parent can't hold there, a row 0 that is no Program or a wrong number of
-- children, 25 for a name outside its rule"
abbrev pub fault_number : Fault → ℕ
fault_number Kind = 21
fault_number Attr = 22
fault_number End = 23
fault_number Place = 24
fault_number Name = 25

-- The classes of faults, of which a row's lowest is told: 1 a kind that is not in the list, 2 an attr that the kind or its place does not allow, 3 an `end` at fault,
-- 4 "a row misplaced by its position", or "too few or too many children", which is their parent's fault, 5 a name outside its rule
abbrev pub class_of : Fault → ℕ
class_of Kind = 1
class_of Attr = 2
class_of End = 3
class_of Place = 4
class_of Name = 5

-- the first three; `rest` where there is none of these
unfoldable pub early_fault : (place : ℕ) (ends : Bool) (k a : ℕ) (rest : Option Fault) → Option Fault
early_fault place ends k a rest = cond (not (kind_ok k)) (Some Kind) (cond (not (attr_ok k a place)) (Some Attr) (cond (not ends) (Some End) rest))

-- the last two
unfoldable pub late_fault : (names place k a name count : ℕ) → Option Fault
late_fault names place k a name count = cond (not (fits place k && count_ok k a count)) (Some Place) (cond (not (name_ok k a name names)) (Some Name) None)

-- row i's lowest fault, where it stands in that place; `ends` says whether its `end` is as it must be
unfoldable pub fault_of : List ℕ → (names place : ℕ) (ends : Bool) (i : ℕ) → Option Fault
fault_of ws names place ends i =
    early_fault place ends (kind_at ws i) (attr_at ws i)
    (late_fault names place (kind_at ws i) (attr_at ws i) (name_at ws i) (length (kids_of ws i)))

-- a fault is told with its row
abbrev pub told : Option Fault → (row : ℕ) → Option BadRow
told None row = None
told (Some fault) row = Some (record { fault = fault; row = row })

-- The first fault from row c on, where c is the child at position pos of a row of kind k, attr a and end e: row c's, else what is inside it, else what stands after it.
-- The number before them is fuel.
unfoldable pub fault_from : List ℕ → (names fuel k a e pos c : ℕ) → Option BadRow
fault_from ws names zero k a e pos c = None
fault_from ws names (suc f) k a e pos c =
    cond (ltb c e)
    (or_else (told (fault_of ws names (place_of k a pos) (end_good ws c e) c) c)
    (or_else (fault_from ws names f (kind_at ws c) (attr_at ws c) (end_at ws c) 0 (c + 1))
    (fault_from ws names f k a e (pos + 1) (end_at ws c))))
    None

-- "first bad row", of a table of n rows. "Row 0 ends at the row count."
unfoldable pub first_fault : List ℕ → (n names : ℕ) → Option BadRow
first_fault ws n names =
    or_else (told (fault_of ws names top_place (eqb (end_at ws 0) n) 0) 0)
    (fault_from ws names n (kind_at ws 0) (attr_at ws 0) (end_at ws 0) 0 1)
