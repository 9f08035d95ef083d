-- The rule of a bad row as it stood before change request No. 3, without the five faults: "first bad row: breaks the section above", over any words. `first-bad` of the crate's proofs says that
-- `first_fault` tells the same row. Assumes nothing.
use Rattle.std.specs.Prelude.{ℕ, zero, suc, ◌+◌, Bool, cond, not, ◌&&◌, List, length, eqb, ltb, Option, Some, None}
use Rattle.names.specs.Words.{kind_at, attr_at, name_at, end_at}
use Rattle.names.specs.Answered.{or_else}
use Rattle.grammar.specs.Grammar.{top_place, place_of}
use Rattle.forest.specs.Forest.{row_ok}
use Rattle.forest.specs.Faults.{end_good, kids_of}
use Rattle.forest.specs.declared.BadRow.{BadRow}

-- row i, in that place, is not as the grammar says, or its `end` is not as it must be
abbrev pub bad_at : List ℕ → (names place : ℕ) (ends : Bool) (i : ℕ) → Bool
bad_at ws names place ends i = not (ends && row_ok names place (kind_at ws i) (attr_at ws i) (name_at ws i) (length (kids_of ws i)))

-- The first bad row from row c on, where c is the child at position pos of a row of kind k, attr a and end e: row c, else one inside it, else one after it. The number before them is fuel.
unfoldable pub bad_from : List ℕ → (names fuel k a e pos c : ℕ) → Option ℕ
bad_from ws names zero k a e pos c = None
bad_from ws names (suc f) k a e pos c =
    cond (ltb c e)
    (cond (bad_at ws names (place_of k a pos) (end_good ws c e) c) (Some c)
    (or_else (bad_from ws names f (kind_at ws c) (attr_at ws c) (end_at ws c) 0 (c + 1))
    (bad_from ws names f k a e (pos + 1) (end_at ws c))))
    None

-- "first bad row", of a table of n rows. "Row 0 ends at the row count."
unfoldable pub first_bad : List ℕ → (n names : ℕ) → Option ℕ
first_bad ws n names =
    cond (bad_at ws names top_place (eqb (end_at ws 0) n) 0) (Some 0)
    (bad_from ws names n (kind_at ws 0) (attr_at ws 0) (end_at ws 0) 0 1)

-- the row of which a fault is told, without the fault
abbrev pub row_of : Option BadRow → Option ℕ
row_of None = None
row_of (Some bad) = Some bad.row
