-- Whether a text of any length is a sheet, line by line and byte by byte: "first faulty or missing line, from 1". Assumes nothing.
use Rattle.std.specs.Prelude.{Bool, true, false, cond, List, [], ◌∷◌, ◌++◌, ℕ, ◌+◌, length, take, eqb, leb, ltb, Option, None, Some}
use Rattle.fields.specs.Headers.{switch_header, name_header, row_header}
use Rattle.fields.specs.Fields.{fields, row_of, same_bytes, switches_ok}
use Rattle.fields.specs.declared.Row.{Row}
use Rattle.parser.specs.Parse.{Read, Read.sheet, Read.faulty}
use Rattle.form.specs.declared.Part.{Part}
use Rattle.form.specs.declared.Part.TheVariants.{Faulty, SwitchHeader, Switches, NameHeader, Names, Rows}
use Rattle.form.specs.declared.Form.{Form}

-- the line that comes next, from 1, and what it is to be: 1 the header of the switches, 2 the switches, 3 the header of the names, 4 a name or the header of the
-- rows, 5 a row, of which there have been `rows`; or 0, and the line is faulty
pub data Stand : Type 0 where
  stand : (part line rows : ℕ) → Stand

-- whether a line spells a row
abbrev pub spelled : Option Row → Bool
spelled (Some r) = true
spelled None = false

-- a row's line, or one that is none, with n rows before it; "or over 1,024 rows"
abbrev pub after_row : Bool → (k n : ℕ) → Stand
after_row row k n = cond row (cond (leb 1024 n) (stand 0 k n) (stand 5 (k + 1) (n + 1))) (stand 0 k n)

-- the line of which there is one only, and the header of the rows
unfoldable pub wanted : (part : ℕ) → List ℕ → Bool
wanted p l = cond (eqb p 1) (same_bytes l switch_header) (cond (eqb p 2) (switches_ok l) (cond (eqb p 3) (same_bytes l name_header) (same_bytes l row_header)))

-- that line is l: a row, or what is wanted, or a name, or faulty
unfoldable pub ends : Stand → (l : List ℕ) → Stand
ends (stand p k n) l =
    cond (eqb p 0) (stand p k n)
    (cond (eqb p 5) (after_row (spelled (row_of (fields l))) k n)
    (cond (wanted p l) (stand (p + 1) (k + 1) n)
    (cond (eqb p 4) (stand p (k + 1) n) (stand 0 k n))))

-- after some lines
unfoldable pub over : Stand → List (List ℕ) → Stand
over x [] = x
over x (l ∷ ls) = over (ends x l) ls

-- the first faulty or missing line; 0 where the text that ends here is in the form
unfoldable pub told : Stand → ℕ
told (stand p k n) = cond (eqb p 5) 0 k

-- what is told of what is read: 0 of a sheet
abbrev pub fault_in : Read → ℕ
fault_in (sheet w names rows) = 0
fault_in (faulty line) = line

-- A text, byte by byte: where it stands, and the bytes so far of the line that it is in.
pub record Point : Type 0 where
  pub at : Stand
  pub cur : List ℕ

-- the most bytes that a row's line can have is 43, and no header has more: of a longer line the first 44 are kept
abbrev pub kept : ℕ → List ℕ → List ℕ
kept c cur = cond (ltb (length cur) 44) (cur ++ (c ∷ [])) cur

unfoldable pub step : ℕ → Point → Point
step c x = cond (eqb c 10) (record { at = ends x.at x.cur; cur = [] }) (record { at = x.at; cur = kept c x.cur })

unfoldable pub scan : Point → List ℕ → Point
scan x [] = x
scan x (c ∷ s) = scan (step c x) s

abbrev pub start : Point
start = record { at = stand 1 1 0; cur = [] }

-- the text ends: a line that has begun ends too
unfoldable pub close : Point → Stand
close x = cond (eqb (length x.cur) 0) x.at (ends x.at x.cur)

-- no later byte changes what is told: the line is faulty, or has bytes enough to be no row, no switches and no header, where a name is not asked for
unfoldable pub settled : (part count : ℕ) → Bool
settled p c = cond (eqb p 0) true (cond (eqb p 4) false (leb 44 c))

-- as the code has it: what the line is to be, and its first bytes
abbrev pub part_number : Part → ℕ
part_number Faulty = 0
part_number SwitchHeader = 1
part_number Switches = 2
part_number NameHeader = 3
part_number Names = 4
part_number Rows = 5

abbrev pub faulty_unless : Bool → Part → Part
faulty_unless b p = cond b p Faulty

-- the next line is one further on unless this one is faulty, and a row is counted
abbrev pub moved : (p q k n : ℕ) → Stand
moved p q k n = cond (eqb q 0) (stand 0 k n) (stand q (k + 1) (cond (eqb p 5) (n + 1) n))

abbrev pub stand_of : Form → Stand
stand_of f = stand (part_number f.part) f.line f.rows

abbrev pub point_of : Form → Point
point_of f = record { at = stand_of f; cur = take f.count f.front }
