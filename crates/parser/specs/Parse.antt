-- "Standard input, switches and rows": what is read of a sheet, line by line, or its first faulty or missing line, from 1. Assumes nothing.
use Rattle.std.specs.Prelude.{◌≡◌, Bool, true, false, cond, List, [], ◌∷◌, ℕ, ◌+◌, ◌*◌, ◌/◌, ◌≤◌, length, get_or, leb, eqb, Option, None, Some, Result, Ok, Err}
use Rattle.std.proofs.lemmas.List.Edits.{sets}
use Rattle.names.specs.Laid.{joined, pairs_from}
use Rattle.names.specs.Bytes.{bytes_of}
use Rattle.steps.specs.Mode.{Switches, switches}
use Rattle.fields.specs.Headers.{switch_header, name_header, row_header}
use Rattle.fields.specs.Fields.{lines, fields, row_of, same_bytes, switches_ok}
use Rattle.fields.specs.declared.Row.{Row}
use Rattle.acts.specs.View.{switches_of}
use Rattle.parser.specs.declared.FaultyLine.{FaultyLine}
use Rattle.parser.specs.declared.Names.{Names}
use Rattle.parser.specs.declared.Sheet.{Sheet}

-- what is read of a sheet: its switches, its names, the words of its rows
pub data Read : Type 0 where
  sheet : (w : Switches) (names : List (List ℕ)) (rows : List ℕ) → Read
  faulty : (line : ℕ) → Read

-- Rows.
abbrev pub is_row : {A : Type 0} → Option Row → A → A → A
is_row (Some r) good bad = good
is_row None good bad = bad

abbrev pub add_row : Option Row → List ℕ → List ℕ
add_row (Some r) ws = r.kind ∷ r.attr ∷ r.name ∷ r.end ∷ ws
add_row None ws = []

-- how many rows there are, or the first line at fault
abbrev pub Lines : Type 0
Lines = Result ℕ FaultyLine

abbrev pub wrong : {A : Type 0} → ℕ → Result A FaultyLine
wrong l = Err (record { line = l })

-- the row lines, n rows before them and the first of all line k: how many rows there are, or the first line at fault. "or over 1,024 rows"
unfoldable pub rows_from : (n k : ℕ) → List (List ℕ) → Lines
rows_from n k [] = Ok n
rows_from n k (l ∷ ls) = is_row (row_of (fields l)) (cond (leb 1024 n) (wrong (k + n)) (rows_from (n + 1) k ls)) (wrong (k + n))

-- their words, up to a line at fault
unfoldable pub words_from : (n : ℕ) → List (List ℕ) → List ℕ
words_from n [] = []
words_from n (l ∷ ls) = cond (leb 1024 n) [] (add_row (row_of (fields l)) (words_from (n + 1) ls))

-- Names. "Names stand one a line, up to the first `kind attr name end`."
unfoldable pub has_rows : List (List ℕ) → Bool
has_rows [] = false
has_rows (l ∷ ls) = cond (same_bytes l row_header) true (has_rows ls)

unfoldable pub names_in : List (List ℕ) → List (List ℕ)
names_in [] = []
names_in (l ∷ ls) = cond (same_bytes l row_header) [] (l ∷ names_in ls)

unfoldable pub after_names : List (List ℕ) → List (List ℕ)
after_names [] = []
after_names (l ∷ ls) = cond (same_bytes l row_header) ls (after_names ls)

-- The sheet, line by line.
abbrev pub switches_in : List ℕ → Switches
switches_in l = switches (eqb (get_or l 0 0) 49) (eqb (get_or l 2 0) 49) (eqb (get_or l 4 0) 49)

abbrev pub with_rows : Switches → (names : List (List ℕ)) (ws : List ℕ) → Lines → Read
with_rows w names ws (Ok n) = sheet w names ws
with_rows w names ws (Err e) = faulty e.line

unfoldable pub from_fourth : Switches → List (List ℕ) → Read
from_fourth w ls = cond (has_rows ls) (with_rows w (names_in ls) (words_from 0 (after_names ls)) (rows_from 0 (5 + length (names_in ls)) (after_names ls))) (faulty (4 + length ls))

unfoldable pub from_third : Switches → List (List ℕ) → Read
from_third w [] = faulty 3
from_third w (l ∷ ls) = cond (same_bytes l name_header) (from_fourth w ls) (faulty 3)

unfoldable pub from_second : List (List ℕ) → Read
from_second [] = faulty 2
from_second (l ∷ ls) = cond (switches_ok l) (from_third (switches_in l) ls) (faulty 2)

unfoldable pub from_first : List (List ℕ) → Read
from_first [] = faulty 1
from_first (l ∷ ls) = cond (same_bytes l switch_header) (from_second ls) (faulty 1)

-- Contracts of the functions that read.
-- what the row lines of s leave in the bytes lent for rows
pub record RowsRead (s : List ℕ) (k : ℕ) (before : List ℕ) (r : Lines) (after : List ℕ) : Type 0 where
  pub answer : r ≡ rows_from 0 k (lines s)
  pub wrote : after ≡ sets before 0 (bytes_of (words_from 0 (lines s)))

-- a number of rows, or a line, that is small
abbrev pub SmallLines : ℕ → Lines → Type 0
SmallLines k (Ok n) = n ≤ 1024
SmallLines k (Err e) = e.line ≤ k + 1024

-- so many names of so many bytes, and what stands behind their end
pub record Found (s : List ℕ) (n : Names) : Type 0 where
  pub found : has_rows (lines s) ≡ true
  pub starts : lines n.rest.now ≡ after_names (lines s)
  pub inside : length n.rest.now ≤ length s
  pub counted : n.count ≡ length (names_in (lines s))
  pub long : n.text ≡ length (joined (names_in (lines s)))
  pub few : n.count ≤ length s
  pub short : n.text ≤ length s

-- the line after the last one is missing
pub record Lost (s : List ℕ) (l : ℕ) : Type 0 where
  pub lost : has_rows (lines s) ≡ false
  pub line : l ≡ 4 + length (lines s)
  pub low : l ≤ 4 + length s

abbrev pub NamesAre : (s : List ℕ) → Result Names FaultyLine → Type 0
NamesAre s (Ok n) = Found s n
NamesAre s (Err e) = Lost s e.line

-- what the name lines of s leave in the bytes lent for pairs and text
pub record NamesRead (s : List ℕ) (pairs₀ text₀ : List ℕ) (r : Result Names FaultyLine) (pairs text : List ℕ) : Type 0 where
  pub answer : NamesAre s r
  pub paired : pairs ≡ sets pairs₀ 0 (bytes_of (pairs_from 0 (names_in (lines s))))
  pub laid : text ≡ sets text₀ 0 (joined (names_in (lines s)))

-- the bytes lent for rows, pairs and text, before and after
pub record Lent : Type 0 where
  pub rows₀ : List ℕ
  pub rows : List ℕ
  pub pairs₀ : List ℕ
  pub pairs : List ℕ
  pub text₀ : List ℕ
  pub text : List ℕ

abbrev pub lent : (rows₀ rows pairs₀ pairs text₀ text : List ℕ) → Lent
lent rows₀ rows pairs₀ pairs text₀ text = record { rows₀ = rows₀; rows = rows; pairs₀ = pairs₀; pairs = pairs; text₀ = text₀; text = text }

-- a sheet's parts stand at the front of what was lent: row words, name pairs and text
pub record Lies (w : Switches) (names : List (List ℕ)) (ws : List ℕ) (t : Sheet) (b : Lent) : Type 0 where
  pub switched : switches_of t.switches ≡ w
  pub row_count : t.rows ≡ length ws / 4
  pub name_count : t.names ≡ length names
  pub text_size : t.text ≡ length (joined names)
  pub fours : length ws ≡ 4 * (length ws / 4)
  pub rows_lie : b.rows ≡ sets b.rows₀ 0 (bytes_of ws)
  pub names_lie : b.pairs ≡ sets b.pairs₀ 0 (bytes_of (pairs_from 0 names))
  pub text_lies : b.text ≡ sets b.text₀ 0 (joined names)

-- what is answered for what is read; at a fault, what was lent may hold anything
abbrev pub Gives : Read → Result Sheet FaultyLine → Lent → Type 0
Gives (sheet w names ws) (Ok t) b = Lies w names ws t b
Gives (sheet w names ws) (Err e) b = ⊥
Gives (faulty line) (Ok t) b = ⊥
Gives (faulty line) (Err e) b = e.line ≡ line

-- an answer's numbers are small, by the length of the text
abbrev pub Small : ℕ → Result Sheet FaultyLine → Type 0
Small n (Ok t) = (t.rows ≤ 1024) × (t.names ≤ n) × (t.text ≤ n)
Small n (Err e) = e.line ≤ n + 1029

-- what the functions that read promise of their answer and of what was lent: x is what is read, n the length of the text
pub record Told (x : Read) (n : ℕ) (r : Result Sheet FaultyLine) (b : Lent) : Type 0 where
  pub answer : Gives x r b
  pub small : Small n r

-- The whole text, of whatever length.
abbrev pub sheet_of : List ℕ → Read
sheet_of s = from_first (lines s)
