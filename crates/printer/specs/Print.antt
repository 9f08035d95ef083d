-- "The sheet the program prints", as a list of bytes. Assumes nothing.
use Rattle.std.specs.Prelude.{List, [], ◌∷◌, ◌++◌, map, ℕ, zero, suc, ◌+◌, ◌*◌, ◌/◌, length, get_or}
use Rattle.std.specs.List.{range_with_len}
use Rattle.decimal.specs.Decimal.{decimal}
use Rattle.fields.specs.Headers.{answer_header, row_header, record_header}

-- "one space apart", and the end of the line
unfoldable pub line : List ℕ → List ℕ
line [] = 10 ∷ []
line (n ∷ []) = decimal n ++ (10 ∷ [])
line (n ∷ m ∷ ns) = decimal n ++ (32 ∷ line (m ∷ ns))

-- a line for each row: four words
unfoldable pub row_lines : List ℕ → List ℕ
row_lines [] = []
row_lines (k ∷ []) = []
row_lines (k ∷ a ∷ []) = []
row_lines (k ∷ a ∷ n ∷ []) = []
row_lines (k ∷ a ∷ n ∷ e ∷ ws) = line (k ∷ a ∷ n ∷ e ∷ []) ++ row_lines ws

-- a line for each record: three words
unfoldable pub record_lines : List ℕ → List ℕ
record_lines [] = []
record_lines (u ∷ []) = []
record_lines (u ∷ x ∷ []) = []
record_lines (u ∷ x ∷ f ∷ ws) = line (u ∷ x ∷ f ∷ []) ++ record_lines ws

-- a header is a line of its own
abbrev pub headed : List ℕ → List ℕ
headed h = h ++ (10 ∷ [])

-- an answer: its number and place, the words of its rows and of its records. "A refusal prints all three headers": it has no words.
unfoldable pub printed : (number place : ℕ) (rows records : List ℕ) → List ℕ
printed number place rows records =
    headed answer_header ++ (line (number ∷ place ∷ length rows / 4 ∷ length records / 3 ∷ [])
    ++ (headed row_header ++ (row_lines rows ++ (headed record_header ++ record_lines records))))

-- row i of some words, n a row
abbrev pub row_at : (n : ℕ) → List ℕ → ℕ → List ℕ
row_at n ws i = map (λ j. get_or ws (n * i + j) 0) (range_with_len 0 n)

-- the lines of the first k rows
unfoldable pub lines_of : (n k : ℕ) → List ℕ → List ℕ
lines_of n zero ws = []
lines_of n (suc k) ws = lines_of n k ws ++ line (row_at n ws k)
