-- A sheet as it is written for the program, and what can be written so. Assumes nothing.
use Rattle.std.specs.Prelude.{◌≡◌, Bool, true, false, cond, List, [], ◌∷◌, ◌++◌, ℕ, ◌<◌, ◌^◌, eqb}
use Rattle.fields.specs.Headers.{switch_header, name_header, row_header}
use Rattle.printer.specs.Print.{headed, row_lines}
use Rattle.fields.specs.Fields.{same_bytes}

-- "the switches 0 or 1"
abbrev pub bit : Bool → ℕ
bit b = cond b 49 48

-- "Names stand one a line"
unfoldable pub name_lines : List (List ℕ) → List ℕ
name_lines [] = []
name_lines (l ∷ ls) = l ++ (10 ∷ name_lines ls)

-- the text: the row lines are those that an answer is printed with
unfoldable pub sheet_text : (arrow async asyncgen : Bool) (names : List (List ℕ)) (rows : List ℕ) → List ℕ
sheet_text arrow async asyncgen names rows =
    headed switch_header ++ ((bit arrow ∷ 32 ∷ bit async ∷ 32 ∷ bit asyncgen ∷ 10 ∷ [])
    ++ (headed name_header ++ (name_lines names ++ (headed row_header ++ row_lines rows))))

-- no byte is b
abbrev pub clear : ℕ → List ℕ → Bool
clear b [] = true
clear b (c ∷ s) = cond (eqb c b) false (clear b s)

-- no name has a newline, and none is the header that ends the names
abbrev pub Plain : List (List ℕ) → Type 0
Plain [] = Unit {0}
Plain (l ∷ ls) = (clear 10 l ≡ true) × (same_bytes l row_header ≡ false) × Plain ls

-- whole rows of 32-bit words
abbrev pub Whole : List ℕ → Type 0
Whole [] = Unit {0}
Whole (k ∷ []) = ⊥
Whole (k ∷ a ∷ []) = ⊥
Whole (k ∷ a ∷ n ∷ []) = ⊥
Whole (k ∷ a ∷ n ∷ e ∷ ws) = (k < 2 ^ 32) × (a < 2 ^ 32) × (n < 2 ^ 32) × (e < 2 ^ 32) × Whole ws
