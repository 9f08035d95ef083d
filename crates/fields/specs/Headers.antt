-- The header lines of a sheet, without their newlines, as bytes. Assumes nothing.
use Rattle.std.specs.Prelude.{List, [], ◌∷◌, ℕ}

-- `arrow async asyncgen`
abbrev pub switch_header : List ℕ
switch_header = 97 ∷ 114 ∷ 114 ∷ 111 ∷ 119 ∷ 32 ∷ 97 ∷ 115 ∷ 121 ∷ 110 ∷ 99 ∷ 32 ∷ 97 ∷ 115 ∷ 121 ∷ 110 ∷ 99 ∷ 103 ∷ 101 ∷ 110 ∷ []

-- `name`
abbrev pub name_header : List ℕ
name_header = 110 ∷ 97 ∷ 109 ∷ 101 ∷ []

-- `kind attr name end`
abbrev pub row_header : List ℕ
row_header = 107 ∷ 105 ∷ 110 ∷ 100 ∷ 32 ∷ 97 ∷ 116 ∷ 116 ∷ 114 ∷ 32 ∷ 110 ∷ 97 ∷ 109 ∷ 101 ∷ 32 ∷ 101 ∷ 110 ∷ 100 ∷ []

-- `refusal place rows bindings`
abbrev pub answer_header : List ℕ
answer_header = 114 ∷ 101 ∷ 102 ∷ 117 ∷ 115 ∷ 97 ∷ 108 ∷ 32 ∷ 112 ∷ 108 ∷ 97 ∷ 99 ∷ 101 ∷ 32 ∷ 114 ∷ 111 ∷ 119 ∷ 115 ∷ 32 ∷ 98 ∷ 105 ∷ 110 ∷ 100 ∷ 105 ∷ 110 ∷ 103 ∷ 115 ∷ []

-- `use property owner`
abbrev pub record_header : List ℕ
record_header = 117 ∷ 115 ∷ 101 ∷ 32 ∷ 112 ∷ 114 ∷ 111 ∷ 112 ∷ 101 ∷ 114 ∷ 116 ∷ 121 ∷ 32 ∷ 111 ∷ 119 ∷ 110 ∷ 101 ∷ 114 ∷ []
