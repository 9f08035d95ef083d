-- UTF-8 to and from code points: the Unicode Standard, Table 3-6, "UTF-8 Bit Distribution". Assumes nothing.
use Rattle.std.specs.Prelude.{ℕ, ◌+◌, ◌*◌, ◌/◌, ◌%◌, cond, List, [], ◌∷◌, ◌++◌, get_or, ltb, eqb}
use Rattle.names.specs.Utf8.{seq_at}

-- the code point of a well-formed sequence of that width
unfoldable pub code_of : (width a b c d : ℕ) → ℕ
code_of width a b c d =
    cond (eqb width 1) a
    (cond (eqb width 2) (a % 32 * 64 + b % 64)
    (cond (eqb width 3) (a % 16 * 4096 + b % 64 * 64 + c % 64)
    (a % 8 * 262144 + b % 64 * 4096 + c % 64 * 64 + d % 64)))

-- the first character of a text that is UTF-8: how many bytes it has, and its code point
abbrev pub first_width : List ℕ → ℕ
first_width s = seq_at s 0

abbrev pub first_code : List ℕ → ℕ
first_code s = code_of (first_width s) (get_or s 0 0) (get_or s 1 0) (get_or s 2 0) (get_or s 3 0)

-- the bytes of a code point
abbrev pub encode : ℕ → List ℕ
encode c =
    cond (ltb c 0x80) (c ∷ [])
    (cond (ltb c 0x800) ((0xC0 + c / 64) ∷ (0x80 + c % 64) ∷ [])
    (cond (ltb c 0x10000) ((0xE0 + c / 4096) ∷ (0x80 + c / 64 % 64) ∷ (0x80 + c % 64) ∷ [])
    ((0xF0 + c / 262144) ∷ (0x80 + c / 4096 % 64) ∷ (0x80 + c / 64 % 64) ∷ (0x80 + c % 64) ∷ [])))

unfoldable pub encode_all : List ℕ → List ℕ
encode_all [] = []
encode_all (c ∷ cs) = encode c ++ encode_all cs
