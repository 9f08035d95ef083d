-- Well-formed UTF-8: the Unicode Standard, Table 3-7, "Well-Formed UTF-8 Byte Sequences". Assumes nothing.
use Rattle.std.specs.Prelude.{ℕ, zero, suc, ◌+◌, Bool, true, false, cond, ◌||◌, ◌&&◌, List, get_or, length, leb, ltb, eqb}

abbrev pub within : ℕ → ℕ → ℕ → Bool
within lo hi b = leb lo b && leb b hi

-- a continuation byte
abbrev pub tail : ℕ → Bool
tail b = within 0x80 0xBF b

-- the table's row for U+0080..U+07FF
abbrev pub two : ℕ → ℕ → Bool
two a b = within 0xC2 0xDF a && tail b

-- its four rows for U+0800..U+FFFF: no overlong form (E0), no surrogate (ED)
abbrev pub three : ℕ → ℕ → ℕ → Bool
three a b c =
    (within 0xE0 0xE0 a && within 0xA0 0xBF b && tail c)
    || (within 0xE1 0xEC a && tail b && tail c)
    || (within 0xED 0xED a && within 0x80 0x9F b && tail c)
    || (within 0xEE 0xEF a && tail b && tail c)

-- its three rows for U+10000..U+10FFFF: no overlong form (F0), nothing above U+10FFFF (F4)
abbrev pub four : ℕ → ℕ → ℕ → ℕ → Bool
four a b c d =
    (within 0xF0 0xF0 a && within 0x90 0xBF b && tail c && tail d)
    || (within 0xF1 0xF3 a && tail b && tail c && tail d)
    || (within 0xF4 0xF4 a && within 0x80 0x8F b && tail c && tail d)

-- the length of the well-formed sequence that these bytes start with, 0 where they start with none
unfoldable pub seq_of : ℕ → ℕ → ℕ → ℕ → ℕ
seq_of a b c d = cond (leb a 0x7F) 1 (cond (two a b) 2 (cond (three a b c) 3 (cond (four a b c d) 4 0)))

-- the same at byte i; past the end stands 0, which continues no sequence
abbrev pub seq_at : List ℕ → ℕ → ℕ
seq_at s i = seq_of (get_or s i 0) (get_or s (i + 1) 0) (get_or s (i + 2) 0) (get_or s (i + 3) 0)

-- the bytes from i on are well-formed sequences, one after the other. The first argument is fuel, a unit a byte
unfoldable pub utf8_from : ℕ → List ℕ → ℕ → Bool
utf8_from zero s i = true
utf8_from (suc f) s i = cond (ltb i (length s)) (cond (eqb (seq_at s i) 0) false (utf8_from f s (i + seq_at s i))) true

unfoldable pub utf8 : List ℕ → Bool
utf8 s = utf8_from (length s) s 0
