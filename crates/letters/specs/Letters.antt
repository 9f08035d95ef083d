-- Letter case, of a first character. "ASCII: a first byte at or above `a` has 0x20 flipped. U+0080 to U+00FF and U+0400 to U+045F: Unicode's full uppercase, by a 224-entry table (U+00DF gives `SS`)." Assumes nothing.
use Rattle.std.specs.Prelude.{ℕ, ◌+◌, ◌-◌, ◌/◌, ◌%◌, ◌≤◌, ◌≡◌, Bool, cond, ◌||◌, List, [], ◌∷◌, Option, Some, None, is_some, length, ltb, leb, eqb}
use Rattle.std.specs.Int.Bits.{bit_xor}
use Rattle.names.specs.Utf8.{within}
use Rattle.letters.specs.Characters.{encode_all}
use Rattle.letters.specs.declared.Capital.{Capital}
use Rattle.letters.specs.declared.Capital.TheVariants.{One, Two}

-- a character and its full uppercase, as code points
pub record Upper : Type 0 where
  pub code : ℕ
  pub capitals : List ℕ

abbrev up : ℕ → List ℕ → Upper
up code capitals = record { code = code; capitals = capitals }

-- Unicode's full uppercase of U+0080 to U+00FF and of U+0400 to U+045F: what SpecialCasing.txt gives without a condition or a language tag (of these, U+00DF alone), else UnicodeData.txt's simple uppercase, else the character itself.
unfoldable pub uppers : List Upper
uppers =
    up 0x0080 (0x0080 ∷ []) ∷
    up 0x0081 (0x0081 ∷ []) ∷
    up 0x0082 (0x0082 ∷ []) ∷
    up 0x0083 (0x0083 ∷ []) ∷
    up 0x0084 (0x0084 ∷ []) ∷
    up 0x0085 (0x0085 ∷ []) ∷
    up 0x0086 (0x0086 ∷ []) ∷
    up 0x0087 (0x0087 ∷ []) ∷
    up 0x0088 (0x0088 ∷ []) ∷
    up 0x0089 (0x0089 ∷ []) ∷
    up 0x008A (0x008A ∷ []) ∷
    up 0x008B (0x008B ∷ []) ∷
    up 0x008C (0x008C ∷ []) ∷
    up 0x008D (0x008D ∷ []) ∷
    up 0x008E (0x008E ∷ []) ∷
    up 0x008F (0x008F ∷ []) ∷
    up 0x0090 (0x0090 ∷ []) ∷
    up 0x0091 (0x0091 ∷ []) ∷
    up 0x0092 (0x0092 ∷ []) ∷
    up 0x0093 (0x0093 ∷ []) ∷
    up 0x0094 (0x0094 ∷ []) ∷
    up 0x0095 (0x0095 ∷ []) ∷
    up 0x0096 (0x0096 ∷ []) ∷
    up 0x0097 (0x0097 ∷ []) ∷
    up 0x0098 (0x0098 ∷ []) ∷
    up 0x0099 (0x0099 ∷ []) ∷
    up 0x009A (0x009A ∷ []) ∷
    up 0x009B (0x009B ∷ []) ∷
    up 0x009C (0x009C ∷ []) ∷
    up 0x009D (0x009D ∷ []) ∷
    up 0x009E (0x009E ∷ []) ∷
    up 0x009F (0x009F ∷ []) ∷
    up 0x00A0 (0x00A0 ∷ []) ∷
    up 0x00A1 (0x00A1 ∷ []) ∷
    up 0x00A2 (0x00A2 ∷ []) ∷
    up 0x00A3 (0x00A3 ∷ []) ∷
    up 0x00A4 (0x00A4 ∷ []) ∷
    up 0x00A5 (0x00A5 ∷ []) ∷
    up 0x00A6 (0x00A6 ∷ []) ∷
    up 0x00A7 (0x00A7 ∷ []) ∷
    up 0x00A8 (0x00A8 ∷ []) ∷
    up 0x00A9 (0x00A9 ∷ []) ∷
    up 0x00AA (0x00AA ∷ []) ∷
    up 0x00AB (0x00AB ∷ []) ∷
    up 0x00AC (0x00AC ∷ []) ∷
    up 0x00AD (0x00AD ∷ []) ∷
    up 0x00AE (0x00AE ∷ []) ∷
    up 0x00AF (0x00AF ∷ []) ∷
    up 0x00B0 (0x00B0 ∷ []) ∷
    up 0x00B1 (0x00B1 ∷ []) ∷
    up 0x00B2 (0x00B2 ∷ []) ∷
    up 0x00B3 (0x00B3 ∷ []) ∷
    up 0x00B4 (0x00B4 ∷ []) ∷
    up 0x00B5 (0x039C ∷ []) ∷
    up 0x00B6 (0x00B6 ∷ []) ∷
    up 0x00B7 (0x00B7 ∷ []) ∷
    up 0x00B8 (0x00B8 ∷ []) ∷
    up 0x00B9 (0x00B9 ∷ []) ∷
    up 0x00BA (0x00BA ∷ []) ∷
    up 0x00BB (0x00BB ∷ []) ∷
    up 0x00BC (0x00BC ∷ []) ∷
    up 0x00BD (0x00BD ∷ []) ∷
    up 0x00BE (0x00BE ∷ []) ∷
    up 0x00BF (0x00BF ∷ []) ∷
    up 0x00C0 (0x00C0 ∷ []) ∷
    up 0x00C1 (0x00C1 ∷ []) ∷
    up 0x00C2 (0x00C2 ∷ []) ∷
    up 0x00C3 (0x00C3 ∷ []) ∷
    up 0x00C4 (0x00C4 ∷ []) ∷
    up 0x00C5 (0x00C5 ∷ []) ∷
    up 0x00C6 (0x00C6 ∷ []) ∷
    up 0x00C7 (0x00C7 ∷ []) ∷
    up 0x00C8 (0x00C8 ∷ []) ∷
    up 0x00C9 (0x00C9 ∷ []) ∷
    up 0x00CA (0x00CA ∷ []) ∷
    up 0x00CB (0x00CB ∷ []) ∷
    up 0x00CC (0x00CC ∷ []) ∷
    up 0x00CD (0x00CD ∷ []) ∷
    up 0x00CE (0x00CE ∷ []) ∷
    up 0x00CF (0x00CF ∷ []) ∷
    up 0x00D0 (0x00D0 ∷ []) ∷
    up 0x00D1 (0x00D1 ∷ []) ∷
    up 0x00D2 (0x00D2 ∷ []) ∷
    up 0x00D3 (0x00D3 ∷ []) ∷
    up 0x00D4 (0x00D4 ∷ []) ∷
    up 0x00D5 (0x00D5 ∷ []) ∷
    up 0x00D6 (0x00D6 ∷ []) ∷
    up 0x00D7 (0x00D7 ∷ []) ∷
    up 0x00D8 (0x00D8 ∷ []) ∷
    up 0x00D9 (0x00D9 ∷ []) ∷
    up 0x00DA (0x00DA ∷ []) ∷
    up 0x00DB (0x00DB ∷ []) ∷
    up 0x00DC (0x00DC ∷ []) ∷
    up 0x00DD (0x00DD ∷ []) ∷
    up 0x00DE (0x00DE ∷ []) ∷
    up 0x00DF (0x0053 ∷ 0x0053 ∷ []) ∷
    up 0x00E0 (0x00C0 ∷ []) ∷
    up 0x00E1 (0x00C1 ∷ []) ∷
    up 0x00E2 (0x00C2 ∷ []) ∷
    up 0x00E3 (0x00C3 ∷ []) ∷
    up 0x00E4 (0x00C4 ∷ []) ∷
    up 0x00E5 (0x00C5 ∷ []) ∷
    up 0x00E6 (0x00C6 ∷ []) ∷
    up 0x00E7 (0x00C7 ∷ []) ∷
    up 0x00E8 (0x00C8 ∷ []) ∷
    up 0x00E9 (0x00C9 ∷ []) ∷
    up 0x00EA (0x00CA ∷ []) ∷
    up 0x00EB (0x00CB ∷ []) ∷
    up 0x00EC (0x00CC ∷ []) ∷
    up 0x00ED (0x00CD ∷ []) ∷
    up 0x00EE (0x00CE ∷ []) ∷
    up 0x00EF (0x00CF ∷ []) ∷
    up 0x00F0 (0x00D0 ∷ []) ∷
    up 0x00F1 (0x00D1 ∷ []) ∷
    up 0x00F2 (0x00D2 ∷ []) ∷
    up 0x00F3 (0x00D3 ∷ []) ∷
    up 0x00F4 (0x00D4 ∷ []) ∷
    up 0x00F5 (0x00D5 ∷ []) ∷
    up 0x00F6 (0x00D6 ∷ []) ∷
    up 0x00F7 (0x00F7 ∷ []) ∷
    up 0x00F8 (0x00D8 ∷ []) ∷
    up 0x00F9 (0x00D9 ∷ []) ∷
    up 0x00FA (0x00DA ∷ []) ∷
    up 0x00FB (0x00DB ∷ []) ∷
    up 0x00FC (0x00DC ∷ []) ∷
    up 0x00FD (0x00DD ∷ []) ∷
    up 0x00FE (0x00DE ∷ []) ∷
    up 0x00FF (0x0178 ∷ []) ∷
    up 0x0400 (0x0400 ∷ []) ∷
    up 0x0401 (0x0401 ∷ []) ∷
    up 0x0402 (0x0402 ∷ []) ∷
    up 0x0403 (0x0403 ∷ []) ∷
    up 0x0404 (0x0404 ∷ []) ∷
    up 0x0405 (0x0405 ∷ []) ∷
    up 0x0406 (0x0406 ∷ []) ∷
    up 0x0407 (0x0407 ∷ []) ∷
    up 0x0408 (0x0408 ∷ []) ∷
    up 0x0409 (0x0409 ∷ []) ∷
    up 0x040A (0x040A ∷ []) ∷
    up 0x040B (0x040B ∷ []) ∷
    up 0x040C (0x040C ∷ []) ∷
    up 0x040D (0x040D ∷ []) ∷
    up 0x040E (0x040E ∷ []) ∷
    up 0x040F (0x040F ∷ []) ∷
    up 0x0410 (0x0410 ∷ []) ∷
    up 0x0411 (0x0411 ∷ []) ∷
    up 0x0412 (0x0412 ∷ []) ∷
    up 0x0413 (0x0413 ∷ []) ∷
    up 0x0414 (0x0414 ∷ []) ∷
    up 0x0415 (0x0415 ∷ []) ∷
    up 0x0416 (0x0416 ∷ []) ∷
    up 0x0417 (0x0417 ∷ []) ∷
    up 0x0418 (0x0418 ∷ []) ∷
    up 0x0419 (0x0419 ∷ []) ∷
    up 0x041A (0x041A ∷ []) ∷
    up 0x041B (0x041B ∷ []) ∷
    up 0x041C (0x041C ∷ []) ∷
    up 0x041D (0x041D ∷ []) ∷
    up 0x041E (0x041E ∷ []) ∷
    up 0x041F (0x041F ∷ []) ∷
    up 0x0420 (0x0420 ∷ []) ∷
    up 0x0421 (0x0421 ∷ []) ∷
    up 0x0422 (0x0422 ∷ []) ∷
    up 0x0423 (0x0423 ∷ []) ∷
    up 0x0424 (0x0424 ∷ []) ∷
    up 0x0425 (0x0425 ∷ []) ∷
    up 0x0426 (0x0426 ∷ []) ∷
    up 0x0427 (0x0427 ∷ []) ∷
    up 0x0428 (0x0428 ∷ []) ∷
    up 0x0429 (0x0429 ∷ []) ∷
    up 0x042A (0x042A ∷ []) ∷
    up 0x042B (0x042B ∷ []) ∷
    up 0x042C (0x042C ∷ []) ∷
    up 0x042D (0x042D ∷ []) ∷
    up 0x042E (0x042E ∷ []) ∷
    up 0x042F (0x042F ∷ []) ∷
    up 0x0430 (0x0410 ∷ []) ∷
    up 0x0431 (0x0411 ∷ []) ∷
    up 0x0432 (0x0412 ∷ []) ∷
    up 0x0433 (0x0413 ∷ []) ∷
    up 0x0434 (0x0414 ∷ []) ∷
    up 0x0435 (0x0415 ∷ []) ∷
    up 0x0436 (0x0416 ∷ []) ∷
    up 0x0437 (0x0417 ∷ []) ∷
    up 0x0438 (0x0418 ∷ []) ∷
    up 0x0439 (0x0419 ∷ []) ∷
    up 0x043A (0x041A ∷ []) ∷
    up 0x043B (0x041B ∷ []) ∷
    up 0x043C (0x041C ∷ []) ∷
    up 0x043D (0x041D ∷ []) ∷
    up 0x043E (0x041E ∷ []) ∷
    up 0x043F (0x041F ∷ []) ∷
    up 0x0440 (0x0420 ∷ []) ∷
    up 0x0441 (0x0421 ∷ []) ∷
    up 0x0442 (0x0422 ∷ []) ∷
    up 0x0443 (0x0423 ∷ []) ∷
    up 0x0444 (0x0424 ∷ []) ∷
    up 0x0445 (0x0425 ∷ []) ∷
    up 0x0446 (0x0426 ∷ []) ∷
    up 0x0447 (0x0427 ∷ []) ∷
    up 0x0448 (0x0428 ∷ []) ∷
    up 0x0449 (0x0429 ∷ []) ∷
    up 0x044A (0x042A ∷ []) ∷
    up 0x044B (0x042B ∷ []) ∷
    up 0x044C (0x042C ∷ []) ∷
    up 0x044D (0x042D ∷ []) ∷
    up 0x044E (0x042E ∷ []) ∷
    up 0x044F (0x042F ∷ []) ∷
    up 0x0450 (0x0400 ∷ []) ∷
    up 0x0451 (0x0401 ∷ []) ∷
    up 0x0452 (0x0402 ∷ []) ∷
    up 0x0453 (0x0403 ∷ []) ∷
    up 0x0454 (0x0404 ∷ []) ∷
    up 0x0455 (0x0405 ∷ []) ∷
    up 0x0456 (0x0406 ∷ []) ∷
    up 0x0457 (0x0407 ∷ []) ∷
    up 0x0458 (0x0408 ∷ []) ∷
    up 0x0459 (0x0409 ∷ []) ∷
    up 0x045A (0x040A ∷ []) ∷
    up 0x045B (0x040B ∷ []) ∷
    up 0x045C (0x040C ∷ []) ∷
    up 0x045D (0x040D ∷ []) ∷
    up 0x045E (0x040E ∷ []) ∷
    up 0x045F (0x040F ∷ []) ∷
    []

-- the capitals of a character that the list has
unfoldable pub capitals_in : List Upper → ℕ → List ℕ
capitals_in [] c = []
capitals_in (u ∷ us) c = cond (eqb c u.code) u.capitals (capitals_in us c)

-- "U+0080 to U+00FF and U+0400 to U+045F", the 224 characters of the list
abbrev pub in_table : ℕ → Bool
in_table c = within 0x80 0xFF c || within 0x400 0x45F c

-- not 10: "first character outside ASCII, U+0080 to U+00FF, U+0400 to U+045F"
abbrev pub known : ℕ → Bool
known c = ltb c 0x80 || in_table c

-- "ASCII: a first byte at or above `a` has 0x20 flipped"
abbrev pub flipped : ℕ → ℕ
flipped c = cond (leb 0x61 c) (bit_xor c 0x20) c

-- the bytes that stand for a first character, none for one that is not known
unfoldable pub capital : ℕ → List ℕ
capital c = cond (ltb c 0x80) (flipped c ∷ []) (cond (in_table c) (encode_all (capitals_in uppers c)) [])

-- Of the code's table, U+0080 to U+00FF: the two bytes of an entry, the first in the high half; and what the entry at place k has to be.
abbrev pub entry_bytes : ℕ → List ℕ
entry_bytes x = (x / 256) ∷ (x % 256) ∷ []

unfoldable pub entry_for : ℕ → List ℕ
entry_for k = encode_all (capitals_in uppers (0x80 + k))

-- Of the code: the capital of U+0400 to U+045F by change request No. 4, "U+0430 to U+044F go down by 0x20, U+0450 to U+045F by 0x50, U+0400 to U+042F are their own capitals."
-- No public promise rests on it: `cyrillic-entries` proves it equal to those 96 entries of `uppers`.
unfoldable pub cyrillic_capital : ℕ → ℕ
cyrillic_capital c = cond (within 0x430 0x44F c) (c - 0x20) (cond (within 0x450 0x45F c) (c - 0x50) c)

-- Of the code: the bytes of an answer.
abbrev pub bytes_of : Capital → List ℕ
bytes_of (One bytes) = bytes
bytes_of (Two bytes) = bytes

abbrev pub told : Option Capital → List ℕ
told None = []
told (Some answer) = bytes_of answer

-- the code's bytes are those that stand for a first character; there are none exactly where it is not known
pub record Capitals (code : ℕ) (answer : Option Capital) : Type 0 where
  pub bytes : told answer ≡ capital code
  pub most : length (told answer) ≤ 2
  pub heard : is_some answer ≡ known code
