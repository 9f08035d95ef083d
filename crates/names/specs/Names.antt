-- "A name is 1.. into pairs (start, length) over a UTF-8 text, 0 for none. Names are compared by bytes." Assumes nothing.
use Rattle.std.specs.Prelude.{ℕ, ◌+◌, ◌*◌, ◌-◌, ◌%◌, ◌≤◌, ◌<◌, ◌≡◌, Bool, true, false, cond, ◌||◌, ◌&&◌, not, List, [], ◌∷◌, get_or, length, take, drop, leb, ltb, eqb, Option}
use Rattle.names.specs.Words.{words, names_in}
use Rattle.names.specs.Utf8.{utf8}
use Rattle.names.specs.First.{first}

-- where name k, from 1, starts in the text, and its length in bytes
abbrev pub start_of : List ℕ → ℕ → ℕ
start_of names k = get_or (words names) (2 * (k - 1)) 0

abbrev pub length_of : List ℕ → ℕ → ℕ
length_of names k = get_or (words names) (2 * (k - 1) + 1) 0

-- the bytes of name k; 0 is no name and has none
unfoldable pub bytes_of : (names text : List ℕ) (k : ℕ) → List ℕ
bytes_of names text k = cond (eqb k 0) [] (take (length_of names k) (drop (start_of names k) text))

unfoldable pub same_bytes : List ℕ → List ℕ → Bool
same_bytes [] [] = true
same_bytes [] (y ∷ ys) = false
same_bytes (x ∷ xs) [] = false
same_bytes (x ∷ xs) (y ∷ ys) = eqb x y && same_bytes xs ys

-- "Names are compared by bytes."
unfoldable pub same_name : (names text : List ℕ) (j k : ℕ) → Bool
same_name names text j k = same_bytes (bytes_of names text j) (bytes_of names text k)

-- the bytes of `arguments`, the one name that a rule asks for
unfoldable pub arguments_bytes : List ℕ
arguments_bytes = 0x61 ∷ 0x72 ∷ 0x67 ∷ 0x75 ∷ 0x6D ∷ 0x65 ∷ 0x6E ∷ 0x74 ∷ 0x73 ∷ []

unfoldable pub is_arguments : (names text : List ℕ) (k : ℕ) → Bool
is_arguments names text k = same_bytes (bytes_of names text k) arguments_bytes

-- not 1, as far as it speaks of names and text: "name words odd; names over 4,096; text over 65,535 bytes". The arguments are lengths in bytes.
abbrev pub names_fit : (names text : ℕ) → Bool
names_fit names text = eqb (names % 8) 0 && leb names 32768 && leb text 65535

-- refusal 4: "out of the text, length 0 or over 255, not UTF-8"
unfoldable pub bad_name : (names text : List ℕ) (k : ℕ) → Bool
bad_name names text k =
    ltb (length text) (start_of names k + length_of names k)
    || (eqb (length_of names k) 0 || ltb 255 (length_of names k))
    || not (utf8 (take (length_of names k) (drop (start_of names k) text)))

-- "first bad name"
unfoldable pub first_bad_name : (names text : List ℕ) → Option ℕ
first_bad_name names text = first (bad_name names text) (names_in names) 1

-- what refusal 4 leaves of name k: it lies in the text, has 1 to 255 bytes, and is UTF-8
pub record GoodName (names text : List ℕ) (k : ℕ) : Type 0 where
  pub within : start_of names k + length_of names k ≤ length text
  pub some : 0 < length_of names k
  pub short : length_of names k ≤ 255
  pub spelled : utf8 (take (length_of names k) (drop (start_of names k) text)) ≡ true
