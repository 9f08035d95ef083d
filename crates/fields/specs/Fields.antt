-- Lines, their fields, and the numbers in them: "Fields are decimal u32 without leading zeros, one space apart". Assumes nothing.
use Rattle.std.specs.Prelude.{Bool, true, false, cond, ◌&&◌, ◌||◌, List, [], ◌∷◌, ◌++◌, ◌≡◌, ℕ, ◌+◌, ◌*◌, ◌-◌, ◌≤◌, ◌<◌, length, drop, get_or, ltb, eqb, Option, None, Some}
use Rattle.fields.specs.declared.Row.{Row}

-- a byte before the first of some parts
unfoldable pub push : ℕ → List (List ℕ) → List (List ℕ)
push c [] = (c ∷ []) ∷ []
push c (l ∷ ls) = (c ∷ l) ∷ ls

-- the parts between the b's, before `last`
unfoldable pub split : ℕ → List (List ℕ) → List ℕ → List (List ℕ)
split b last [] = last
split b last (c ∷ s) = cond (eqb c b) ([] ∷ split b last s) (push c (split b last s))

-- a newline ends a line, and the last line may lack it
abbrev pub lines : List ℕ → List (List ℕ)
lines s = split 10 [] s

-- "one space apart"
abbrev pub fields : List ℕ → List (List ℕ)
fields s = split 32 ([] ∷ []) s

-- the bytes before the first b
unfoldable pub up_to : ℕ → List ℕ → List ℕ
up_to b [] = []
up_to b (c ∷ s) = cond (eqb c b) [] (c ∷ up_to b s)

-- x stands before the first b of s, and y behind it
pub record Parted (b : ℕ) (s x y : List ℕ) : Type 0 where
  pub before : up_to b s ≡ x
  pub whole : s ≡ x ++ (b ∷ y)

-- x is the first line of s, up to its newline or to the end, and y is all that stands behind it, whose lines are those behind the first
pub record Lined (s x y : List ℕ) : Type 0 where
  pub before : up_to 10 s ≡ x
  pub behind : y ≡ drop (length x + 1) s
  pub first : lines s ≡ x ∷ lines y
  pub shorter : length y < length s
  pub fits : length x + length y ≤ length s

unfoldable pub same_bytes : List ℕ → List ℕ → Bool
same_bytes [] [] = true
same_bytes [] (y ∷ b) = false
same_bytes (x ∷ a) [] = false
same_bytes (x ∷ a) (y ∷ b) = cond (eqb x y) (same_bytes a b) false

-- the number that digits make after v, while it is a u32
unfoldable pub digits_of : ℕ → List ℕ → Option ℕ
digits_of v [] = Some v
digits_of v (c ∷ s) = cond (ltb c 48) None (cond (ltb 57 c) None (cond (ltb 4294967295 (v * 10 + (c - 48))) None (digits_of (v * 10 + (c - 48)) s)))

-- "decimal u32 without leading zeros"
unfoldable pub number : List ℕ → Option ℕ
number [] = None
number (c ∷ []) = digits_of 0 (c ∷ [])
number (c ∷ d ∷ s) = cond (eqb c 48) None (digits_of 0 (c ∷ d ∷ s))

abbrev pub given : Option ℕ → (ℕ → Option Row) → Option Row
given (Some n) f = f n
given None f = None

-- four numbers, all good
abbrev pub row_words : Option ℕ → Option ℕ → Option ℕ → Option ℕ → Option Row
row_words a b c d = given a (λ k. given b (λ l. given c (λ m. given d (λ n. Some (record { kind = k; attr = l; name = m; end = n })))))

-- a row's line has four fields: "kind attr name end"
unfoldable pub row_of : List (List ℕ) → Option Row
row_of [] = None
row_of (a ∷ []) = None
row_of (a ∷ b ∷ []) = None
row_of (a ∷ b ∷ c ∷ []) = None
row_of (a ∷ b ∷ c ∷ d ∷ []) = row_words (number a) (number b) (number c) (number d)
row_of (a ∷ b ∷ c ∷ d ∷ e ∷ s) = None

-- "the switches 0 or 1"
abbrev pub is_bit : ℕ → Bool
is_bit c = eqb c 48 || eqb c 49

-- the line of the switches: three of them, one space apart
unfoldable pub switches_ok : List ℕ → Bool
switches_ok s = cond (eqb (length s) 5) (is_bit (get_or s 0 0) && eqb (get_or s 1 0) 32 && is_bit (get_or s 2 0) && eqb (get_or s 3 0) 32 && is_bit (get_or s 4 0)) false

-- the three, where the line is theirs: whether each is a 1
abbrev pub three_bits : List ℕ → Option (Bool × Bool × Bool)
three_bits s = cond (switches_ok s) (Some (eqb (get_or s 0 0) 49, eqb (get_or s 2 0) 49, eqb (get_or s 4 0) 49)) None

-- one of them
abbrev pub bit_of : ℕ → Option Bool
bit_of c = cond (is_bit c) (Some (eqb c 49)) None
