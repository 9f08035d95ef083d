-- "The spelling of an Ident is handed back as a part of the script's text or of the made text, and the promise says which part it is." Assumes nothing.
use Rattle.std.specs.Prelude.{ℕ, ◌+◌, ◌≤◌, ◌<◌, ◌≡◌, Bool, false, cond, ◌&&◌, List, [], Option, Some, None, is_some, length, take, drop, eqb, ltb, leb}
use Rattle.names.specs.Words.{names_in}
use Rattle.names.specs.Names.{start_of, length_of}
use Rattle.lookup.specs.declared.Part.{Part}

-- "its number has no pair that lies in its text": a number from 1 to the whole pairs, whose part ends in the text
unfoldable pub lies : (pairs text : List ℕ) (number : ℕ) → Bool
lies pairs text number = ltb 0 number && leb number (names_in pairs) && leb (start_of pairs number + length_of pairs number) (length text)

-- by the Ident's attr: 0 the script's names and text, 1 the made ones; "the Ident's attr is above 1" has neither
abbrev pub by_attr : {A : Type 0} (attr : ℕ) (script made neither : A) → A
by_attr attr script made neither = cond (eqb attr 0) script (cond (eqb attr 1) made neither)

-- whether an Ident of that attr and number has a spelling
abbrev pub spells : (attr number : ℕ) (names text made_pairs made_text : List ℕ) → Bool
spells attr number names text made_pairs made_text = by_attr attr (lies names text number) (lies made_pairs made_text number) false

-- "a check beside it gives 18"
abbrev pub number_of : Bool → ℕ
number_of there = cond there 0 18

-- where the part starts, and its bytes; "an empty part" at the front where there is none
abbrev pub start_in : (pairs text : List ℕ) (number : ℕ) → ℕ
start_in pairs text number = cond (lies pairs text number) (start_of pairs number) 0

abbrev pub bytes_in : (pairs text : List ℕ) (number : ℕ) → ℕ
bytes_in pairs text number = cond (lies pairs text number) (length_of pairs number) 0

-- the part of a text
abbrev pub part_of : (pairs text : List ℕ) (number : ℕ) → List ℕ
part_of pairs text number = take (bytes_in pairs text number) (drop (start_in pairs text number) text)

-- the spelling: a part of the script's text or of the made text
abbrev pub spelling_of : (attr number : ℕ) (names text made_pairs made_text : List ℕ) → List ℕ
spelling_of attr number names text made_pairs made_text = by_attr attr (part_of names text number) (part_of made_pairs made_text number) []

-- Of the code: where a part starts, and its bytes; 0 and 0 where there is none.
abbrev pub start_at : Option Part → ℕ
start_at None = 0
start_at (Some part) = part.start

abbrev pub bytes_at : Option Part → ℕ
bytes_at None = 0
bytes_at (Some part) = part.bytes

-- what `part_in` answers of some pairs and a text
pub record PartIn (pairs text : List ℕ) (number : ℕ) (part : Option Part) : Type 0 where
  pub told : is_some part ≡ lies pairs text number
  pub starts : start_at part ≡ start_in pairs text number
  pub counted : bytes_at part ≡ bytes_in pairs text number
  pub inside : start_at part + bytes_at part ≤ length text
  pub small : (start_at part < 4294967296) × (bytes_at part < 4294967296)

-- what `part_of` answers: whether there is a spelling, and which part it is of the text that the attr names
pub record PartOf (attr number : ℕ) (names text made_pairs made_text : List ℕ) (part : Option Part) : Type 0 where
  pub told : is_some part ≡ spells attr number names text made_pairs made_text
  pub starts : start_at part ≡ by_attr attr (start_in names text number) (start_in made_pairs made_text number) 0
  pub counted : bytes_at part ≡ by_attr attr (bytes_in names text number) (bytes_in made_pairs made_text number) 0
  pub inside : start_at part + bytes_at part ≤ by_attr attr (length text) (length made_text) 0
  pub small : (start_at part < 4294967296) × (bytes_at part < 4294967296)
