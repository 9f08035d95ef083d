-- The answers of base text: "Base text: 1 .., 4, 11, 10, 9". 1 and 4 are the same for all bindings, the others are of one. Assumes nothing.
use Rattle.std.specs.Prelude.{ℕ, ◌*◌, ◌%◌, ◌≡◌, Bool, cond, ◌&&◌, List, ◌++◌, length, take, drop, leb, ltb, eqb, Option, Some, None, Result, Ok, Err}
use Rattle.names.specs.Words.{names_in}
use Rattle.names.specs.Answered.{if_refused, if_accepted}
use Rattle.names.specs.Names.{names_fit, bytes_of, first_bad_name}
use Rattle.letters.specs.Characters.{first_code}
use Rattle.letters.specs.Letters.{known}
use Rattle.base_text.specs.Bindings.{record_bytes, most_records, role_of, property_number, property_of, binding_ok}
use Rattle.base_text.specs.Bases.{base_of, with_property, text_for}
use Rattle.base_text.specs.declared.Refusal.{Refusal}
use Rattle.base_text.specs.declared.Refusal.TheVariants.{Malformed, BadName, BadBinding, UnknownLetter, NoRoom}

-- The request's number for each refusal (docs/FORMAT.md, "Base text"), and its place.
abbrev pub number_of : Refusal → ℕ
number_of Malformed = 1
number_of (BadName name) = 4
number_of (BadBinding binding) = 11
number_of (UnknownLetter binding) = 10
number_of NoRoom = 9

abbrev pub place_of : Refusal → ℕ
place_of Malformed = 0
place_of (BadName name) = name
place_of (BadBinding binding) = binding
place_of (UnknownLetter binding) = binding
place_of NoRoom = 0

-- The number of an answer of base text or of the maker of names, and its place; of base text's also its count of bytes. "Every refusal has zero counts"; "an acceptance has number 0, place 0".
abbrev pub answer_number : {A : Type 0} → Result A Refusal → ℕ
answer_number answer = if_refused number_of answer

abbrev pub answer_place : {A : Type 0} → Result A Refusal → ℕ
answer_place answer = if_refused place_of answer

abbrev pub count_of : Result ℕ Refusal → ℕ
count_of answer = if_accepted (λ bytes. bytes) answer

-- a refusal, or what is answered where the test was passed
abbrev pub unless : {A : Type 0} → Result (Unit {0}) Refusal → Result A Refusal → Result A Refusal
unless (Ok passed) answer = answer
unless (Err refusal) answer = Err refusal

-- not 1: "binding words not a multiple of 3 or over 65,535 records, or names and text as above". The arguments are lengths in bytes.
abbrev pub sizes_ok : (bindings names text : ℕ) → Bool
sizes_ok bindings names text = eqb (bindings % record_bytes) 0 && leb bindings (most_records * record_bytes) && names_fit names text

-- 4: "first bad name"
abbrev pub name_fault : Option ℕ → Result (Unit {0}) Refusal
name_fault (Some name) = Err (BadName name)
name_fault None = Ok tt

-- what is the same for all bindings: 1, then 4
unfoldable pub front_of : (bindings names text : List ℕ) → Result (Unit {0}) Refusal
front_of bindings names text = cond (sizes_ok (length bindings) (length names) (length text)) (name_fault (first_bad_name names text)) (Err Malformed)

-- 10: "first character outside ASCII, U+0080 to U+00FF, U+0400 to U+045F"
unfoldable pub letter_of : (number : ℕ) (property : List ℕ) → Result (Unit {0}) Refusal
letter_of number property = cond (known (first_code property)) (Ok tt) (Err (UnknownLetter number))

-- the same of a property by its name's number; an access with none has no first character
abbrev pub property_fault : (number : ℕ) (names text : List ℕ) → Option ℕ → Result (Unit {0}) Refusal
property_fault number names text (Some k) = letter_of number (bytes_of names text k)
property_fault number names text None = Ok tt

-- what is found of one binding, but for the room: 11, then 10
unfoldable pub fault_of : (number : ℕ) (bindings names text : List ℕ) → Result (Unit {0}) Refusal
fault_of number bindings names text =
    cond (binding_ok number bindings (names_in names)) (property_fault number names text (property_of (property_number bindings number))) (Err (BadBinding number))

-- 9: "no room for the bytes"
abbrev pub fitted : (room count : ℕ) → Result ℕ Refusal
fitted room count = cond (ltb room count) (Err NoRoom) (Ok count)

-- the text of binding `number`
unfoldable pub base_text : (number : ℕ) (bindings names text : List ℕ) → List ℕ
base_text number bindings names text = text_for (base_of (role_of bindings number)) names text (property_of (property_number bindings number))

-- the answer of one binding, with so many bytes lent: 11, 10, 9
unfoldable pub text_answer : (number : ℕ) (bindings names text : List ℕ) (room : ℕ) → Result ℕ Refusal
text_answer number bindings names text room = unless (fault_of number bindings names text) (fitted room (length (base_text number bindings names text)))

-- the whole answer: 1, 4, 11, 10, 9
unfoldable pub spelled : (number : ℕ) (bindings names text : List ℕ) (room : ℕ) → Result ℕ Refusal
spelled number bindings names text room = unless (front_of bindings names text) (text_answer number bindings names text room)

-- What an answer leaves in the bytes lent: it "writes just the counted .. bytes at the front", and a refusal "writes nothing".
pub record Told (answer expected : Result ℕ Refusal) (wanted before after : List ℕ) : Type 0 where
  pub right : answer ≡ expected
  pub bytes : after ≡ take (count_of answer) wanted ++ drop (count_of answer) before

-- Of the code: the answer for a property with these bytes, and for one by its name's number or none.
abbrev pub named_answer : (number : ℕ) (base property : List ℕ) (room : ℕ) → Result ℕ Refusal
named_answer number base property room = unless (letter_of number property) (fitted room (length (with_property base property)))

abbrev pub answer_for : (number : ℕ) (base names text : List ℕ) → Option ℕ → (room : ℕ) → Result ℕ Refusal
answer_for number base names text property room = unless (property_fault number names text property) (fitted room (length (text_for base names text property)))
