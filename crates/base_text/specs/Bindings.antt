-- The record of a binding, and refusal 11. "Record: use (1 this, 2 arguments, 3 get, 4 set, 5 prop, 6 value), property name number or 0 .., frame's input row". Assumes nothing.
use Rattle.std.specs.Prelude.{ℕ, ◌+◌, ◌*◌, ◌/◌, ◌-◌, ◌≡◌, Bool, false, cond, ◌||◌, ◌&&◌, List, get_or, length, leb, ltb, eqb, Option, Some, None, is_some}
use Rattle.std.specs.Option.{ForSome}
use Rattle.names.specs.Words.{words}
use Rattle.names.specs.Utf8.{within}
use Rattle.uses.specs.Uses.{use_number}
use Rattle.base_text.specs.declared.bindings.Binding.{Binding}

-- how many words a record has, and how many bytes
abbrev pub record_words : ℕ
record_words = 3

abbrev pub record_bytes : ℕ
record_bytes = 4 * record_words

-- "over 65,535 records" is too many
abbrev pub most_records : ℕ
most_records = 65535

-- how many records some bytes hold
abbrev pub records_in : List ℕ → ℕ
records_in bindings = length bindings / record_bytes

-- the words of binding `number`, from 1. `role` is what the request calls its use, a keyword here
abbrev pub role_of : (bindings : List ℕ) (number : ℕ) → ℕ
role_of bindings number = get_or (words bindings) (record_words * (number - 1)) 0

abbrev pub property_number : (bindings : List ℕ) (number : ℕ) → ℕ
property_number bindings number = get_or (words bindings) (record_words * (number - 1) + 1) 0

abbrev pub frame_of : (bindings : List ℕ) (number : ℕ) → ℕ
frame_of bindings number = get_or (words bindings) (record_words * (number - 1) + 2) 0

-- "property name number or 0"
abbrev pub property_of : ℕ → Option ℕ
property_of p = cond (eqb p 0) None (Some p)

-- not "its record's use is not 1 to 6, property past the names, property not 0 with a use other than 3 or 4, or frame over 16,383", where there are so many names
abbrev pub record_ok : (names role property frame : ℕ) → Bool
record_ok names role property frame = within 1 6 role && leb property names && (eqb property 0 || eqb role 3 || eqb role 4) && leb frame 16383

-- not 11: "number 0 or past the list; or its record's .."; no other record is looked at
unfoldable pub binding_ok : (number : ℕ) (bindings : List ℕ) (names : ℕ) → Bool
binding_ok number bindings names =
    cond (eqb number 0) false
    (cond (ltb (records_in bindings) number) false
    (record_ok names (role_of bindings number) (property_number bindings number) (frame_of bindings number)))

-- Of the code: what is read of a record with these words, and of a list of them. There is a binding exactly where it is not 11.
pub record HoldsRecord (names role property frame : ℕ) (read : Option Binding) : Type 0 where
  pub told : is_some read ≡ record_ok names role property frame
  pub holds : ForSome read (λ binding. (use_number binding.usage ≡ role) × (binding.property ≡ property_of property))

pub record HoldsBinding (number : ℕ) (bindings : List ℕ) (names : ℕ) (read : Option Binding) : Type 0 where
  pub told : is_some read ≡ binding_ok number bindings names
  pub holds : ForSome read (λ binding. (use_number binding.usage ≡ role_of bindings number) × (binding.property ≡ property_of (property_number bindings number)))
