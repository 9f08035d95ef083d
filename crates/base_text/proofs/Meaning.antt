-- What the answer means: an acceptance has counted all of the text, 9 is said only where the text does not fit, and all that 1, 4, 11 and 10 leave is accepted where it fits. Assumes nothing.
use Rattle.std.specs.Prelude.{Option, Some, None}
use Prim.Native.Nat.{ℕ, ◌<◌, ◌≤◌}
use mathlib.Core.Path.{◌≡◌, refl, ◌∙◌}
use mathlib.Core.Bool.{Bool, true, false, cond}
use mathlib.Core.List.{List}
use borrow.Author.Tests.{le-ltb, ltb-true, ltb-false}
use lib.Dec.{T, ltb}
use lib.ListN.{length}
use Rattle.names.specs.Words.{names_in}
use Rattle.names.specs.Names.{bytes_of, first_bad_name}
use Rattle.letters.specs.Characters.{first_code}
use Rattle.letters.specs.Letters.{known}
use Rattle.std.specs.Prelude.{Option, Some, None, Result, Ok, Err}
use Rattle.base_text.specs.Bindings.{property_number, property_of, binding_ok}
use Rattle.base_text.specs.Refusals.{unless, sizes_ok, name_fault, front_of, letter_of, property_fault, fault_of, fitted, base_text, text_answer, spelled, Told}
use Rattle.base_text.specs.declared.Refusal.{Refusal}
use Rattle.base_text.specs.declared.Refusal.TheVariants.{Malformed, BadName, BadBinding, UnknownLetter, NoRoom}

-- of a refusal, and of an answer, with so many bytes lent for a text of `size` bytes
abbrev pub FairRefusal : (room size : ℕ) → Refusal → Type 0
FairRefusal room size NoRoom = room < size
FairRefusal room size Malformed = T true
FairRefusal room size (BadName name) = T true
FairRefusal room size (BadBinding binding) = T true
FairRefusal room size (UnknownLetter binding) = T true

abbrev pub Fair : (room size : ℕ) → Result ℕ Refusal → Type 0
Fair room size (Ok bytes) = (bytes ≡ size) × (size ≤ room)
Fair room size (Err refusal) = FairRefusal room size refusal

-- of a test
abbrev FairTest : (room size : ℕ) → Result (Unit {0}) Refusal → Type 0
FairTest room size (Ok passed) = T true
FairTest room size (Err refusal) = FairRefusal room size refusal

fair_unless : (room size : ℕ) (t : Result (Unit {0}) Refusal) (x : Result ℕ Refusal) → FairTest room size t → Fair room size x → Fair room size (unless t x)
fair_unless room size (Ok passed) x p q = q
fair_unless room size (Err refusal) x p q = p

fair_cond : (room size : ℕ) (b : Bool) (x y : Result (Unit {0}) Refusal) → FairTest room size x → FairTest room size y → FairTest room size (cond b x y)
fair_cond room size true x y p q = p
fair_cond room size false x y p q = q

fair_found : (room size : ℕ) (f : Option ℕ) → FairTest room size (name_fault f)
fair_found room size (Some name) = tt
fair_found room size None = tt

fair_property : (room size number : ℕ) (names text : List ℕ) (p : Option ℕ) → FairTest room size (property_fault number names text p)
unfolding letter_of
fair_property room size number names text (Some k) = fair_cond room size (known (first_code (bytes_of names text k))) (Ok tt) (Err (UnknownLetter number)) tt tt
fair_property room size number names text None = tt

fair_at : (room size : ℕ) (b : Bool) → ltb room size ≡ b → Fair room size (cond b (Err NoRoom) (Ok size))
fair_at room size true q = ltb-true room size q
fair_at room size false q = (refl, ltb-false room size q)

fair_fitted : (room size : ℕ) → Fair room size (fitted room size)
fair_fitted room size = fair_at room size (ltb room size) refl

module _ (number : ℕ) (bindings names text : List ℕ) (room : ℕ) where
  fair_front : (size : ℕ) → FairTest room size (front_of bindings names text)
  unfolding front_of
  fair_front size = fair_cond room size (sizes_ok (length bindings) (length names) (length text)) (name_fault (first_bad_name names text)) (Err Malformed) (fair_found room size (first_bad_name names text)) tt

  fair_fault : (size : ℕ) → FairTest room size (fault_of number bindings names text)
  unfolding fault_of
  fair_fault size =
      let p = property_of (property_number bindings number) in
      fair_cond room size (binding_ok number bindings (names_in names)) (property_fault number names text p) (Err (BadBinding number)) (fair_property room size number names text p) tt

  pub fair : Fair room (length (base_text number bindings names text)) (spelled number bindings names text room)
  unfolding spelled text_answer
  fair =
      let size = length (base_text number bindings names text) in
      fair_unless room size (front_of bindings names text) (text_answer number bindings names text room) (fair_front size)
      (fair_unless room size (fault_of number bindings names text) (fitted room size) (fair_fault size) (fair_fitted room size))

  -- the answer of one binding, where it passes 11 and 10 and fits, and where it does not pass them
  text_written : fault_of number bindings names text ≡ Ok tt → length (base_text number bindings names text) ≤ room → text_answer number bindings names text room ≡ Ok (length (base_text number bindings names text))
  unfolding text_answer
  text_written b l = rw (b, le-ltb room (length (base_text number bindings names text)) l)

  text_refused : (f : Refusal) → fault_of number bindings names text ≡ Err f → text_answer number bindings names text room ≡ Err f
  unfolding text_answer
  text_refused f b = rw b

  pub accepts : front_of bindings names text ≡ Ok tt → fault_of number bindings names text ≡ Ok tt → length (base_text number bindings names text) ≤ room
      → spelled number bindings names text room ≡ Ok (length (base_text number bindings names text))
  unfolding spelled
  accepts a b l = rw a (text_written b l)

  -- the same of what `text_of` tells
  pub told-written : {r : Result ℕ Refusal} {w before after : List ℕ} → Told r (text_answer number bindings names text room) w before after → fault_of number bindings names text ≡ Ok tt
      → length (base_text number bindings names text) ≤ room → r ≡ Ok (length (base_text number bindings names text))
  told-written t b l = t.right ∙ text_written b l

  pub told_refused : {r : Result ℕ Refusal} {w before after : List ℕ} {f : Refusal} → Told r (text_answer number bindings names text room) w before after → fault_of number bindings names text ≡ Err f → r ≡ Err f
  told_refused {f = f} t b = t.right ∙ text_refused f b
