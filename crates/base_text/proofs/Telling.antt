-- What each way out of the code answers and writes. Assumes nothing.
use Prim.Native.Nat.{ℕ, ◌<◌, ◌≤◌}
use mathlib.Core.Path.{◌≡◌, refl, ap, sym, ◌∙◌}
use mathlib.Core.Bool.{true, false}
use mathlib.Core.List.{List, [], ◌++◌, append-nil}
use native.Mathlib.Omega.{arith}
use borrow.Author.Tests.{lt-ltb, le-ltb}
use lib.ListN.{length, drop}
use lib.Seq.{take_all}
use Rattle.std.specs.Prelude.{Option, Some, None, Result, Ok, Err}
use Rattle.names.specs.Words.{names_in}
use Rattle.names.specs.Names.{bytes_of}
use Rattle.letters.specs.Characters.{first_width, first_code}
use Rattle.letters.specs.Letters.{known, capital}
use Rattle.base_text.specs.Bindings.{role_of, property_number, property_of, binding_ok}
use Rattle.base_text.specs.Bases.{base_of, with_property, text_for}
use Rattle.base_text.specs.Refusals.{front_of, letter_of, fault_of, fitted, base_text, text_answer, spelled, Told, named_answer, answer_for}
use Rattle.base_text.specs.declared.Refusal.{Refusal}
use Rattle.base_text.specs.declared.Refusal.TheVariants.{BadBinding, UnknownLetter, NoRoom}

-- some bytes, as they have room
module _ (w out : List ℕ) (n : ℕ) (size : length w ≡ n) where
  pub no_room : length out < n → Told (Err NoRoom) (fitted (length out) (length w)) w out out
  no_room l = record { right = rw (size, lt-ltb _ _ l); bytes = refl }

  pub written : (out' : List ℕ) → n ≤ length out → out' ≡ w ++ drop n out → Told (Ok n) (fitted (length out) (length w)) w out out'
  written out' l e =
      let h : length w ≤ n = omega arith in
      record { right = rw (size, le-ltb _ _ l); bytes = e ∙ ap (λ (x : List ℕ). x ++ drop n out) (sym (take_all n w h)) }

-- a property, by its first character
module _ (number : ℕ) (base s out : List ℕ) where
  pub letter : known (first_code s) ≡ false → Told (Err (UnknownLetter number)) (named_answer number base s (length out)) (with_property base s) out out
  unfolding letter_of
  letter k = record { right = rw k; bytes = refl }

  pub capitalized : (r : Result ℕ Refusal) (capitals rest out' : List ℕ) → known (first_code s) ≡ true → capitals ≡ capital (first_code s) → rest ≡ drop (first_width s) s
      → Told r (fitted (length out) (length (base ++ (capitals ++ rest)))) (base ++ (capitals ++ rest)) out out'
      → Told r (named_answer number base s (length out)) (with_property base s) out out'
  unfolding letter_of with_property
  capitalized r capitals rest out' k e q h = record { right = h.right ∙ rw (k, e, q); bytes = h.bytes ∙ rw (e, q) }

-- the bare base, and a property by its name
module _ (number : ℕ) (base names text out : List ℕ) (p : Option ℕ) where
  pub bare : (r : Result ℕ Refusal) (out' : List ℕ) → p ≡ None → Told r (fitted (length out) (length (base ++ ([] ++ [])))) (base ++ ([] ++ [])) out out'
      → Told r (answer_for number base names text p (length out)) (text_for base names text p) out out'
  bare r out' e h = record { right = h.right ∙ rw (e, append-nil base); bytes = h.bytes ∙ rw (e, append-nil base) }

  pub named : (k : ℕ) (r : Result ℕ Refusal) (out' : List ℕ) → p ≡ Some k → Told r (named_answer number base (bytes_of names text k) (length out)) (with_property base (bytes_of names text k)) out out'
      → Told r (answer_for number base names text p (length out)) (text_for base names text p) out out'
  named k r out' e h = record { right = h.right ∙ rw e; bytes = h.bytes ∙ rw e }

-- the answer of one binding, and the whole answer, in the order of the tests
module _ (number : ℕ) (bindings names text out : List ℕ) where
  pub told_binding : binding_ok number bindings (names_in names) ≡ false → Told (Err (BadBinding number)) (text_answer number bindings names text (length out)) (base_text number bindings names text) out out
  unfolding text_answer fault_of
  told_binding a = record { right = rw a; bytes = refl }

  pub told_text : (r : Result ℕ Refusal) (role : ℕ) (p : Option ℕ) (out' : List ℕ) → binding_ok number bindings (names_in names) ≡ true → role ≡ role_of bindings number → p ≡ property_of (property_number bindings number)
      → Told r (answer_for number (base_of role) names text p (length out)) (text_for (base_of role) names text p) out out'
      → Told r (text_answer number bindings names text (length out)) (base_text number bindings names text) out out'
  unfolding text_answer fault_of base_text
  told_text r role p out' a d e h = record { right = h.right ∙ rw (a, d, e); bytes = h.bytes ∙ rw (d, e) }

  pub told-front : (f : Refusal) → front_of bindings names text ≡ Err f → Told (Err f) (spelled number bindings names text (length out)) (base_text number bindings names text) out out
  unfolding spelled
  told-front f a = record { right = rw a; bytes = refl }

  pub told-spelled : (r : Result ℕ Refusal) (out' : List ℕ) → front_of bindings names text ≡ Ok tt → Told r (text_answer number bindings names text (length out)) (base_text number bindings names text) out out'
      → Told r (spelled number bindings names text (length out)) (base_text number bindings names text) out out'
  unfolding spelled
  told-spelled r out' a h = record { right = h.right ∙ rw a; bytes = h.bytes }
