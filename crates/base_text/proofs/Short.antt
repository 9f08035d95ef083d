-- How long a text is: a base has at most 13 bytes, the capitals of a first character at most 2, and the rest of a name at most 254. Assumes nothing.
use Prim.Native.Nat.{ℕ, ◌<◌, ◌≤◌}
use mathlib.Core.Path.{◌≡◌}
use mathlib.Core.Bool.{Bool, true, false, cond}
use mathlib.Core.List.{List}
use native.Mathlib.Omega.{arith}
use borrow.Author.Tests.{ne_eqb}
use lib.Dec.{eqb}
use lib.ListN.{length, take, drop, length-append, length-drop}
use lib.Seq.{length-take-le}
use Rattle.names.specs.Utf8.{utf8}
use Rattle.names.specs.Names.{start_of, length_of, bytes_of, arguments_bytes, GoodName}
use Rattle.names.proofs.GoodNames.{good-name}
use Rattle.letters.specs.Characters.{first_width, first_code}
use Rattle.letters.proofs.Casing.{capital-short}
use Rattle.std.specs.Prelude.{Option, Some, None, Ok}
use Rattle.base_text.specs.Bindings.{role_of, property_number, property_of}
use Rattle.base_text.specs.Bases.{base_of, with_property, text_for, property_ok}
use Rattle.base_text.specs.Refusals.{front_of, fault_of, base_text}
use Rattle.base_text.proofs.FirstCharacter.{some_width}
use Rattle.base_text.proofs.Checking.{fronted, faultless, property-ok, NameAt, name-at}

either : (b : Bool) (x y : List ℕ) → length x ≤ 13 → length y ≤ 13 → length (cond b x y) ≤ 13
either true x y p q = p
either false x y p q = q

pub base_short : (role : ℕ) → length (base_of role) ≤ 13
unfolding base_of arguments_bytes
base_short role =
    either (eqb role 1) _ _ (omega arith)
    (either (eqb role 2) _ _ (omega arith)
    (either (eqb role 3) _ _ (omega arith)
    (either (eqb role 4) _ _ (omega arith)
    (either (eqb role 5) _ _ (omega arith) (omega arith)))))

-- the bytes of a good name
pub record Good (s : List ℕ) : Type 0 where
  pub some : 0 < length s
  pub few : length s ≤ 255
  pub spelled : utf8 s ≡ true

pub good-bytes : (names text : List ℕ) (k : ℕ) → NameAt names text k → Good (bytes_of names text k)
unfolding bytes_of
good-bytes names text k n =
    let g : GoodName names text k = good-name names text k n.good in
    let z : k ≡ 0 → ⊥ = λ q. omega arith in
    let l : length_of names k ≤ length (drop (start_of names k) text) = rw length-drop (omega arith) in
    let e : length (take (length_of names k) (drop (start_of names k) text)) ≡ length_of names k = length-take-le (length_of names k) (drop (start_of names k) text) l in
    record { some = rw (ne_eqb k 0 z, e) g.some; few = rw (ne_eqb k 0 z, e) g.short; spelled = rw (ne_eqb k 0 z) g.spelled }

with-short : (base s : List ℕ) → length base ≤ 13 → Good s → length (with_property base s) ≤ 270
unfolding with_property
with-short base s l g =
    let c = capital-short (first_code s) in
    let w : first_width s ≡ 0 → ⊥ = some_width s g.spelled g.some in
    let few = g.few in
    simp (length-append, length-drop) (omega (arith, w))

for_short : (base names text : List ℕ) (p : Option ℕ) → length base ≤ 13 → property_ok names text p ≡ true → length (text_for base names text p) ≤ 270
for_short base names text (Some k) l h = with-short base (bytes_of names text k) l (good-bytes names text k (name-at names text k h))
for_short base names text None l h = omega arith

pub text_short : (number : ℕ) (bindings names text : List ℕ) → front_of bindings names text ≡ Ok tt → fault_of number bindings names text ≡ Ok tt → length (base_text number bindings names text) ≤ 270
unfolding base_text
text_short number bindings names text a b =
    let p = property_number bindings number in
    for_short (base_of (role_of bindings number)) names text (property_of p) (base_short (role_of bindings number))
    (property-ok names text p (fronted bindings names text a).named (faultless number bindings names text b).bound.property)
