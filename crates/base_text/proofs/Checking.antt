-- What the sizes, the names, and the record and the property of a binding give where they are not turned away. Assumes nothing.
use Prim.Native.Nat.{ℕ, ◌*◌, ◌%◌, ◌<◌, ◌≤◌}
use mathlib.Core.Path.{◌≡◌, refl}
use mathlib.Core.Bool.{Bool, true, false, cond, ◌&&◌, ◌||◌, not}
use mathlib.Core.List.{List}
use native.Mathlib.Omega.{arith}
use borrow.Author.Tests.{lt-ltb, le-leb, eqb-true, eqb-false, leb-true, ltb-true, ltb-false, not-true}
use lib.ListN.{length}
use lib.Dec.{ltb, leb, eqb}
use Rattle.names.specs.Words.{names_in}
use Rattle.names.specs.Utf8.{within}
use Rattle.names.specs.Names.{names_fit, bad_name, first_bad_name, GoodName}
use Rattle.names.proofs.Bools.{and_left, and_right}
use Rattle.names.proofs.Seeking.{first_below, first-none}
use Rattle.names.proofs.GoodNames.{name-sizes, good-name}
use Rattle.std.specs.Prelude.{Some, None, Result, Ok, Err, Option}
use Rattle.base_text.specs.Bindings.{record_bytes, most_records, records_in, role_of, property_number, frame_of, property_of, record_ok, binding_ok}
use Rattle.base_text.specs.Bases.{property_ok}
use Rattle.base_text.specs.Refusals.{sizes_ok, name_fault, front_of, property_fault, fault_of}
use Rattle.base_text.specs.declared.Refusal.{Refusal}
use Rattle.base_text.specs.declared.Refusal.TheVariants.{Malformed, BadBinding}

not_first : (a b : Bool) → cond a false b ≡ true → a ≡ false
not_first true b e = absurd (let z : ◌≡◌ {A = ℕ} 0 1 = cc in omega arith)
not_first false b e = refl

then_second : (a b : Bool) → cond a false b ≡ true → b ≡ true
then_second true b e = absurd (let z : ◌≡◌ {A = ℕ} 0 1 = cc in omega arith)
then_second false b e = e

-- sizes that 1 does not turn away
pub record Sized (bindings names text : ℕ) : Type 0 where
  pub records : bindings ≤ most_records * record_bytes
  pub whole_records : bindings % record_bytes ≡ 0
  pub few : names ≤ 32768
  pub whole_names : names % 8 ≡ 0
  pub short : text ≤ 65535

pub sized : (bindings names text : ℕ) → sizes_ok bindings names text ≡ true → Sized bindings names text
sized bindings names text e =
    let h = and_left (eqb (bindings % record_bytes) 0 && leb bindings (most_records * record_bytes)) (names_fit names text) e in
    let n = name-sizes names text (and_right (eqb (bindings % record_bytes) 0 && leb bindings (most_records * record_bytes)) (names_fit names text) e) in
    record {
      records = leb-true _ _ (and_right (eqb (bindings % record_bytes) 0) (leb bindings (most_records * record_bytes)) h);
      whole_records = eqb-true _ _ (and_left (eqb (bindings % record_bytes) 0) (leb bindings (most_records * record_bytes)) h);
      few = n.few;
      whole_names = n.whole;
      short = n.short;
    }

-- what 1 and 4 leave
pub record Fronted (bindings names text : List ℕ) : Type 0 where
  pub sizes : Sized (length bindings) (length names) (length text)
  pub named : first_bad_name names text ≡ None

front_cases : (b : Bool) (f : Option ℕ) → cond b (name_fault f) (Err Malformed) ≡ Ok tt → (b ≡ true) × (f ≡ None)
front_cases true None e = (refl, refl)
front_cases true (Some k) e = absurd (let z : ◌≡◌ {A = ℕ} 0 1 = cc in omega arith)
front_cases false f e = absurd (let z : ◌≡◌ {A = ℕ} 0 1 = cc in omega arith)

pub fronted : (bindings names text : List ℕ) → front_of bindings names text ≡ Ok tt → Fronted bindings names text
unfolding front_of
fronted bindings names text e =
    let q = front_cases (sizes_ok (length bindings) (length names) (length text)) (first_bad_name names text) e in
    record { sizes = sized _ _ _ q.0; named = q.1 }

-- where no name is bad, each is good
pub no_bad_name : (names text : List ℕ) → first_bad_name names text ≡ None → (k : ℕ) → 0 < k → k ≤ names_in names → bad_name names text k ≡ false
unfolding first_bad_name
no_bad_name names text h k some high = first-none (bad_name names text) (names_in names) 1 h k (omega arith) (omega arith)

pub good_names : (names text : List ℕ) → first_bad_name names text ≡ None → (k : ℕ) → 0 < k → k ≤ names_in names → GoodName names text k
good_names names text h k some high = good-name names text k (no_bad_name names text h k some high)

-- the first bad name is one of the names
pub bad_name_below : (names text : List ℕ) (k : ℕ) → first_bad_name names text ≡ Some k → k ≤ names_in names
unfolding first_bad_name
bad_name_below names text k h = let l = first_below (bad_name names text) (names_in names) 1 k h in omega arith

-- a record that 11 does not turn away
pub record Bound (i : ℕ) (bindings : List ℕ) (names : ℕ) : Type 0 where
  pub low : 0 < i
  pub high : i ≤ records_in bindings
  pub property : property_number bindings i ≤ names

pub bound : (i : ℕ) (bindings : List ℕ) (names : ℕ) → binding_ok i bindings names ≡ true → Bound i bindings names
unfolding binding_ok
bound i bindings names e =
    let role = role_of bindings i in
    let p = property_number bindings i in
    let r : Bool = record_ok names role p (frame_of bindings i) in
    let b : Bool = ltb (records_in bindings) i in
    let z : i ≡ 0 → ⊥ = eqb-false i 0 (not_first (eqb i 0) (cond b false r) e) in
    let f : cond b false r ≡ true = then_second (eqb i 0) (cond b false r) e in
    let q = and_left (within 1 6 role && leb p names && (eqb p 0 || eqb role 3 || eqb role 4)) _ (then_second b r f) in
    record {
      low = omega (arith, z);
      high = ltb-false (records_in bindings) i (not_first b r f);
      property = leb-true p names (and_right (within 1 6 role) (leb p names) (and_left (within 1 6 role && leb p names) _ q));
    }

property-at : (names text : List ℕ) (p : ℕ) (b : Bool) → eqb p 0 ≡ b → first_bad_name names text ≡ None → p ≤ names_in names → property_ok names text (cond b None (Some p)) ≡ true
property-at names text p true q h l = refl
property-at names text p false q h l =
    let z : p ≡ 0 → ⊥ = eqb-false p 0 q in
    let some : 0 < p = omega (arith, z) in
    let high : 8 * p ≤ length names = omega arith in
    let good : bad_name names text p ≡ false = no_bad_name names text h p some l in
    rw (lt-ltb 0 p some, le-leb (8 * p) (length names) high, good)

-- where no name is bad, the property of a sound record names a good name or none
pub property-ok : (names text : List ℕ) (p : ℕ) → first_bad_name names text ≡ None → p ≤ names_in names → property_ok names text (property_of p) ≡ true
property-ok names text p h l = property-at names text p (eqb p 0) refl h l

-- what 11 and 10 leave of one binding
pub record Faultless (number : ℕ) (bindings names text : List ℕ) : Type 0 where
  pub bound : Bound number bindings (names_in names)
  pub letter : property_fault number names text (property_of (property_number bindings number)) ≡ Ok tt

fault_cases : (b : Bool) (number : ℕ) (t : Result (Unit {0}) Refusal) → cond b t (Err (BadBinding number)) ≡ Ok tt → (b ≡ true) × (t ≡ Ok tt)
fault_cases true number t e = (refl, e)
fault_cases false number t e = absurd (let z : ◌≡◌ {A = ℕ} 0 1 = cc in omega arith)

pub faultless : (number : ℕ) (bindings names text : List ℕ) → fault_of number bindings names text ≡ Ok tt → Faultless number bindings names text
unfolding fault_of
faultless number bindings names text e =
    let q = fault_cases (binding_ok number bindings (names_in names)) number (property_fault number names text (property_of (property_number bindings number))) e in
    record { bound = bound number bindings (names_in names) q.0; letter = q.1 }

-- what a property that names a name gives
pub record NameAt (names text : List ℕ) (k : ℕ) : Type 0 where
  pub some : 0 < k
  pub high : 8 * k ≤ length names
  pub good : bad_name names text k ≡ false

pub name-at : (names text : List ℕ) (k : ℕ) → property_ok names text (Some k) ≡ true → NameAt names text k
name-at names text k e =
    let h = and_left (ltb 0 k && leb (8 * k) (length names)) (not (bad_name names text k)) e in
    record {
      some = ltb-true 0 k (and_left (ltb 0 k) (leb (8 * k) (length names)) h);
      high = leb-true (8 * k) (length names) (and_right (ltb 0 k) (leb (8 * k) (length names)) h);
      good = not-true (bad_name names text k) (and_right (ltb 0 k && leb (8 * k) (length names)) (not (bad_name names text k)) e);
    }
