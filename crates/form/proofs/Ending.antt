-- Steps of the code: a line that ends, a byte, a piece. Assumes nothing.
use Rattle.std.proofs.Common.{Option, None, Some}
use Rattle.std.specs.Option.{is_some}
use mathlib.Core.Path.{◌≡◌, refl, sym, ap, ◌∙◌}
use mathlib.Core.Bool.{Bool, true, false, cond, ◌&&◌, not}
use mathlib.Core.List.{List, [], ◌∷◌, ◌++◌}
use Prim.Native.Nat.{ℕ, ◌+◌, ◌≤◌, ◌<◌}
use native.Mathlib.Omega.{arith}
use native.Mathlib.Numerals.{add-one}
use lib.ListN.{length, take, drop, get_or, set}
use lib.Seq.{length-take-le, take-suc-set, drop-cons, drop-length}
use lib.Dec.{ltb, leb, eqb}
use borrow.Author.Tests.{eq-eqb, ne_eqb, le-ltb, lt-ltb, ltb-true, ltb-false, leb-true, leb-false, eqb-true}
use Rattle.fields.specs.Headers.{switch_header, name_header, row_header}
use Rattle.fields.specs.Fields.{fields, row_of, same_bytes, switches_ok, three_bits}
use Rattle.fields.specs.declared.Row.{Row}
use Rattle.form.specs.declared.Part.{Part}
use Rattle.form.specs.declared.Part.TheVariants.{Faulty, SwitchHeader, Switches, NameHeader, Names, Rows}
use Rattle.form.specs.contracts.Part.{the_type}
use denote.Enum.Bare.{sameb}
use mir.Val.{bool_byte}
use Rattle.form.specs.declared.Form.{Form}
use Rattle.form.specs.Form.{Stand, Stand.stand, spelled, wanted, ends, told, Point, step, scan, close, settled, part_number, moved, faulty_unless, stand_of, point_of}

-- what comes after a line of each part
module _ (l : List ℕ) (n : ℕ) where
  abbrev pub Comes : Part → Part → Type 0
  Comes p q = (k : ℕ) → moved (part_number p) (part_number q) k n ≡ ends (stand (part_number p) k n) l

  pub after-faulty : Comes Faulty Faulty
  unfolding ends
  after-faulty k = refl

  pub after-header : {b : Bool} → b ≡ same_bytes l switch_header → Comes SwitchHeader (faulty_unless b Switches)
  unfolding ends wanted
  after-header {b} e k = rw (← e) (go b)
    where
      go : (b : Bool) → moved 1 (part_number (faulty_unless b Switches)) k n ≡ cond b (stand 2 (k + 1) n) (stand 0 k n)
      go true = refl
      go false = refl

  pub after-switches : {r : Option (Bool × Bool × Bool)} {b : Bool} → r ≡ three_bits l → b ≡ is_some r → Comes Switches (faulty_unless b NameHeader)
  unfolding ends wanted
  after-switches e f k = rw (f, e) (go (switches_ok l))
    where
      go : (b : Bool) → moved 2 (part_number (faulty_unless (is_some (cond {A = Option (Bool × Bool × Bool)} b (Some (eqb (get_or l 0 0) 49, eqb (get_or l 2 0) 49, eqb (get_or l 4 0) 49)) None)) NameHeader)) k n
          ≡ cond b (stand 3 (k + 1) n) (stand 0 k n)
      go true = refl
      go false = refl

  pub after-names : {b : Bool} → b ≡ same_bytes l name_header → Comes NameHeader (faulty_unless b Names)
  unfolding ends wanted
  after-names {b} e k = rw (← e) (go b)
    where
      go : (b : Bool) → moved 3 (part_number (faulty_unless b Names)) k n ≡ cond b (stand 4 (k + 1) n) (stand 0 k n)
      go true = refl
      go false = refl

  pub after-rows : true ≡ same_bytes l row_header → Comes Names Rows
  unfolding ends wanted
  after-rows e k = rw (← e) refl

  pub after-name : false ≡ same_bytes l row_header → Comes Names Names
  unfolding ends wanted
  after-name e k = rw (← e) refl

  pub after-row : {r : Option Row} {b : Bool} → r ≡ row_of (fields l) → b ≡ is_some r → Comes Rows (faulty_unless (ltb n 1024 && b) Rows)
  unfolding ends
  after-row {r} e f k = rw (← e, f) (go (leb 1024 n) refl (ltb n 1024) refl r)
    where
      go : (a : Bool) → leb 1024 n ≡ a → (b : Bool) → ltb n 1024 ≡ b → (r : Option Row)
          → moved 5 (part_number (faulty_unless (b && is_some r) Rows)) k n ≡ cond (spelled r) (cond a (stand 0 k n) (stand 5 (k + 1) (n + 1))) (stand 0 k n)
      go a p true q None = refl
      go a p false q None = refl
      go true p true q (Some r) = absurd (omega (arith, leb-true 1024 n p, ltb-true n 1024 q))
      go true p false q (Some r) = refl
      go false p true q (Some r) = refl
      go false p false q (Some r) = absurd (omega (arith, leb-false 1024 n p, ltb-false n 1024 q))

-- `==` on parts
pub is_faulty : (p : Part) → sameb the_type p Faulty ≡ eqb (part_number p) 0
is_faulty Faulty = refl
is_faulty SwitchHeader = refl
is_faulty Switches = refl
is_faulty NameHeader = refl
is_faulty Names = refl
is_faulty Rows = refl

pub is_rows : (p : Part) → sameb the_type p Rows ≡ eqb (part_number p) 5
is_rows Faulty = refl
is_rows SwitchHeader = refl
is_rows Switches = refl
is_rows NameHeader = refl
is_rows Names = refl
is_rows Rows = refl

-- the line and the rows, counted on
pub moved-on : (p q k n : ℕ) {g r : Bool} {i j : ℕ} → g ≡ not (eqb q 0) → r ≡ eqb p 5 → i ≡ bool_byte g → j ≡ bool_byte (g && r) → stand q (k + i) (n + j) ≡ moved p q k n
moved-on p q k n {g} {r} {i} {j} a b c d = rw (c, d, a, b) (go (eqb q 0) refl (eqb p 5))
  where
    go : (x : Bool) → eqb q 0 ≡ x → (y : Bool) → stand q (k + bool_byte (not x)) (n + bool_byte (not x && y)) ≡ cond x (stand 0 k n) (stand q (k + 1) (cond y (n + 1) n))
    go true e y = let z : q ≡ 0 = eqb-true q 0 e in let u : k + 0 ≡ k = omega arith in let v : n + 0 ≡ n = omega arith in rw (z, u, v) refl
    go false e true = refl
    go false e false = let v : n + 0 ≡ n = omega arith in rw v refl

pub byte_low : (b : Bool) → bool_byte b ≤ 1
byte_low true = omega arith
byte_low false = omega arith

-- One byte.
module _ (f : Form) where
  pub long : length (take f.count f.front) ≡ f.count
  long = length-take-le f.count f.front (omega (arith, f.low, f.room))

  pub step_line : (r : Form) (c : ℕ) → c ≡ 10 → stand_of r ≡ ends (stand_of f) (take f.count f.front) → r.count ≡ 0 → point_of r ≡ step c (point_of f)
  unfolding step
  step_line r c q e z = rw (eq-eqb c 10 q) (λ i. record { at = e i; cur = take (z i) r.front })

  pub step_full : (c : ℕ) → (c ≡ 10 → ⊥) → 44 ≤ f.count → point_of f ≡ step c (point_of f)
  unfolding step
  step_full c q h = rw (ne_eqb c 10 q, le-ltb (length (take f.count f.front)) 44 (omega (arith, long)))

  pub step_kept : (c : ℕ) → (c ≡ 10 → ⊥) → f.count < 44 → record { at = stand_of f; cur = take (f.count + 1) (set f.front f.count c) } ≡ step c (point_of f)
  unfolding step
  step_kept c q h =
      let e : take (f.count + 1) (set f.front f.count c) ≡ take f.count f.front ++ (c ∷ []) = rw (add-one f.count) (take-suc-set f.front f.count c (omega (arith, f.room))) in
      rw (ne_eqb c 10 q, lt-ltb (length (take f.count f.front)) 44 (omega (arith, long))) (λ i. record { at = stand_of f; cur = e i })

  -- The end.
  pub close_empty : f.count ≡ 0 → stand_of f ≡ close (point_of f)
  unfolding close
  close_empty q = rw q

  pub close-line : {r : Stand} → (f.count ≡ 0 → ⊥) → r ≡ ends (stand_of f) (take f.count f.front) → r ≡ close (point_of f)
  unfolding close
  close-line q e = rw (ne_eqb (length (take f.count f.front)) 0 (λ z. q (sym long ∙ z))) e

-- A piece: byte i, and what is left.
pub scan-next : (x : Point) (s : List ℕ) (i : ℕ) → i < length s → scan x (drop i s) ≡ scan (step (get_or s i 0) x) (drop (i + 1) s)
unfolding scan
scan-next x s i h = rw (drop-cons s i 0 h, add-one)

pub scan_end : (x : Point) (s : List ℕ) (i : ℕ) → i ≤ length s → length s ≤ i → scan x (drop i s) ≡ x
unfolding scan
scan_end x s i h k = let e : i ≡ length s = omega arith in rw (e, drop-length s)

pub told_rows : (p : Part) (k n : ℕ) {x : Stand} → p ≡ Rows → stand (part_number p) k n ≡ x → told x ≡ 0
unfolding told
told_rows p k n q h = sym (ap told h) ∙ rw q refl

pub told_line : (p : Part) (k n : ℕ) {x : Stand} → (p ≡ Rows → ⊥) → stand (part_number p) k n ≡ x → k ≡ told x
unfolding told
told_line p k n q h = sym (sym (ap told h) ∙ go p q)
  where
    go : (p : Part) → (p ≡ Rows → ⊥) → told (stand (part_number p) k n) ≡ k
    go Faulty q = refl
    go SwitchHeader q = refl
    go Switches q = refl
    go NameHeader q = refl
    go Names q = refl
    go Rows q = absurd (q refl)

-- what is no faulty line and no name is settled by its length
pub settled_else : (p : Part) (c : ℕ) → (p ≡ Faulty → ⊥) → (p ≡ Names → ⊥) → leb 44 c ≡ settled (part_number p) c
unfolding settled
settled_else Faulty c q r = absurd (q refl)
settled_else SwitchHeader c q r = refl
settled_else Switches c q r = refl
settled_else NameHeader c q r = refl
settled_else Names c q r = absurd (r refl)
settled_else Rows c q r = refl
