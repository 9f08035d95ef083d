-- A sheet, line by line: what the lines from one on give. Assumes nothing.
use mathlib.Core.Path.{◌≡◌, refl, sym, ap, ap₂, subst, ◌∙◌}
use mathlib.Core.Bool.{Bool, true, false, cond}
use mathlib.Core.List.{List, [], ◌∷◌}
use Prim.Native.Nat.{ℕ, ◌+◌, ◌*◌, ◌≤◌}
use native.Mathlib.Omega.{arith}
use lib.ListN.{length}
use lib.Seq.{sets}
use lib.Dec.{leb, eqb}
use lib.ListN.{get_or}
use Rattle.std.proofs.Common.{Option, None, Some, Result, Ok, Err}
use Rattle.std.specs.Option.{ok_or}
use Rattle.std.specs.Result.{IsErrAnd}
use Rattle.names.specs.Bytes.{bytes_of}
use Rattle.steps.specs.Mode.{Switches, switches}
use Rattle.fields.specs.Headers.{switch_header, name_header}
use Rattle.fields.specs.Fields.{split, fields, lines, row_of, Lined, same_bytes, switches_ok, three_bits}
use Rattle.fields.specs.declared.Row.{Row}
use Rattle.parser.specs.Parse.{Read, Read.faulty, Lines, wrong, is_row, add_row, rows_from, words_from, names_in, after_names, switches_in}
use Rattle.parser.specs.Parse.{with_rows, from_fourth, from_third, from_second, from_first, RowsRead, Found, Lost, NamesRead, Lent, Small, Told}
use Rattle.parser.specs.declared.FaultyLine.{FaultyLine}
use Rattle.parser.specs.declared.Names.{Names}
use Rattle.parser.specs.declared.Sheet.{Sheet}
use Rattle.acts.specs.View.{switches_of}
use Rattle.acts.specs.declared.switches.Switches.{Switches as SwitchesLent}

-- an answer for what is read serves for what equals it
pub carry : {x y : Read} {r : Result Sheet FaultyLine} {b : Lent} {n : ℕ} → x ≡ y → Told x n r b → Told y n r b
carry {x} {y} {r} {b} {n} e g = subst (λ (z : Read). Told z n r b) e g

pub fault : {x : Read} {b : Lent} {n : ℕ} (e : FaultyLine) → faulty e.line ≡ x → e.line ≤ n + 1029 → Told x n (Err e) b
fault {x} {b} {n} e q h = carry q (record { answer = refl; small = h })

-- a bound by the length serves for a larger one
more : (n m : ℕ) (r : Result Sheet FaultyLine) → n ≤ m → Small n r → Small m r
more n m (Ok t) h s = (s.0, omega (arith, s.1), omega (arith, s.2))
more n m (Err e) h s = omega arith

pub within : {x : Read} {r : Result Sheet FaultyLine} {b : Lent} (n m : ℕ) → n ≤ m → Told x n r b → Told x m r b
within {x} {r} n m h t = record { answer = t.answer; small = more n m r h t.small }

-- where `?` hands a fault on
pub handed : {A : Type 0} (r : Result A FaultyLine) (f : FaultyLine) → IsErrAnd r (λ e. e ≡ f) → r ≡ Err f
handed (Ok x) f h = absurd h
handed (Err e) f h = ap Err h

-- where `ok_or` made the fault
pub or_none : {A : Type 0} (r : Option A) {f e : FaultyLine} → ok_or r f ≡ Err e → (None ≡ r) × (e ≡ f)
or_none None h = (refl, cc)
or_none (Some x) h = absurd (let z : ◌≡◌ {A = ℕ} 0 1 = cc in omega arith)

pub or_some : {A : Type 0} (r : Option A) (f : FaultyLine) {x : A} → ok_or r f ≡ Ok x → Some x ≡ r
or_some None f h = absurd (let z : ◌≡◌ {A = ℕ} 0 1 = cc in omega arith)
or_some (Some y) f h = cc

-- so many rows have four times as many words
pub counted : (m k n : ℕ) (ls : List (List ℕ)) → rows_from m k ls ≡ Ok n → 4 * m + length (words_from m ls) ≡ 4 * n
unfolding rows_from words_from
counted m k n [] h = let e : m ≡ n = cc in omega arith
counted m k n (l ∷ ls) h = go (row_of (fields l)) (leb 1024 m) (counted (m + 1) k n ls) h
  where
    go : (x : Option Row) (b : Bool) → (rows_from (m + 1) k ls ≡ Ok n → 4 * (m + 1) + length (words_from (m + 1) ls) ≡ 4 * n)
        → is_row {A = Lines} x (cond b (wrong (k + m)) (rows_from (m + 1) k ls)) (wrong (k + m)) ≡ Ok n
        → 4 * m + length (cond b [] (add_row x (words_from (m + 1) ls))) ≡ 4 * n
    go None b ih h = absurd (let z : ◌≡◌ {A = ℕ} 0 1 = cc in omega arith)
    go (Some r) true ih h = absurd (let z : ◌≡◌ {A = ℕ} 0 1 = cc in omega arith)
    go (Some r) false ih h = omega (arith, ih h)

-- From line 4 on, which is the first of s.
module _ (w : Switches) (b : Lent) (s : List ℕ) where
  pub names_missing : (e : FaultyLine) → Lost s e.line → faulty e.line ≡ from_fourth w (lines s)
  unfolding from_fourth
  names_missing e n = rw (n.lost, n.line)

  module _ (n : Names) (there : Found s n) (r : Lines) (g : RowsRead n.rest.now (5 + n.count) b.rows₀ r b.rows) where
    rows_are : r ≡ rows_from 0 (5 + length (names_in (lines s))) (after_names (lines s))
    rows_are = g.answer ∙ ap₂ (λ (i : ℕ) (x : List (List ℕ)). rows_from 0 (5 + i) x) there.counted there.starts

    read : with_rows w (names_in (lines s)) (words_from 0 (after_names (lines s))) r ≡ from_fourth w (lines s)
    unfolding from_fourth
    read = rw there.found (ap (with_rows w (names_in (lines s)) (words_from 0 (after_names (lines s)))) rows_are)

  pub rows-wrong : (n : Names) → Found s n → (e : FaultyLine) → RowsRead n.rest.now (5 + n.count) b.rows₀ (Err e) b.rows → faulty e.line ≡ from_fourth w (lines s)
  rows-wrong n f e g = read n f (Err e) g

  pub rows-count : (n : Names) → Found s n → (m : ℕ) → RowsRead n.rest.now (5 + n.count) b.rows₀ (Ok m) b.rows → m ≤ 1024 → NamesRead s b.pairs₀ b.text₀ (Ok n) b.pairs b.text
      → (t : Sheet) → switches_of t.switches ≡ w → t.rows ≡ m → t.names ≡ n.count → t.text ≡ n.text → Told (from_fourth w (lines s)) (length s) (Ok t) b
  rows-count n f m g low h t sw tr tn tt' =
      let c : 4 * 0 + length (words_from 0 (after_names (lines s))) ≡ 4 * m = counted 0 (5 + length (names_in (lines s))) m (after_names (lines s)) (sym (rows_are n f (Ok m) g)) in
      carry (read n f (Ok m) g) (record {
        answer = record {
          switched = sw;
          row_count = omega arith;
          name_count = tn ∙ f.counted;
          text_size = tt' ∙ f.long;
          fours = omega arith;
          rows_lie = g.wrote ∙ ap (λ (x : List (List ℕ)). sets b.rows₀ 0 (bytes_of (words_from 0 x))) f.starts;
          names_lie = h.paired;
          text_lies = h.laid;
        };
        small = (omega arith, omega (arith, f.few), omega (arith, f.short));
      })

-- where the names or the rows are at fault, behind the first three lines
pub names-fault : (s : List ℕ) (w : Switches) {o : List ℕ} {b : Lent} (e : FaultyLine) → from_fourth w (lines o) ≡ from_first (lines s) → length o ≤ length s → NamesRead o b.pairs₀ b.text₀ (Err e) b.pairs b.text
    → Told (from_first (lines s)) (length s) (Err e) b
names-fault s w {o} {b} e x h n = fault e (names_missing w b o e n.answer ∙ x) (omega (arith, n.answer.low))

module _ (s : List ℕ) (w : Switches) {o : List ℕ} {b : Lent} (x : from_fourth w (lines o) ≡ from_first (lines s)) (h : length o ≤ length s)
    {n : Names} (f : NamesRead o b.pairs₀ b.text₀ (Ok n) b.pairs b.text) where
  pub rows-fault : (e : FaultyLine) → RowsRead n.rest.now (5 + n.count) b.rows₀ (Err e) b.rows → e.line ≤ 5 + n.count + 1024 → Told (from_first (lines s)) (length s) (Err e) b
  rows-fault e g low = fault e (rows-wrong w b o n f.answer e g ∙ x) (omega (arith, f.answer.few))

  pub sheet_read : (m : ℕ) → RowsRead n.rest.now (5 + n.count) b.rows₀ (Ok m) b.rows → m ≤ 1024 → (v : SwitchesLent) → switches_of v ≡ w
      → Told (from_first (lines s)) (length s) (Ok (record { switches = v; rows = m; names = n.count; text = n.text })) b
  sheet_read m g low v q = carry x (within (length o) (length s) h (rows-count w b o n f.answer m g low f _ q refl refl refl))

-- The first three lines.
pub first-none : (s : List ℕ) → s ≡ [] → faulty 1 ≡ from_first (lines s)
unfolding from_first split
first-none s h = rw h refl

module _ {s l q : List ℕ} (e : Lined s l q) where
  pub first_no : false ≡ same_bytes l switch_header → faulty 1 ≡ from_first (lines s)
  unfolding from_first
  first_no y = rw (e.first, ← y)

  module _ (y : true ≡ same_bytes l switch_header) where
    first_yes : from_second (lines q) ≡ from_first (lines s)
    unfolding from_first
    first_yes = rw (e.first, ← y)

    pub second_none : q ≡ [] → faulty 2 ≡ from_first (lines s)
    unfolding from_second split
    second_none h = let z : faulty 2 ≡ from_second (lines q) = rw h refl in z ∙ first_yes

    module _ {m o : List ℕ} (f : Lined q m o) where
      pub second_no : None ≡ three_bits m → faulty 2 ≡ from_first (lines s)
      unfolding from_second
      second_no h = go (switches_ok m) refl h
        where
          go : (b : Bool) → switches_ok m ≡ b → None ≡ cond {A = Option (Bool × Bool × Bool)} b (Some (eqb (get_or m 0 0) 49, eqb (get_or m 2 0) 49, eqb (get_or m 4 0) 49)) None → faulty 2 ≡ from_first (lines s)
          go true p k = absurd (let z : ◌≡◌ {A = ℕ} 0 1 = cc in omega arith)
          go false p k = (let z : faulty 2 ≡ from_second (lines q) = rw (f.first, p) refl in z) ∙ first_yes

      module _ {x : Bool × Bool × Bool} (w : Some x ≡ three_bits m) where
        second_yes : from_third (switches x.0 x.1 x.2) (lines o) ≡ from_first (lines s)
        unfolding from_second
        second_yes = go (switches_ok m) refl w
          where
            go : (b : Bool) → switches_ok m ≡ b → Some x ≡ cond {A = Option (Bool × Bool × Bool)} b (Some (eqb (get_or m 0 0) 49, eqb (get_or m 2 0) 49, eqb (get_or m 4 0) 49)) None
                → from_third (switches x.0 x.1 x.2) (lines o) ≡ from_first (lines s)
            go false p k = absurd (let z : ◌≡◌ {A = ℕ} 0 1 = cc in omega arith)
            go true p k =
                let z : x ≡ (eqb (get_or m 0 0) 49, eqb (get_or m 2 0) 49, eqb (get_or m 4 0) 49) = cc in
                let v : from_third (switches_in m) (lines o) ≡ from_second (lines q) = rw (f.first, p) refl in
                ap (λ (y : Bool × Bool × Bool). from_third (switches y.0 y.1 y.2) (lines o)) z ∙ v ∙ first_yes

        pub third_none : o ≡ [] → faulty 3 ≡ from_first (lines s)
        unfolding from_third split
        third_none h = let z : faulty 3 ≡ from_third (switches x.0 x.1 x.2) (lines o) = rw h refl in z ∙ second_yes

        module _ {t u : List ℕ} (g : Lined o t u) where
          pub third_no : false ≡ same_bytes t name_header → faulty 3 ≡ from_first (lines s)
          unfolding from_third
          third_no y = let z : faulty 3 ≡ from_third (switches x.0 x.1 x.2) (lines o) = rw (g.first, ← y) refl in z ∙ second_yes

          pub third_yes : true ≡ same_bytes t name_header → from_fourth (switches x.0 x.1 x.2) (lines u) ≡ from_first (lines s)
          unfolding from_third
          third_yes y = let z : from_fourth (switches x.0 x.1 x.2) (lines u) ≡ from_third (switches x.0 x.1 x.2) (lines o) = rw (g.first, ← y) refl in z ∙ second_yes
