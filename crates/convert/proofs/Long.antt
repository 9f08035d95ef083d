-- A text that is longer than the room: in pieces, and what it is told. Assumes nothing.
use mathlib.Core.Path.{◌≡◌, refl, sym, ap, subst, ◌∙◌}
use mathlib.Core.Bool.{Bool, true, false, cond, ◌&&◌}
use mathlib.Core.List.{List, [], ◌∷◌}
use mathlib.Core.Logic.{◌⊎◌, inl, inr}
use Prim.Native.Nat.{ℕ, ◌+◌, ◌*◌, ◌%◌, ◌≤◌, ◌<◌}
use native.Mathlib.Omega.{arith}
use lib.ListN.{length}
use lib.Dec.{eqb, leb, ltb}
use borrow.Author.Tests.{ne_eqb, lt-leb, leb-true, leb-false}
use Rattle.names.specs.Laid.{joined, pairs_from}
use Rattle.names.specs.Bytes.{bytes_of}
use Rattle.names.proofs.Laying.{pairs_long}
use Rattle.names.proofs.Storing.{length-bytes}
use Rattle.rows.specs.Refusals.{sizes_ok, limited}
use Rattle.rows.proofs.Ordering.{is_malformed}
use Rattle.steps.specs.Mode.{Switches}
use Rattle.steps.specs.Outcome.{Outcome.refused, outcome}
use Rattle.printer.specs.Print.{printed}
use Rattle.fields.specs.Fields.{lines, fields, row_of, same_bytes, switches_ok}
use Rattle.fields.specs.Headers.{switch_header, name_header}
use Rattle.fields.specs.declared.Row.{Row}
use Rattle.std.proofs.Common.{Option, None, Some, Ok, Err}
use Rattle.parser.specs.Parse.{Read, Read.sheet, Read.faulty, Lines, wrong, is_row, rows_from, words_from, has_rows, names_in, after_names, with_rows, switches_in, from_fourth, from_third, from_second, from_first}
use Rattle.parser.specs.declared.FaultyLine.{FaultyLine}
use Rattle.form.specs.declared.Form.{Form}
use Rattle.form.specs.Form.{told, close, scan, start, fault_in}
use Rattle.form.proofs.Verdict.{told_text}
use Rattle.form.proofs.Long.{sheet-long}
use Rattle.convert.specs.Output.{answer, answer_to, outcome_for, output_for, answer_long, Shows}

-- the loop over the pieces
pub record Going (input₀ out₀ input out : List ℕ) (f : Form) (pieces : ℕ) : Type 0 where
  pub whole : length input ≡ 131073
  pub as_long : length input ≡ length input₀
  pub room : 131072 ≤ length out
  pub as_wide : length out ≡ length out₀
  pub begun : 0 < f.line
  pub near : f.line ≤ 1 + 131073 * pieces

-- Lines are numbered from 1.
no_fault : {A : Type 0} {l : ℕ} {w : Switches} {names : List (List ℕ)} {ws : List ℕ} → sheet w names ws ≡ faulty l → A
no_fault h = absurd (let z : ◌≡◌ {A = ℕ} 0 1 = cc in omega arith)

line_of : {k l : ℕ} → faulty k ≡ faulty l → k ≡ l
line_of h = cc

wrong_line : {k : ℕ} {e : FaultyLine} → wrong {A = ℕ} k ≡ Err e → k ≡ e.line
wrong_line {k} {e} h = let z : ◌≡◌ {A = FaultyLine} (record { line = k }) e = cc in ap (λ (x : FaultyLine). x.line) z

rows_some : (ls : List (List ℕ)) (n k : ℕ) (l : FaultyLine) → rows_from n k ls ≡ Err l → k ≤ l.line
unfolding rows_from
rows_some [] n k l h = absurd (let z : ◌≡◌ {A = ℕ} 0 1 = cc in omega arith)
rows_some (x ∷ ls) n k l h = go (row_of (fields x)) (leb 1024 n) (rows_some ls (n + 1) k l) h
  where
    go : (r : Option Row) (b : Bool) → (rows_from (n + 1) k ls ≡ Err l → k ≤ l.line) → is_row {A = Lines} r (cond b (wrong (k + n)) (rows_from (n + 1) k ls)) (wrong (k + n)) ≡ Err l → k ≤ l.line
    go None b ih h = let e : k + n ≡ l.line = wrong_line h in omega arith
    go (Some x) true ih h = let e : k + n ≡ l.line = wrong_line h in omega arith
    go (Some x) false ih h = ih h

fourth_some : (w : Switches) (ls : List (List ℕ)) (l : ℕ) → from_fourth w ls ≡ faulty l → 0 < l
unfolding from_fourth
fourth_some w ls l h = go (has_rows ls) (rows_from 0 (5 + length (names_in ls)) (after_names ls)) refl h
  where
    go : (b : Bool) (r : Lines) → rows_from 0 (5 + length (names_in ls)) (after_names ls) ≡ r
        → cond b (with_rows w (names_in ls) (words_from 0 (after_names ls)) r) (faulty (4 + length ls)) ≡ faulty l → 0 < l
    go false r q h = let e = line_of h in omega arith
    go true (Ok n) q h = no_fault h
    go true (Err m) q h = let e = line_of h in omega (arith, rows_some (after_names ls) 0 (5 + length (names_in ls)) m q)

first_some : (ls : List (List ℕ)) (l : ℕ) → from_first ls ≡ faulty l → 0 < l
unfolding from_first from_second from_third
first_some [] l h = let e = line_of h in omega arith
first_some (x ∷ ls) l h = go (same_bytes x switch_header) ls h
  where
    third : (b : Bool) (w : Switches) (ls : List (List ℕ)) → cond b (from_fourth w ls) (faulty 3) ≡ faulty l → 0 < l
    third true w ls h = fourth_some w ls l h
    third false w ls h = let e = line_of h in omega arith

    second : (b : Bool) (w : Switches) (ls : List (List ℕ)) → cond b (from_third w ls) (faulty 2) ≡ faulty l → 0 < l
    second true w [] h = let e = line_of h in omega arith
    second true w (y ∷ ls) h = third (same_bytes y name_header) w ls h
    second false w ls h = let e = line_of h in omega arith

    go : (b : Bool) (ls : List (List ℕ)) → cond b (from_second ls) (faulty 1) ≡ faulty l → 0 < l
    go true [] h = let e = line_of h in omega arith
    go true (y ∷ ls) h = second (switches_ok y) (switches_in y) ls h
    go false ls h = let e = line_of h in omega arith

-- With too many names or too much text nothing is converted: 1, place 0.
and_last : (a b : Bool) → b ≡ false → (a && b) ≡ false
and_last true b h = h
and_last false b h = refl

too_many : (x n t : ℕ) → 32768 < n → (eqb x 0 && leb n 32768 && leb t 65535) ≡ false
too_many x n t h = rw (lt-leb n 32768 h) (go (eqb x 0))
  where
    go : (a : Bool) → (a && false && leb t 65535) ≡ false
    go true = refl
    go false = refl

too_much : (x n t : ℕ) → 65535 < t → (eqb x 0 && leb n 32768 && leb t 65535) ≡ false
too_much x n t h = and_last (eqb x 0 && leb n 32768) (leb t 65535) (lt-leb t 65535 h)

unfit : (x n t : ℕ) → 8 * 4096 < n * 8 ⊎ 65535 < t → (eqb x 0 && leb (8 * n) 32768 && leb t 65535) ≡ false
unfit x n t (inl h) = too_many x (8 * n) t (omega arith)
unfit x n t (inr h) = too_much x (8 * n) t h

one_or_other : (n t : ℕ) → 131072 < 45107 + (t + n) → 8 * 4096 < n * 8 ⊎ 65535 < t
one_or_other n t h = go (leb n 4096) refl
  where
    go : (b : Bool) → leb n 4096 ≡ b → 8 * 4096 < n * 8 ⊎ 65535 < t
    go true q = inr (omega (arith, leb-true n 4096 q))
    go false q = inl (omega (arith, leb-false n 4096 q))

pair-bytes : (names : List (List ℕ)) → length (bytes_of (pairs_from 0 names)) ≡ 8 * length names
pair-bytes names = omega (arith, length-bytes (pairs_from 0 names), pairs_long 0 names)

refused_one : (w : Switches) (names : List (List ℕ)) (ws : List ℕ) → 131072 < 45107 + (length (joined names) + length names)
    → outcome_for w (bytes_of ws) (bytes_of (pairs_from 0 names)) (joined names) ≡ refused 1 0
unfolding outcome
refused_one w names ws h =
    let r = bytes_of ws in
    let p = bytes_of (pairs_from 0 names) in
    let small : sizes_ok (limited 16384) (length r) (length p) (length (joined names)) ≡ false =
    and_last (eqb (length r % 16) 0 && ltb 0 (length r) && leb (length r) (16 * limited 16384)) _
    (rw (pair-bytes names) (unfit ((8 * length names) % 8) (length names) (length (joined names)) (one_or_other (length names) (length (joined names)) h))) in
    rw (sym (is_malformed 16384 128 r p (joined names) small))

-- what is told of a text that is longer than the room, by its pieces, is the output for that text
pub long_output : (s : List ℕ) → 131072 < length s → answer_long (told (close (scan start s))) ≡ output_for s
long_output s h = ap answer_long (told_text s) ∙ go (from_first (lines s)) refl
  where
    go : (x : Read) → from_first (lines s) ≡ x → answer_long (fault_in x) ≡ answer_to x
    go (faulty l) q = rw (ne_eqb l 0 (λ e. let z = first_some (lines s) l q in omega arith))
    go (sheet w names ws) q = ap answer (sym (refused_one w names ws (let z = sheet-long w names ws s q in omega arith)))

pub told_form : (x : ℕ) {r : ℕ} {out : List ℕ} → x ≡ 0 → Shows (printed 1 0 [] []) r out → Shows (answer_long x) r out
told_form x q s = rw q s

pub told-fault : (line x : ℕ) {r : ℕ} {out : List ℕ} → line ≡ x → 0 < line → Shows (printed 12 line [] []) r out → Shows (answer_long x) r out
told-fault line x {r} {out} e q s = rw (ne_eqb x 0 (λ z. omega arith)) (subst (λ (l : ℕ). Shows (printed 12 l [] []) r out) e s)
