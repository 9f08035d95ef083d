-- What is told line by line is the first faulty or missing line of the sheet. Assumes nothing.
use mathlib.Core.Path.{◌≡◌, refl, ap, ◌∙◌}
use mathlib.Core.Bool.{Bool, true, false, cond, false≢true}
use mathlib.Core.List.{List, [], ◌∷◌}
use Prim.Native.Nat.{ℕ, suc, ◌+◌, ◌≤◌, ◌<◌}
use native.Mathlib.Omega.{arith}
use lib.ListN.{length, take}
use lib.Seq.{length-take-le}
use lib.Dec.{eqb, leb}
use borrow.Author.Tests.{eqb-true, eqb-false, ne_eqb, le-ltb, leb-true}
use Rattle.steps.specs.Mode.{Switches}
use Rattle.fields.specs.Headers.{switch_header, name_header, row_header}
use Rattle.fields.specs.Fields.{lines, fields, row_of, same_bytes, switches_ok}
use Rattle.fields.specs.declared.Row.{Row}
use Rattle.std.proofs.Common.{Option, None, Some, Ok, Err}
use Rattle.parser.specs.Parse.{Read.faulty, Lines, wrong, is_row, rows_from, has_rows, names_in, after_names, with_rows, switches_in, words_from, from_fourth, from_third, from_second, from_first}
use Rattle.form.specs.declared.Form.{Form}
use Rattle.form.specs.Form.{Stand, Stand.stand, Point, spelled, wanted, ends, over, told, fault_in, kept, step, scan, start, close, settled, part_number, point_of}
use Rattle.form.proofs.Short.{long-ends}
use Rattle.form.proofs.Scanning.{text_lines}

-- a faulty line stays
stays : (k n : ℕ) (ls : List (List ℕ)) → over (stand 0 k n) ls ≡ stand 0 k n
unfolding over ends
stays k n [] = refl
stays k n (l ∷ ls) = stays k n ls

told-fault : (k n : ℕ) (ls : List (List ℕ)) → told (over (stand 0 k n) ls) ≡ k
unfolding told
told-fault k n ls = ap told (stays k n ls)

abbrev wrong_in : Lines → ℕ
wrong_in (Ok n) = 0
wrong_in (Err e) = e.line

-- the rows
told_rows : (ls : List (List ℕ)) (n k : ℕ) → told (over (stand 5 (k + n) n) ls) ≡ wrong_in (rows_from n k ls)
unfolding over ends told rows_from
told_rows [] n k = refl
told_rows (l ∷ ls) n k = go (row_of (fields l)) (leb 1024 n) (told_rows ls (n + 1) k)
  where
    go : (r : Option Row) (b : Bool) → told (over (stand 5 (k + (n + 1)) (n + 1)) ls) ≡ wrong_in (rows_from (n + 1) k ls)
        → told (over (cond (spelled r) (cond b (stand 0 (k + n) n) (stand 5 (k + n + 1) (n + 1))) (stand 0 (k + n) n)) ls) ≡ wrong_in (is_row {A = Lines} r (cond b (wrong (k + n)) (rows_from (n + 1) k ls)) (wrong (k + n)))
    go None b ih = told-fault (k + n) n ls
    go (Some r) true ih = told-fault (k + n) n ls
    go (Some r) false ih = let e : k + n + 1 ≡ k + (n + 1) = omega arith in rw e ih

-- the names
told_names : (ls : List (List ℕ)) (k : ℕ) → told (over (stand 4 k 0) ls) ≡ cond (has_rows ls) (wrong_in (rows_from 0 (k + 1 + length (names_in ls)) (after_names ls))) (k + length ls)
unfolding over ends told wanted has_rows names_in after_names
told_names [] k = omega arith
told_names (l ∷ ls) k = go (same_bytes l row_header) (told_names ls (k + 1)) (told_rows ls 0 (k + 1))
  where
    go : (b : Bool) → told (over (stand 4 (k + 1) 0) ls) ≡ cond (has_rows ls) (wrong_in (rows_from 0 (k + 1 + 1 + length (names_in ls)) (after_names ls))) (k + 1 + length ls)
        → told (over (stand 5 (k + 1 + 0) 0) ls) ≡ wrong_in (rows_from 0 (k + 1) ls)
        → told (over (cond b (stand 5 (k + 1) 0) (stand 4 (k + 1) 0)) ls)
        ≡ cond (cond b true (has_rows ls)) (wrong_in (rows_from 0 (k + 1 + length (cond b [] (l ∷ names_in ls))) (cond b ls (after_names ls)))) (k + suc (length ls))
    go true ih rows =
        let e : k + 1 ≡ k + 1 + 0 = omega arith in
        ap (λ (x : ℕ). told (over (stand 5 x 0) ls)) e ∙ rows ∙ ap (λ (x : ℕ). wrong_in (rows_from 0 x ls)) e
    go false ih rows =
        let e : k + 1 + 1 + length (names_in ls) ≡ k + 1 + suc (length (names_in ls)) = omega arith in
        let f : k + 1 + length ls ≡ k + suc (length ls) = omega arith in
        rw (← e, ← f) ih

told_fourth : (w : Switches) (ls : List (List ℕ)) → told (over (stand 4 4 0) ls) ≡ fault_in (from_fourth w ls)
unfolding from_fourth
told_fourth w ls = told_names ls 4 ∙ go (has_rows ls) (rows_from 0 (5 + length (names_in ls)) (after_names ls))
  where
    go : (b : Bool) (r : Lines) → cond b (wrong_in r) (4 + length ls) ≡ fault_in (cond b (with_rows w (names_in ls) (words_from 0 (after_names ls)) r) (faulty (4 + length ls)))
    go true (Ok n) = refl
    go true (Err e) = refl
    go false r = refl

told_third : (w : Switches) (ls : List (List ℕ)) → told (over (stand 3 3 0) ls) ≡ fault_in (from_third w ls)
unfolding over ends told wanted from_third
told_third w [] = refl
told_third w (l ∷ ls) = go (same_bytes l name_header)
  where
    go : (b : Bool) → told (over (cond b (stand 4 4 0) (stand 0 3 0)) ls) ≡ fault_in (cond b (from_fourth w ls) (faulty 3))
    go true = told_fourth w ls
    go false = told-fault 3 0 ls

told_second : (ls : List (List ℕ)) → told (over (stand 2 2 0) ls) ≡ fault_in (from_second ls)
unfolding over ends told wanted from_second
told_second [] = refl
told_second (l ∷ ls) = go (switches_ok l)
  where
    go : (b : Bool) → told (over (cond b (stand 3 3 0) (stand 0 2 0)) ls) ≡ fault_in (cond b (from_third (switches_in l) ls) (faulty 2))
    go true = told_third (switches_in l) ls
    go false = told-fault 2 0 ls

told-first : (ls : List (List ℕ)) → told (over (stand 1 1 0) ls) ≡ fault_in (from_first ls)
unfolding over ends told wanted from_first
told-first [] = refl
told-first (l ∷ ls) = go (same_bytes l switch_header)
  where
    go : (b : Bool) → told (over (cond b (stand 2 2 0) (stand 0 1 0)) ls) ≡ fault_in (cond b (from_second ls) (faulty 1))
    go true = told_second ls
    go false = told-fault 1 0 ls

-- the first faulty or missing line, byte by byte
pub told_text : (s : List ℕ) → told (close (scan start s)) ≡ fault_in (from_first (lines s))
told_text s = ap told (text_lines s) ∙ told-first (lines s)

-- once a line is faulty, no later byte changes what is told
faulty-at : (s : List ℕ) (k n : ℕ) (cur : List ℕ) → told (close (scan (record { at = stand 0 k n; cur = cur }) s)) ≡ k
unfolding told close scan step ends
faulty-at [] k n cur = go (eqb (length cur) 0)
  where
    go : (b : Bool) → told (cond b (stand 0 k n) (stand 0 k n)) ≡ k
    go true = refl
    go false = refl
faulty-at (c ∷ s) k n cur = go (eqb c 10) (faulty-at s k n)
  where
    go : (b : Bool) → ((cur : List ℕ) → told (close (scan (record { at = stand 0 k n; cur = cur }) s)) ≡ k)
        → told (close (scan (cond b (record { at = stand 0 k n; cur = [] }) (record { at = stand 0 k n; cur = kept c cur })) s)) ≡ k
    go true ih = ih []
    go false ih = ih (kept c cur)

-- nor once a line is too long for what is asked for
long-at : (s : List ℕ) (p k n : ℕ) (cur : List ℕ) → 44 ≤ length cur → (p ≡ 4 → ⊥) → told (close (scan (record { at = stand p k n; cur = cur }) s)) ≡ k
unfolding told close scan step
long-at [] p k n cur h q = rw (ne_eqb (length cur) 0 (λ e. omega arith), long-ends p k n cur h q)
long-at (c ∷ s) p k n cur h q = go (eqb c 10) (long-at s p k n cur h q)
  where
    go : (b : Bool) → told (close (scan (record { at = stand p k n; cur = cur }) s)) ≡ k
        → told (close (scan (cond b (record { at = ends (stand p k n) cur; cur = [] }) (record { at = stand p k n; cur = kept c cur })) s)) ≡ k
    go true ih = rw (long-ends p k n cur h q) (faulty-at s k n [])
    go false ih = rw (le-ltb (length cur) 44 h) ih

-- so where a line that is to be part p is settled, its number is told, whatever comes
pub settled-stays : (p k n count : ℕ) (front s : List ℕ) → count ≤ 44 → 44 ≤ length front → settled p count ≡ true → told (close (scan (record { at = stand p k n; cur = take count front }) s)) ≡ k
unfolding settled
settled-stays p k n count front s low room h = go (eqb p 0) refl (eqb p 4) refl h
  where
    go : (a : Bool) → eqb p 0 ≡ a → (b : Bool) → eqb p 4 ≡ b → cond a true (cond b false (leb 44 count)) ≡ true → told (close (scan (record { at = stand p k n; cur = take count front }) s)) ≡ k
    go true e b d h = rw (eqb-true p 0 e) (faulty-at s k n (take count front))
    go false e true d h = absurd (false≢true h)
    go false e false d h =
        let t = length-take-le count front (omega (arith, low, room)) in
        long-at s p k n (take count front) (omega (arith, leb-true 44 count h)) (eqb-false p 4 d)

-- the same of a `Form`
pub form-stays : (f : Form) (s : List ℕ) → settled (part_number f.part) f.count ≡ true → told (close (scan (point_of f) s)) ≡ f.line
form-stays f s h = settled-stays (part_number f.part) f.line f.rows f.count f.front s f.low (omega (arith, f.room)) h

-- the line that comes next
abbrev line_of : Stand → ℕ
line_of (stand p k n) = k

one-of : (k : ℕ) (b : Bool) (x y : Stand) → k ≤ line_of x → k ≤ line_of y → k ≤ line_of (cond b x y)
one-of k true x y h g = h
one-of k false x y h g = g

-- is no line before this one, whatever the line has
ends-on : (x : Stand) (l : List ℕ) → line_of x ≤ line_of (ends x l)
unfolding ends
ends-on (stand p k n) l =
    let here : k ≤ k = omega arith in
    let next : k ≤ k + 1 = omega arith in
    one-of k (eqb p 0) _ _ here
    (one-of k (eqb p 5) _ _ (one-of k (spelled (row_of (fields l))) _ _ (one-of k (leb 1024 n) _ _ here next) here)
    (one-of k (wanted p l) _ _ next (one-of k (eqb p 4) _ _ next here)))

-- nor whatever is read
scan-on : (s : List ℕ) (x : Point) → line_of x.at ≤ line_of (scan x s).at
unfolding scan step
scan-on [] x = omega arith
scan-on (c ∷ s) x = go (eqb c 10) (scan-on s)
  where
    go : (b : Bool) → ((x : Point) → line_of x.at ≤ line_of (scan x s).at)
        → line_of x.at ≤ line_of (scan (cond b (record { at = ends x.at x.cur; cur = [] }) (record { at = x.at; cur = kept c x.cur })) s).at
    go true ih =
        let h = ends-on x.at x.cur in
        let g = ih (record { at = ends x.at x.cur; cur = [] }) in omega arith
    go false ih = ih (record { at = x.at; cur = kept c x.cur })

-- so a `Form` that has read a text is at a line of it, "from 1"
pub begun : (f : Form) (s : List ℕ) → point_of f ≡ scan start s → 0 < f.line
begun f s h =
    let e : f.line ≡ line_of (scan start s).at = ap (λ (x : Point). line_of x.at) h in
    let g : 1 ≤ line_of (scan start s).at = scan-on s start in omega arith
