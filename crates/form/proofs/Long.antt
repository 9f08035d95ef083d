-- How long a text in the form can be: by its names alone it gets longer than 45,107 bytes. Assumes nothing.
use mathlib.Core.Path.{◌≡◌, refl, ap, ◌∙◌}
use mathlib.Core.Bool.{Bool, true, false, cond, false≢true}
use mathlib.Core.List.{List, [], ◌∷◌}
use Prim.Native.Nat.{ℕ, suc, ◌+◌, ◌*◌, ◌≤◌, ◌<◌}
use native.Mathlib.Omega.{arith}
use lib.ListN.{length, length-append}
use lib.Dec.{eqb, leb}
use borrow.Author.Tests.{leb-false, eqb-true, eqb-false}
use Rattle.names.specs.Laid.{joined}
use Rattle.steps.specs.Mode.{Switches}
use Rattle.fields.specs.Headers.{switch_header, name_header, row_header}
use Rattle.fields.specs.Fields.{push, split, lines, fields, row_of, same_bytes, switches_ok}
use Rattle.fields.specs.declared.Row.{Row}
use Rattle.std.proofs.Common.{Option, None, Some, Ok, Err}
use Rattle.fields.proofs.Splitting.{same_lengths, switches-short}
use Rattle.parser.specs.Parse.{Read.sheet, Read.faulty, Lines, wrong, is_row, rows_from, words_from, has_rows, names_in, after_names, with_rows, switches_in, from_fourth, from_third, from_second, from_first}
use Rattle.form.specs.Form.{spelled}
use Rattle.form.proofs.Short.{total, row_short}

-- a text is no longer than its lines with a newline each
push-more : (c : ℕ) (ls : List (List ℕ)) → suc (total ls) ≤ total (push c ls)
unfolding total push
push-more c [] = omega arith
push-more c (l ∷ ls) = omega arith

lines-total : (s : List ℕ) → length s ≤ total (lines s)
unfolding total split
lines-total [] = omega arith
lines-total (c ∷ s) = go (eqb c 10) (lines-total s)
  where
    go : (b : Bool) → length s ≤ total (lines s) → suc (length s) ≤ total (cond b ([] ∷ lines s) (push c (lines s)))
    go true ih = omega arith
    go false ih = omega (arith, push-more c (lines s))

-- the same bytes are as many
same-long : (a b : List ℕ) → same_bytes a b ≡ true → length a ≡ length b
same-long a b h = go (eqb (length a) (length b)) refl
  where
    go : (t : Bool) → eqb (length a) (length b) ≡ t → length a ≡ length b
    go true q = eqb-true _ _ q
    go false q = absurd (false≢true (same_lengths a b (eqb-false _ _ q) ∙ h))

switches-long : (l : List ℕ) → switches_ok l ≡ true → length l ≡ 5
switches-long l h = go (eqb (length l) 5) refl
  where
    go : (t : Bool) → eqb (length l) 5 ≡ t → length l ≡ 5
    go true q = eqb-true _ _ q
    go false q = absurd (false≢true (switches-short l (eqb-false _ _ q) ∙ h))

-- m rows in all have at most 44 bytes each
rows_total : (ls : List (List ℕ)) (n k m : ℕ) → rows_from n k ls ≡ Ok m → n ≤ 1024 → (44 * n + total ls ≤ 44 * m) × (m ≤ 1024)
unfolding total rows_from
rows_total [] n k m h g = let e : n ≡ m = cc in (omega arith, omega arith)
rows_total (l ∷ ls) n k m h g = go (row_of (fields l)) refl (leb 1024 n) refl (rows_total ls (n + 1) k m) h
  where
    go : (r : Option Row) → row_of (fields l) ≡ r → (b : Bool) → leb 1024 n ≡ b → (rows_from (n + 1) k ls ≡ Ok m → n + 1 ≤ 1024 → (44 * (n + 1) + total ls ≤ 44 * m) × (m ≤ 1024))
        → is_row {A = Lines} r (cond b (wrong (k + n)) (rows_from (n + 1) k ls)) (wrong (k + n)) ≡ Ok m → (44 * n + (suc (length l) + total ls) ≤ 44 * m) × (m ≤ 1024)
    go None p b q ih h = absurd (let z : ◌≡◌ {A = ℕ} 0 1 = cc in omega arith)
    go (Some r) p true q ih h = absurd (let z : ◌≡◌ {A = ℕ} 0 1 = cc in omega arith)
    go (Some r) p false q ih h =
        let low : n < 1024 = leb-false _ _ q in
        let rest = ih h (omega arith) in
        (omega (arith, rest.0, row_short l (ap spelled p)), rest.1)

-- names, the header of the rows, and the rows
names_total : (ls : List (List ℕ)) → has_rows ls ≡ true → total ls ≡ length (joined (names_in ls)) + length (names_in ls) + 19 + total (after_names ls)
unfolding total has_rows names_in after_names joined
names_total [] h = absurd (false≢true h)
names_total (l ∷ ls) h = go (same_bytes l row_header) refl (names_total ls) h
  where
    go : (b : Bool) → same_bytes l row_header ≡ b → (has_rows ls ≡ true → total ls ≡ length (joined (names_in ls)) + length (names_in ls) + 19 + total (after_names ls))
        → cond b true (has_rows ls) ≡ true
        → suc (length l) + total ls ≡ length (joined (cond b [] (l ∷ names_in ls))) + length (cond b [] (l ∷ names_in ls)) + 19 + total (cond b ls (after_names ls))
    go true q ih h = omega (arith, same-long l row_header q)
    go false q ih h = omega (arith, ih h, length-append l (joined (names_in ls)))

no_sheet : {A : Type 0} {l : ℕ} {w : Switches} {names : List (List ℕ)} {ws : List ℕ} → faulty l ≡ sheet w names ws → A
no_sheet h = absurd (let z : ◌≡◌ {A = ℕ} 0 1 = cc in omega arith)

module _ (w : Switches) (names : List (List ℕ)) (ws : List ℕ) where
  abbrev named : ℕ
  named = length (joined names) + length names

  fourth_total : (v : Switches) (ls : List (List ℕ)) → from_fourth v ls ≡ sheet w names ws → total ls ≤ 45075 + named
  unfolding from_fourth
  fourth_total v ls h = go (has_rows ls) refl (rows_from 0 (5 + length (names_in ls)) (after_names ls)) refl h
    where
      go : (b : Bool) → has_rows ls ≡ b → (r : Lines) → rows_from 0 (5 + length (names_in ls)) (after_names ls) ≡ r
          → cond b (with_rows v (names_in ls) (words_from 0 (after_names ls)) r) (faulty (4 + length ls)) ≡ sheet w names ws → total ls ≤ 45075 + named
      go false p r q h = no_sheet h
      go true p (Err e) q h = no_sheet h
      go true p (Ok m) q h =
          let e : names_in ls ≡ names = cc in
          let a = names_total ls p in
          let b = rows_total (after_names ls) 0 _ m q (omega arith) in
          let c : length (joined (names_in ls)) + length (names_in ls) ≡ named = ap (λ (x : List (List ℕ)). length (joined x) + length x) e in
          omega (arith, a, b.0, b.1, c)

  third_total : (v : Switches) (ls : List (List ℕ)) → from_third v ls ≡ sheet w names ws → total ls ≤ 45080 + named
  unfolding from_third total
  third_total v [] h = no_sheet h
  third_total v (l ∷ ls) h = go (same_bytes l name_header) refl h
    where
      go : (b : Bool) → same_bytes l name_header ≡ b → cond b (from_fourth v ls) (faulty 3) ≡ sheet w names ws → suc (length l) + total ls ≤ 45080 + named
      go true q h = omega (arith, same-long l name_header q, fourth_total v ls h)
      go false q h = no_sheet h

  second_total : (ls : List (List ℕ)) → from_second ls ≡ sheet w names ws → total ls ≤ 45086 + named
  unfolding from_second total
  second_total [] h = no_sheet h
  second_total (l ∷ ls) h = go (switches_ok l) refl h
    where
      go : (b : Bool) → switches_ok l ≡ b → cond b (from_third (switches_in l) ls) (faulty 2) ≡ sheet w names ws → suc (length l) + total ls ≤ 45086 + named
      go true q h = omega (arith, switches-long l q, third_total (switches_in l) ls h)
      go false q h = no_sheet h

  first-total : (ls : List (List ℕ)) → from_first ls ≡ sheet w names ws → total ls ≤ 45107 + named
  unfolding from_first total
  first-total [] h = no_sheet h
  first-total (l ∷ ls) h = go (same_bytes l switch_header) refl h
    where
      go : (b : Bool) → same_bytes l switch_header ≡ b → cond b (from_second ls) (faulty 1) ≡ sheet w names ws → suc (length l) + total ls ≤ 45107 + named
      go true q h = omega (arith, same-long l switch_header q, second_total ls h)
      go false q h = no_sheet h

  -- 32 bytes in three lines, 19 in a header, 1,024 rows of 44, and each name with a newline
  pub sheet-long : (s : List ℕ) → from_first (lines s) ≡ sheet w names ws → length s ≤ 45107 + (length (joined names) + length names)
  sheet-long s h = omega (arith, lines-total s, first-total (lines s) h)
