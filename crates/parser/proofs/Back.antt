-- Parsing what printing prints: numbers, rows and whole sheets read back. Assumes nothing.
use mathlib.Core.Path.{◌≡◌, refl, ap, ◌∙◌}
use mathlib.Core.Bool.{Bool, true, false, cond}
use mathlib.Core.List.{List, [], ◌∷◌, ◌++◌, append_assoc}
use Prim.Native.Nat.{ℕ, zero, suc, ◌+◌, ◌*◌, ◌-◌, ◌/◌, ◌%◌, ◌≤◌, ◌<◌}
use native.Mathlib.Omega.{arith}
use lib.ListN.{length, length-append}
use lib.Dec.{ltb, eqb}
use borrow.Author.Tests.{le-ltb, ltb-true, ltb-false, eq-eqb, ne_eqb, lt-leb}
use Rattle.steps.specs.Mode.{switches}
use Rattle.fields.specs.Headers.{switch_header, name_header, row_header}
use Rattle.decimal.specs.Decimal.{digits, decimal}
use Rattle.printer.specs.Print.{line, headed, row_lines}
use Rattle.fields.specs.Fields.{push, split, lines, fields, row_of, digits_of, number, same_bytes, switches_ok}
use Rattle.parser.specs.Parse.{Read.sheet, rows_from, words_from, has_rows, names_in, after_names, from_first, from_second, from_third, from_fourth, sheet_of}
use Rattle.parser.specs.Sheet.{bit, name_lines, sheet_text, clear, Plain, Whole}
use Rattle.std.proofs.Common.{None, Some, Ok}
use Rattle.decimal.proofs.Digits.{decimal-small, decimal-more}

-- one more digit
digit_one : (v d : ℕ) → d < 10 → v * 10 + d < 4294967296 → digits_of v ((48 + d) ∷ []) ≡ Some (v * 10 + d)
unfolding digits_of
digit_one v d h k =
    let e : 48 + d - 48 ≡ d = omega arith in
    rw (le-ltb (48 + d) 48 (omega arith), le-ltb 57 (48 + d) (omega arith), e, le-ltb 4294967295 (v * 10 + d) (omega arith))

digits_append : (xs ys : List ℕ) (v m : ℕ) → digits_of v xs ≡ Some m → digits_of v (xs ++ ys) ≡ digits_of m ys
unfolding digits_of
digits_append [] ys v m h = let e : v ≡ m = cc in rw e
digits_append (c ∷ xs) ys v m h = go (ltb c 48) (ltb 57 c) (ltb 4294967295 (v * 10 + (c - 48))) (digits_append xs ys (v * 10 + (c - 48)) m) h
  where
    go : (a b t : Bool) → (digits_of (v * 10 + (c - 48)) xs ≡ Some m → digits_of (v * 10 + (c - 48)) (xs ++ ys) ≡ digits_of m ys)
        → cond a None (cond b None (cond t None (digits_of (v * 10 + (c - 48)) xs))) ≡ Some m
        → cond a None (cond b None (cond t None (digits_of (v * 10 + (c - 48)) (xs ++ ys)))) ≡ digits_of m ys
    go true b t ih h = absurd (let z : ◌≡◌ {A = ℕ} 0 1 = cc in omega arith)
    go false true t ih h = absurd (let z : ◌≡◌ {A = ℕ} 0 1 = cc in omega arith)
    go false false true ih h = absurd (let z : ◌≡◌ {A = ℕ} 0 1 = cc in omega arith)
    go false false false ih h = ih h

-- a first byte, 0 if there is none
abbrev head : List ℕ → ℕ
head [] = 0
head (c ∷ s) = c

head-append : (xs ys : List ℕ) → 0 < length xs → head (xs ++ ys) ≡ head xs
head-append [] ys h = absurd (omega arith)
head-append (c ∷ xs) ys h = refl

-- the digits of n: they make n, and there is no leading zero
pub record Spelt (n : ℕ) (s : List ℕ) : Type 0 where
  pub value : digits_of 0 s ≡ Some n
  pub some : 0 < length s
  pub first : 0 < n → 48 < head s
  pub short : n < 10 → length s ≡ 1

-- the digits of a u32
spelt-fuel : (f n : ℕ) → n < f → n < 4294967296 → Spelt n (decimal n)
spelt-fuel zero n h k = absurd (omega arith)
spelt-fuel (suc f) n h k = go (ltb n 10) refl (λ m a b. spelt-fuel f m a b)
  where
    go : (t : Bool) → ltb n 10 ≡ t → ((m : ℕ) → m < f → m < 4294967296 → Spelt m (decimal m)) → Spelt n (decimal n)
    go true q ih =
        let l : n < 10 = ltb-true n 10 q in
        let z : 0 * 10 + n ≡ n = omega arith in
        rw (decimal-small n l) (record { value = digit_one 0 n l (omega arith) ∙ ap Some z; some = omega arith; first = λ x. omega arith; short = λ x. refl })
    go false q ih =
        let l : 10 ≤ n = ltb-false n 10 q in
        let i = ih (n / 10) (omega arith) (omega arith) in
        let z : n / 10 * 10 + n % 10 ≡ n = omega arith in
        rw (decimal-more n l) (record {
          value = digits_append (decimal (n / 10)) ((48 + n % 10) ∷ []) 0 (n / 10) i.value ∙ digit_one (n / 10) (n % 10) (omega arith) (omega arith) ∙ ap Some z;
          some = omega (arith, length-append (decimal (n / 10)) ((48 + n % 10) ∷ []));
          first = λ x. let e = head-append (decimal (n / 10)) ((48 + n % 10) ∷ []) i.some in omega (arith, i.first (omega arith));
          short = λ x. absurd (omega arith);
        })

-- no leading zero
read_head : (n : ℕ) (s : List ℕ) → Spelt n s → number s ≡ Some n
unfolding number
read_head n [] p = absurd (omega (arith, p.some))
read_head n (c ∷ []) p = p.value
read_head n (c ∷ (d ∷ s)) p = go (ltb n 10) refl
  where
    go : (t : Bool) → ltb n 10 ≡ t → number (c ∷ (d ∷ s)) ≡ Some n
    go true q = absurd (omega (arith, p.short (ltb-true n 10 q)))
    go false q =
        let l : 10 ≤ n = ltb-false n 10 q in
        let z : c ≡ 48 → ⊥ = λ e. omega (arith, p.first (omega arith)) in
        rw (ne_eqb c 48 z) p.value

-- a printed number reads back
pub reads-back : (n : ℕ) → n < 4294967296 → number (decimal n) ≡ Some n
reads-back n h = read_head n (decimal n) (spelt-fuel (suc n) n (omega arith) h)

-- Bytes that do not stand in some text.
clear-append : (b : ℕ) (xs ys : List ℕ) → clear b xs ≡ true → clear b ys ≡ true → clear b (xs ++ ys) ≡ true
clear-append b [] ys h k = k
clear-append b (c ∷ xs) ys h k = go (eqb c b) (clear-append b xs ys) h
  where
    go : (t : Bool) → (clear b xs ≡ true → clear b ys ≡ true → clear b (xs ++ ys) ≡ true) → cond t false (clear b xs) ≡ true → cond t false (clear b (xs ++ ys)) ≡ true
    go true ih h = h
    go false ih h = ih h k

clear-one : (b d : ℕ) → b < 48 → clear b ((48 + d) ∷ []) ≡ true
clear-one b d h = rw (ne_eqb (48 + d) b (λ e. omega arith))

clear-digits : (b f n : ℕ) → b < 48 → clear b (digits f n) ≡ true
unfolding digits
clear-digits b zero n h = refl
clear-digits b (suc f) n h = go (ltb n 10) (clear-digits b f (n / 10) h)
  where
    go : (t : Bool) → clear b (digits f (n / 10)) ≡ true → clear b (cond t ((48 + n) ∷ []) (digits f (n / 10) ++ ((48 + n % 10) ∷ []))) ≡ true
    go true i = clear-one b n h
    go false i = clear-append b (digits f (n / 10)) ((48 + n % 10) ∷ []) i (clear-one b (n % 10) h)

-- no digit is a space or a newline
clear-decimal : (b n : ℕ) → b < 48 → clear b (decimal n) ≡ true
unfolding decimal
clear-decimal b n h = clear-digits b (suc n) n h

-- the part up to the first b
split-clear : (b : ℕ) (last : List (List ℕ)) (xs u : List ℕ) → clear b xs ≡ true → split b last (xs ++ (b ∷ u)) ≡ xs ∷ split b last u
unfolding split push
split-clear b last [] u h = rw (eq-eqb b b refl)
split-clear b last (c ∷ xs) u h = go (eqb c b) refl (split-clear b last xs u) h
  where
    go : (t : Bool) → eqb c b ≡ t → (clear b xs ≡ true → split b last (xs ++ (b ∷ u)) ≡ xs ∷ split b last u) → cond t false (clear b xs) ≡ true
        → split b last ((c ∷ xs) ++ (b ∷ u)) ≡ (c ∷ xs) ∷ split b last u
    go true q ih h = absurd (let z : ◌≡◌ {A = Bool} false true = h in let y : ◌≡◌ {A = ℕ} 0 1 = cc in omega arith)
    go false q ih h = rw (q, ih h)

split-last : (xs : List ℕ) → clear 32 xs ≡ true → fields xs ≡ xs ∷ []
unfolding split push
split-last [] h = refl
split-last (c ∷ xs) h = go (eqb c 32) refl (split-last xs) h
  where
    go : (t : Bool) → eqb c 32 ≡ t → (clear 32 xs ≡ true → fields xs ≡ xs ∷ []) → cond t false (clear 32 xs) ≡ true → fields (c ∷ xs) ≡ (c ∷ xs) ∷ []
    go true q ih h = absurd (let z : ◌≡◌ {A = Bool} false true = h in let y : ◌≡◌ {A = ℕ} 0 1 = cc in omega arith)
    go false q ih h = rw (q, ih h)

-- Rows.
unfoldable row_text : (k a n e : ℕ) → List ℕ
row_text k a n e = decimal k ++ (32 ∷ (decimal a ++ (32 ∷ (decimal n ++ (32 ∷ decimal e)))))

-- a printed row reads back
row_back : (k a n e : ℕ) → k < 4294967296 → a < 4294967296 → n < 4294967296 → e < 4294967296 → row_of (fields (row_text k a n e)) ≡ Some (record { kind = k; attr = a; name = n; end = e })
unfolding row_of row_text
row_back k a n e h i j l =
    rw (
      split-clear 32 ([] ∷ []) (decimal k) (decimal a ++ (32 ∷ (decimal n ++ (32 ∷ decimal e)))) (clear-decimal 32 k (omega arith)),
      split-clear 32 ([] ∷ []) (decimal a) (decimal n ++ (32 ∷ decimal e)) (clear-decimal 32 a (omega arith)),
      split-clear 32 ([] ∷ []) (decimal n) (decimal e) (clear-decimal 32 n (omega arith)),
      split-last (decimal e) (clear-decimal 32 e (omega arith)),
      reads-back k h,
      reads-back a i,
      reads-back n j,
      reads-back e l,
    )

-- the printed line is that and a newline
row_line : (k a n e : ℕ) (u : List ℕ) → line (k ∷ a ∷ n ∷ e ∷ []) ++ u ≡ row_text k a n e ++ (10 ∷ u)
unfolding line row_text
row_line k a n e u = simp append_assoc

clear_row : (k a n e : ℕ) → clear 10 (row_text k a n e) ≡ true
unfolding row_text
clear_row k a n e =
    clear-append 10 (decimal k) _ (clear-decimal 10 k (omega arith))
    (clear-append 10 (decimal a) _ (clear-decimal 10 a (omega arith))
    (clear-append 10 (decimal n) _ (clear-decimal 10 n (omega arith)) (clear-decimal 10 e (omega arith))))

first_row : (k a n e : ℕ) (ws : List ℕ) → lines (row_lines (k ∷ a ∷ n ∷ e ∷ ws)) ≡ row_text k a n e ∷ lines (row_lines ws)
unfolding row_lines
first_row k a n e ws = ap lines (row_line k a n e (row_lines ws)) ∙ split-clear 10 [] (row_text k a n e) (row_lines ws) (clear_row k a n e)

-- printed rows read back: so many, and the same words
pub count-back : (m k : ℕ) (ws : List ℕ) → Whole ws → 4 * m + length ws ≤ 4096 → rows_from m k (lines (row_lines ws)) ≡ Ok (m + length ws / 4)
unfolding rows_from
count-back m k [] w h = unfold row_lines split in (let e : m ≡ m + 0 / 4 = omega arith in ap Ok e)
count-back m k (a ∷ []) w h = absurd w
count-back m k (a ∷ b ∷ []) w h = absurd w
count-back m k (a ∷ b ∷ c ∷ []) w h = absurd w
count-back m k (a ∷ b ∷ c ∷ d ∷ ws) w h =
    let e : m + 1 + length ws / 4 ≡ m + (length ws + 4) / 4 = omega arith in
    rw (first_row a b c d ws, row_back a b c d w.0 w.1 w.2 w.3, lt-leb 1024 m (omega arith))
    (count-back (m + 1) k ws w.4 (omega arith) ∙ ap Ok (omega arith))

pub words_back : (m : ℕ) (ws : List ℕ) → Whole ws → 4 * m + length ws ≤ 4096 → words_from m (lines (row_lines ws)) ≡ ws
unfolding words_from
words_back m [] w h = unfold row_lines split in refl
words_back m (a ∷ []) w h = absurd w
words_back m (a ∷ b ∷ []) w h = absurd w
words_back m (a ∷ b ∷ c ∷ []) w h = absurd w
words_back m (a ∷ b ∷ c ∷ d ∷ ws) w h =
    rw (first_row a b c d ws, row_back a b c d w.0 w.1 w.2 w.3, lt-leb 1024 m (omega arith), words_back (m + 1) ws w.4 (omega arith))

-- Names.
module _ (t : List ℕ) where
  abbrev rest : List (List ℕ) → List ℕ
  rest names = name_lines names ++ (headed row_header ++ t)

  header : lines (headed row_header ++ t) ≡ row_header ∷ lines t
  header = split-clear 10 [] row_header t refl

  first-name : (l : List ℕ) (ls : List (List ℕ)) → clear 10 l ≡ true → lines (rest (l ∷ ls)) ≡ l ∷ lines (rest ls)
  unfolding name_lines
  first-name l ls h = ap lines (append_assoc l (10 ∷ name_lines ls) (headed row_header ++ t)) ∙ split-clear 10 [] l (rest ls) h

  pub has-back : (names : List (List ℕ)) → Plain names → has_rows (lines (rest names)) ≡ true
  unfolding has_rows same_bytes
  has-back [] p = unfold name_lines in rw header refl
  has-back (l ∷ ls) p = rw (first-name l ls p.0, p.1) (has-back ls p.2)

  pub names_back : (names : List (List ℕ)) → Plain names → names_in (lines (rest names)) ≡ names
  unfolding names_in same_bytes
  names_back [] p = unfold name_lines in rw header refl
  names_back (l ∷ ls) p = rw (first-name l ls p.0, p.1, names_back ls p.2)

  pub after-back : (names : List (List ℕ)) → Plain names → after_names (lines (rest names)) ≡ lines t
  unfolding after_names same_bytes
  after-back [] p = unfold name_lines in rw header refl
  after-back (l ∷ ls) p = rw (first-name l ls p.0, p.1) (after-back ls p.2)

-- The switches.
second_line : (a b c : Bool) (u : List ℕ) → from_second (lines (bit a ∷ 32 ∷ bit b ∷ 32 ∷ bit c ∷ 10 ∷ u)) ≡ from_third (switches a b c) (lines u)
unfolding from_second switches_ok
second_line true true true u = rw (split-clear 10 [] (49 ∷ 32 ∷ 49 ∷ 32 ∷ 49 ∷ []) u refl) refl
second_line true true false u = rw (split-clear 10 [] (49 ∷ 32 ∷ 49 ∷ 32 ∷ 48 ∷ []) u refl) refl
second_line true false true u = rw (split-clear 10 [] (49 ∷ 32 ∷ 48 ∷ 32 ∷ 49 ∷ []) u refl) refl
second_line true false false u = rw (split-clear 10 [] (49 ∷ 32 ∷ 48 ∷ 32 ∷ 48 ∷ []) u refl) refl
second_line false true true u = rw (split-clear 10 [] (48 ∷ 32 ∷ 49 ∷ 32 ∷ 49 ∷ []) u refl) refl
second_line false true false u = rw (split-clear 10 [] (48 ∷ 32 ∷ 49 ∷ 32 ∷ 48 ∷ []) u refl) refl
second_line false false true u = rw (split-clear 10 [] (48 ∷ 32 ∷ 48 ∷ 32 ∷ 49 ∷ []) u refl) refl
second_line false false false u = rw (split-clear 10 [] (48 ∷ 32 ∷ 48 ∷ 32 ∷ 48 ∷ []) u refl) refl

-- Parsing what printing prints gives the rows back, with the switches and the names.
module _ (a b c : Bool) (names : List (List ℕ)) (ws : List ℕ) (p : Plain names) (w : Whole ws) (few : length ws ≤ 4096) where
  fourth : from_fourth (switches a b c) (lines (rest (row_lines ws) names)) ≡ sheet (switches a b c) names ws
  unfolding from_fourth
  fourth =
      rw (has-back (row_lines ws) names p, names_back (row_lines ws) names p, after-back (row_lines ws) names p, count-back 0 (5 + length names) ws w (omega arith), words_back 0 ws w (omega arith))
      refl

  third : from_third (switches a b c) (lines (headed name_header ++ rest (row_lines ws) names)) ≡ sheet (switches a b c) names ws
  unfolding from_third same_bytes
  third = rw (split-clear 10 [] name_header (rest (row_lines ws) names) refl) fourth

  second : from_second (lines ((bit a ∷ 32 ∷ bit b ∷ 32 ∷ bit c ∷ 10 ∷ []) ++ (headed name_header ++ rest (row_lines ws) names))) ≡ sheet (switches a b c) names ws
  second = second_line a b c (headed name_header ++ rest (row_lines ws) names) ∙ third

  pub sheet-back : sheet_of (sheet_text a b c names ws) ≡ sheet (switches a b c) names ws
  unfolding from_first sheet_text same_bytes
  sheet-back = rw (split-clear 10 [] switch_header ((bit a ∷ 32 ∷ bit b ∷ 32 ∷ bit c ∷ 10 ∷ []) ++ (headed name_header ++ rest (row_lines ws) names)) refl) second
