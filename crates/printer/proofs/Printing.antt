-- Laws of printing. Assumes nothing.
use mathlib.Core.Path.{◌≡◌, refl, sym, ap, ap₂, ◌∙◌}
use mathlib.Core.List.{List, [], ◌∷◌, ◌++◌, map, append_assoc, append-nil}
use Prim.Native.Nat.{ℕ, zero, suc, ◌+◌, ◌*◌, ◌/◌, ◌≤◌, ◌<◌}
use native.Mathlib.Omega.{arith}
use native.Mathlib.Numerals.{add-one}
use native.Mathlib.Nat.{mul-div-le, mul-le-mul_left, mul-suc}
use Rattle.std.proofs.lemmas.List.{get_or-drop}
use Rattle.std.proofs.lemmas.List.FromFn.{length-map-range_with_len}
use lib.ListN.{length, take, drop, get_or}
use lib.Seq.{take_all}
use Rattle.std.specs.List.{range_with_len}
use Rattle.names.specs.Words.{words}
use Rattle.decimal.specs.Decimal.{decimal, Wrote}
use Rattle.decimal.proofs.Writing.{then}
use Rattle.printer.specs.Print.{line, row_lines, record_lines, row_at, lines_of, headed, printed}
use Rattle.fields.specs.Headers.{answer_header, row_header, record_header}

-- numbers with a space behind each
unfoldable pub spaced : List ℕ → List ℕ
spaced [] = []
spaced (n ∷ ns) = (decimal n ++ (32 ∷ [])) ++ spaced ns

spaced_more : (ns : List ℕ) (i : ℕ) → i < length ns → spaced (take (suc i) ns) ≡ spaced (take i ns) ++ (decimal (get_or ns i 0) ++ (32 ∷ []))
unfolding spaced
spaced_more [] i h = absurd (omega arith)
spaced_more (n ∷ ns) zero h = append-nil _
spaced_more (n ∷ ns) (suc i) h =
    ap (λ (x : List ℕ). (decimal n ++ (32 ∷ [])) ++ x) (spaced_more ns i (omega arith)) ∙ sym (append_assoc (decimal n ++ (32 ∷ [])) (spaced (take i ns)) (decimal (get_or ns i 0) ++ (32 ∷ [])))

line_last : (ns : List ℕ) (n : ℕ) → line (ns ++ (n ∷ [])) ≡ spaced ns ++ (decimal n ++ (10 ∷ []))
unfolding line spaced
line_last [] n = refl
line_last (a ∷ []) n = simp append_assoc
line_last (a ∷ b ∷ ns) n = ap (λ (x : List ℕ). decimal a ++ (32 ∷ x)) (line_last (b ∷ ns) n) ∙ simp append_assoc

-- The loop over the numbers of a line.
module _ (l : List ℕ) (at : ℕ) where
  pub no_number : (ns : List ℕ) → Wrote l at (spaced (take 0 ns)) at l
  unfolding spaced
  no_number ns = record { next = omega arith; wrote = refl }

  module _ (m : List ℕ) (j : ℕ) where
    pub next_number : (ns o : List ℕ) (i r : ℕ) → i < length ns → Wrote l at (spaced (take i ns)) j m → Wrote m j (decimal (get_or ns i 0) ++ (32 ∷ [])) r o → Wrote l at (spaced (take (i + 1) ns)) r o
    next_number ns o i r h a b = rw (add-one, spaced_more ns i h) (then a b)

    pub last_number : (ns xs o : List ℕ) (n r : ℕ) → xs ≡ ns ++ (n ∷ []) → Wrote l at (spaced (take (length ns) ns)) j m → Wrote m j (decimal n ++ (10 ∷ [])) r o → Wrote l at (line xs) r o
    last_number ns xs o n r e a b = rw (e, line_last ns n) (then (rw (take_all (length ns) ns (omega arith)) at a) b)

-- rows of n words, by the first one and the rest
row_after : (n i : ℕ) (ws : List ℕ) → row_at n ws (suc i) ≡ row_at n (drop n ws) i
row_after n i ws = λ t. map (λ j. e j t) (range_with_len 0 n)
  where
    e : (j : ℕ) → get_or ws (n * suc i + j) 0 ≡ get_or (drop n ws) (n * i + j) 0
    e j = let m : n + (n * i + j) ≡ n * suc i + j = omega (arith, mul-suc n i) in sym (get_or-drop n ws (n * i + j) 0 ∙ ap (λ (x : ℕ). get_or ws x 0) m)

lines_first : (n k : ℕ) (ws : List ℕ) → lines_of n (suc k) ws ≡ line (row_at n ws 0) ++ lines_of n k (drop n ws)
unfolding lines_of
lines_first n zero ws = sym (append-nil _)
lines_first n (suc k) ws =
    ap₂ (λ (x y : List ℕ). x ++ line y) (lines_first n k ws) (row_after n k ws) ∙ append_assoc (line (row_at n ws 0)) (lines_of n k (drop n ws)) (line (row_at n (drop n ws) k))

all_rows : (ws : List ℕ) → lines_of 4 (length ws / 4) ws ≡ row_lines ws
unfolding row_lines lines_of
all_rows [] = refl
all_rows (k ∷ []) = refl
all_rows (k ∷ a ∷ []) = refl
all_rows (k ∷ a ∷ n ∷ []) = refl
all_rows (k ∷ a ∷ n ∷ e ∷ ws) =
    let m : suc (suc (suc (suc (length ws)))) / 4 ≡ suc (length ws / 4) = omega arith in
    rw m (lines_first 4 (length ws / 4) (k ∷ a ∷ n ∷ e ∷ ws) ∙ ap (λ (x : List ℕ). line (k ∷ a ∷ n ∷ e ∷ []) ++ x) (all_rows ws))

all_records : (ws : List ℕ) → lines_of 3 (length ws / 3) ws ≡ record_lines ws
unfolding record_lines lines_of
all_records [] = refl
all_records (u ∷ []) = refl
all_records (u ∷ x ∷ []) = refl
all_records (u ∷ x ∷ f ∷ ws) =
    let m : suc (suc (suc (length ws))) / 3 ≡ suc (length ws / 3) = omega arith in
    rw m (lines_first 3 (length ws / 3) (u ∷ x ∷ f ∷ ws) ∙ ap (λ (y : List ℕ). line (u ∷ x ∷ f ∷ []) ++ y) (all_records ws))

-- The loop over rows.
module _ (n : ℕ) (l : List ℕ) (at : ℕ) (ws : List ℕ) where
  pub no_rows : Wrote l at (lines_of n 0 ws) at l
  unfolding lines_of
  no_rows = record { next = omega arith; wrote = refl }

  pub row_more : (m o : List ℕ) (i j r : ℕ) → Wrote l at (lines_of n i ws) j m → Wrote m j (line (row_at n ws i)) r o → Wrote l at (lines_of n (i + 1) ws) r o
  unfolding lines_of
  row_more m o i j r a b = rw add-one (then a b)

pub row_long : (n : ℕ) (ws : List ℕ) (i : ℕ) {r : List ℕ} → r ≡ row_at n ws i → length r ≡ n
row_long n ws i e = ap length e ∙ length-map-range_with_len (λ j. get_or ws (n * i + j) 0) 0 n

-- a row lies within the bytes
pub row_within : (n i l : ℕ) → 0 < n → i < l / (4 * n) → 4 * (n * i + n) ≤ l
row_within n i l z h = let a = mul-div-le l (4 * n) in let b = mul-le-mul_left (4 * n) h in let c : 4 * n * suc i ≡ 4 * (n * i + n) = grind arith in omega arith

-- so many words stand in some bytes
pub line_none : (l o ns : List ℕ) (at r : ℕ) → length ns ≡ 0 → Wrote l at (10 ∷ []) r o → Wrote l at (line ns) r o
unfolding line
line_none l o [] at r e w = w
line_none l o (n ∷ ns) at r e w = absurd (omega arith)

pub words_long : (s : List ℕ) → length (words s) ≡ length s / 4
unfolding words
words_long [] = refl
words_long (a ∷ []) = refl
words_long (a ∷ b ∷ []) = refl
words_long (a ∷ b ∷ c ∷ []) = refl
words_long (a ∷ b ∷ c ∷ d ∷ r) = omega (arith, words_long r)

-- the six parts of an answer, one after the other
pub parts : {l l1 l2 l3 l4 l5 l6 : List ℕ} {i j k r s t : ℕ} (number place : ℕ) (rows records : List ℕ)
    → Wrote l 0 (headed answer_header) i l1
    → Wrote l1 i (line (number ∷ place ∷ length rows / 16 ∷ length records / 12 ∷ [])) j l2
    → Wrote l2 j (headed row_header) k l3
    → Wrote l3 k (lines_of 4 (length rows / 16) (words rows)) r l4
    → Wrote l4 r (headed record_header) s l5
    → Wrote l5 s (lines_of 3 (length records / 12) (words records)) t l6
    → Wrote l 0 (printed number place (words rows) (words records)) t l6
unfolding printed
parts number place rows records a b c d e f =
    let m : length (words rows) / 4 ≡ length rows / 16 = omega (arith, words_long rows) in
    let n : length (words records) / 3 ≡ length records / 12 = omega (arith, words_long records) in
    rw (m, n, ← all_rows (words rows), ← all_records (words records)) (rw (m, n) (then a (then b (then c (then d (then e f))))))
