-- A text byte by byte is the text line by line. Assumes nothing.
use mathlib.Core.Path.{◌≡◌, refl, sym, ap}
use mathlib.Core.Bool.{Bool, true, false, cond}
use mathlib.Core.List.{List, [], ◌∷◌, ◌++◌}
use Prim.Native.Nat.{ℕ, suc, ◌≤◌, ◌<◌}
use native.Mathlib.Omega.{arith}
use lib.ListN.{length, take, length-append}
use lib.Seq.{take_all, take-append-le, length-take-le}
use lib.Dec.{eqb, ltb}
use borrow.Author.Tests.{ltb-true, ltb-false, le-ltb, ne_eqb}
use Rattle.fields.specs.Fields.{push, split, lines}
use Rattle.form.specs.Form.{Stand, ends, over, Point, kept, step, scan, start, close}
use Rattle.form.proofs.Short.{front_same}

-- bytes before the first of some lines
glue : List ℕ → List (List ℕ) → List (List ℕ)
glue [] ls = ls
glue (c ∷ cs) ls = push c (glue cs ls)

glue-line : (cs : List ℕ) (ls : List (List ℕ)) → glue cs ([] ∷ ls) ≡ cs ∷ ls
unfolding glue push
glue-line [] ls = refl
glue-line (c ∷ cs) ls = rw (glue-line cs ls)

glue-last : (c : ℕ) (cs : List ℕ) → glue (c ∷ cs) [] ≡ (c ∷ cs) ∷ []
unfolding glue push
glue-last c [] = refl
glue-last c (d ∷ cs) = rw (glue-last d cs)

glue-push : (cs : List ℕ) (c : ℕ) (ls : List (List ℕ)) → glue cs (push c ls) ≡ glue (cs ++ (c ∷ [])) ls
unfolding glue
glue-push [] c ls = refl
glue-push (b ∷ cs) c ls = ap (push b) (glue-push cs c ls)

-- the first 44 bytes of a line and one more
kept-front : (c : ℕ) (cur : List ℕ) → kept c (take 44 cur) ≡ take 44 (cur ++ (c ∷ []))
kept-front c cur = go (ltb (length cur) 44) refl
  where
    go : (b : Bool) → ltb (length cur) 44 ≡ b → kept c (take 44 cur) ≡ take 44 (cur ++ (c ∷ []))
    go true q =
        let h : length cur < 44 = ltb-true _ _ q in
        rw (take_all 44 cur (omega arith), q) (sym (take_all 44 (cur ++ (c ∷ [])) (omega (arith, length-append cur (c ∷ [])))))
    go false q =
        let h : 44 ≤ length cur = ltb-false _ _ q in
        let t : length (take 44 cur) ≡ 44 = length-take-le 44 cur h in
        rw (le-ltb (length (take 44 cur)) 44 (omega arith)) (sym (take-append-le 44 cur (c ∷ []) h))

abbrev point : Stand → List ℕ → Point
point x cur = record { at = x; cur = cur }

-- the bytes s of a text in whose line the bytes cur stand already
scan-lines : (s : List ℕ) (x : Stand) (cur : List ℕ) → close (scan (point x (take 44 cur)) s) ≡ over x (glue cur (lines s))
unfolding close scan step split over glue
scan-lines [] x [] = refl
scan-lines [] x (c ∷ cs) = rw (ne_eqb (suc (length (take 43 cs))) 0 (λ e. omega arith), glue-last c cs) (front_same x (c ∷ cs))
scan-lines (c ∷ s) x cur = go (eqb c 10) (scan-lines s)
  where
    go : (b : Bool) → ((x : Stand) (cur : List ℕ) → close (scan (point x (take 44 cur)) s) ≡ over x (glue cur (lines s)))
        → close (scan (cond b (point (ends x (take 44 cur)) []) (point x (kept c (take 44 cur)))) s) ≡ over x (glue cur (cond b ([] ∷ lines s) (push c (lines s))))
    go true ih = rw (front_same x cur, glue-line cur (lines s)) (ih (ends x cur) [])
    go false ih = rw (kept-front c cur, glue-push cur c (lines s)) (ih x (cur ++ (c ∷ [])))

-- a whole text
pub text_lines : (s : List ℕ) → close (scan start s) ≡ over start.at (lines s)
unfolding glue
text_lines s = scan-lines s start.at []

-- piece after piece
pub scan_pieces : (x : Point) (a b : List ℕ) → scan (scan x a) b ≡ scan x (a ++ b)
unfolding scan
scan_pieces x [] b = refl
scan_pieces x (c ∷ a) b = scan_pieces (step c x) a b
