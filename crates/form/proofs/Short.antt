-- How long a line can be that says something: a row's has at most 43 bytes. Assumes nothing.
use mathlib.Core.Path.{◌≡◌, refl, sym, ap, ◌∙◌}
use mathlib.Core.Bool.{Bool, true, false, cond, false≢true}
use mathlib.Core.List.{List, [], ◌∷◌}
use Prim.Native.Nat.{ℕ, zero, suc, ◌+◌, ◌*◌, ◌-◌, ◌≤◌, ◌<◌}
use native.Mathlib.Omega.{arith}
use lib.ListN.{length, take}
use lib.Seq.{take_all, length-take-le}
use lib.Dec.{ltb, leb, eqb}
use borrow.Author.Tests.{ltb-false, leb-true, leb-false, eqb-true, eqb-false, ne_eqb}
use Rattle.fields.specs.Headers.{switch_header, name_header, row_header}
use Rattle.fields.specs.Fields.{push, split, fields, digits_of, number, row_words, row_of, same_bytes, switches_ok}
use Rattle.std.proofs.Common.{Option, None, Some}
use Rattle.fields.proofs.Splitting.{same_lengths, switches-short}
use Rattle.form.specs.Form.{Stand, Stand.stand, spelled, wanted, ends}

-- v with f zeros behind it
shifted : ℕ → ℕ → ℕ
shifted zero v = v
shifted (suc f) v = shifted f (v * 10)

shifted-more : (f a b : ℕ) → a ≤ b → shifted f a ≤ shifted f b
unfolding shifted
shifted-more zero a b h = h
shifted-more (suc f) a b h = shifted-more f (a * 10) (b * 10) (omega arith)

bad : {A : Type 0} {w : ℕ} → None ≡ Some w → A
bad h = absurd (let z : ◌≡◌ {A = ℕ} 0 1 = cc in omega arith)

-- behind v there are fewer than f digits, where v with f zeros is no u32
few : (s : List ℕ) (f v w : ℕ) → digits_of v s ≡ Some w → v ≤ 4294967295 → 4294967295 < shifted f v → length s < f
unfolding digits_of shifted
few [] zero v w h l g = absurd (omega arith)
few [] (suc f) v w h l g = omega arith
few (c ∷ s) zero v w h l g = absurd (omega arith)
few (c ∷ s) (suc f) v w h l g = go (ltb c 48) (ltb 57 c) (ltb 4294967295 (v * 10 + (c - 48))) refl h (few s f (v * 10 + (c - 48)) w)
  where
    go : (a b d : Bool) → ltb 4294967295 (v * 10 + (c - 48)) ≡ d → cond a None (cond b None (cond d None (digits_of (v * 10 + (c - 48)) s))) ≡ Some w
        → (digits_of (v * 10 + (c - 48)) s ≡ Some w → v * 10 + (c - 48) ≤ 4294967295 → 4294967295 < shifted f (v * 10 + (c - 48)) → length s < f) → suc (length s) < suc f
    go true b d q e ih = bad e
    go false true d q e ih = bad e
    go false false true q e ih = bad e
    go false false false q e ih =
        let m = shifted-more f (v * 10) (v * 10 + (c - 48)) (omega arith) in
        omega (arith, ih e (ltb-false _ _ q) (omega arith))

-- "decimal u32": at most ten digits
number_short : (x : List ℕ) (w : ℕ) → number x ≡ Some w → length x ≤ 10
unfolding number digits_of shifted
number_short [] w h = bad h
number_short (c ∷ []) w h = omega arith
number_short (c ∷ d ∷ s) w h = go (eqb c 48) refl (ltb c 48) refl (ltb 57 c) (ltb 4294967295 (0 * 10 + (c - 48))) refl h
  where
    go : (z : Bool) → eqb c 48 ≡ z → (a : Bool) → ltb c 48 ≡ a → (b e : Bool) → ltb 4294967295 (0 * 10 + (c - 48)) ≡ e
        → cond z None (cond a None (cond b None (cond e None (digits_of (0 * 10 + (c - 48)) (d ∷ s))))) ≡ Some w → suc (suc (length s)) ≤ 10
    go true p a q b e r h = bad h
    go false p true q b e r h = bad h
    go false p false q true e r h = bad h
    go false p false q false true r h = bad h
    go false p false q false false r h =
        let n = eqb-false c 48 p in
        let k = ltb-false c 48 q in
        let m = shifted-more 10 1 (0 * 10 + (c - 48)) (omega arith) in
        omega (arith, few (d ∷ s) 10 (0 * 10 + (c - 48)) w h (ltb-false _ _ r) (omega arith))

-- some parts, with one byte between each and the next
unfoldable pub total : List (List ℕ) → ℕ
total [] = 0
total (x ∷ xs) = suc (length x) + total xs

push-total : (c : ℕ) (ls : List (List ℕ)) → 0 < length ls → total (push c ls) ≡ suc (total ls)
unfolding total push
push-total c [] h = absurd (omega arith)
push-total c (l ∷ ls) h = omega arith

fields-some : (s : List ℕ) → 0 < length (fields s)
unfolding split push
fields-some [] = omega arith
fields-some (c ∷ s) = go (eqb c 32) (fields s)
  where
    go : (b : Bool) (ls : List (List ℕ)) → 0 < length (cond b ([] ∷ ls) (push c ls))
    go true ls = omega arith
    go false [] = omega arith
    go false (l ∷ ls) = omega arith

fields-total : (s : List ℕ) → total (fields s) ≡ suc (length s)
unfolding total split
fields-total [] = refl
fields-total (c ∷ s) = go (eqb c 32) (fields-total s)
  where
    go : (b : Bool) → total (fields s) ≡ suc (length s) → total (cond b ([] ∷ fields s) (push c (fields s))) ≡ suc (suc (length s))
    go true ih = omega arith
    go false ih = push-total c (fields s) (fields-some s) ∙ ap suc ih

fault : {A : Type 0} → false ≡ true → A
fault h = absurd (false≢true h)

four-short : (a b c d : List ℕ) (n : ℕ) → total (a ∷ b ∷ c ∷ d ∷ []) ≡ suc n → spelled (row_words (number a) (number b) (number c) (number d)) ≡ true → n ≤ 43
unfolding total
four-short a b c d n t h = go (number a) refl (number b) refl (number c) refl (number d) refl h
  where
    go : (x : Option ℕ) → number a ≡ x → (y : Option ℕ) → number b ≡ y → (z : Option ℕ) → number c ≡ z → (u : Option ℕ) → number d ≡ u → spelled (row_words x y z u) ≡ true → n ≤ 43
    go None p y q z r u s h = fault h
    go (Some i) p None q z r u s h = fault h
    go (Some i) p (Some j) q None r u s h = fault h
    go (Some i) p (Some j) q (Some k) r None s h = fault h
    go (Some i) p (Some j) q (Some k) r (Some l) s h = omega (arith, number_short a i p, number_short b j q, number_short c k r, number_short d l s, t)

some-short : (fs : List (List ℕ)) (n : ℕ) → total fs ≡ suc n → spelled (row_of fs) ≡ true → n ≤ 43
unfolding row_of
some-short [] n t h = fault h
some-short (a ∷ []) n t h = fault h
some-short (a ∷ b ∷ []) n t h = fault h
some-short (a ∷ b ∷ c ∷ []) n t h = fault h
some-short (a ∷ b ∷ c ∷ d ∷ []) n t h = four-short a b c d n t h
some-short (a ∷ b ∷ c ∷ d ∷ e ∷ fs) n t h = fault h

pub row_short : (l : List ℕ) → spelled (row_of (fields l)) ≡ true → length l ≤ 43
row_short l h = some-short (fields l) (length l) (fields-total l) h

-- a line of 44 bytes or more is no row and none of the others that are wanted
long_row : (l : List ℕ) → 44 ≤ length l → spelled (row_of (fields l)) ≡ false
long_row l h = go (spelled (row_of (fields l))) refl
  where
    go : (b : Bool) → spelled (row_of (fields l)) ≡ b → b ≡ false
    go true q = absurd (omega (arith, row_short l q))
    go false q = refl

all_false : (i j k a b c d : Bool) → false ≡ a → false ≡ b → false ≡ c → false ≡ d → cond i a (cond j b (cond k c d)) ≡ false
all_false true j k a b c d x y z u = sym x
all_false false true k a b c d x y z u = sym y
all_false false false true a b c d x y z u = sym z
all_false false false false a b c d x y z u = sym u

long-wanted : (p : ℕ) (l : List ℕ) → 44 ≤ length l → wanted p l ≡ false
unfolding wanted
long-wanted p l h =
    all_false (eqb p 1) (eqb p 2) (eqb p 3) (same_bytes l switch_header) (switches_ok l) (same_bytes l name_header) (same_bytes l row_header)
    (same_lengths l switch_header (λ e. omega arith)) (switches-short l (λ e. omega arith)) (same_lengths l name_header (λ e. omega arith)) (same_lengths l row_header (λ e. omega arith))

-- so where a name is not asked for it is faulty
pub long-ends : (p k n : ℕ) (l : List ℕ) → 44 ≤ length l → (p ≡ 4 → ⊥) → ends (stand p k n) l ≡ stand 0 k n
unfolding ends
long-ends p k n l h q = rw (long-wanted p l h, long_row l h, ne_eqb p 4 q) (go (eqb p 0) refl (eqb p 5))
  where
    go : (a : Bool) → eqb p 0 ≡ a → (b : Bool) → cond a (stand p k n) (cond b (stand 0 k n) (stand 0 k n)) ≡ stand 0 k n
    go true e b = ap (λ (x : ℕ). stand x k n) (eqb-true p 0 e)
    go false e true = refl
    go false e false = refl

-- and the first 44 bytes of a line say what the line says
pub front_same : (x : Stand) (l : List ℕ) → ends x (take 44 l) ≡ ends x l
unfolding ends
front_same (stand p k n) l = go (leb (length l) 44) refl
  where
    go : (b : Bool) → leb (length l) 44 ≡ b → ends (stand p k n) (take 44 l) ≡ ends (stand p k n) l
    go true q = ap (ends (stand p k n)) (take_all 44 l (leb-true _ _ q))
    go false q =
        let h : 44 < length l = leb-false _ _ q in
        let t : length (take 44 l) ≡ 44 = length-take-le 44 l (omega arith) in
        rw (long-wanted p (take 44 l) (omega arith), long-wanted p l (omega arith), long_row (take 44 l) (omega arith), long_row l (omega arith))
