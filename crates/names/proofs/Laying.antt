-- Names laid end to end: what two lists of names have together, and where name k lies. Assumes nothing.
use mathlib.Core.Path.{◌≡◌, refl, sym, ap, ◌∙◌}
use mathlib.Core.List.{List, [], ◌∷◌, ◌++◌, append_assoc}
use Prim.Native.Nat.{ℕ, zero, suc, ◌+◌, ◌*◌, ◌≤◌, ◌<◌}
use native.Mathlib.Omega.{arith}
use lib.ListN.{length, take, drop, get_or, length-append}
use lib.Seq.{drop-length, take-append_seam, drop-append-add}
use Rattle.names.specs.Laid.{joined, pairs_from}

-- nothing is left where all of a list is dropped
pub drop_all : (m : ℕ) (s : List ℕ) → length s ≡ m → drop m s ≡ []
drop_all m s h = ap (λ (n : ℕ). drop n s) (sym h) ∙ drop-length s

-- the text of two lists of names
pub joined-append : (xs ys : List (List ℕ)) → joined (xs ++ ys) ≡ joined xs ++ joined ys
unfolding joined
joined-append [] ys = refl
joined-append (x ∷ xs) ys = ap (λ (t : List ℕ). x ++ t) (joined-append xs ys) ∙ sym (append_assoc x (joined xs) (joined ys))

-- and their pairs: the second list starts where the first one's text ends
pub pairs_append : (at : ℕ) (xs ys : List (List ℕ)) → pairs_from at (xs ++ ys) ≡ pairs_from at xs ++ pairs_from (at + length (joined xs)) ys
unfolding joined pairs_from
pairs_append at [] ys = let e : at + 0 ≡ at = omega arith in rw e
pairs_append at (x ∷ xs) ys =
    let e : at + length x + length (joined xs) ≡ at + length (x ++ joined xs) = omega (arith, length-append x (joined xs)) in
    ap (λ (t : List ℕ). at ∷ length x ∷ t) (pairs_append (at + length x) xs ys ∙ rw e)

-- two words for each name
pub pairs_long : (at : ℕ) (names : List (List ℕ)) → length (pairs_from at names) ≡ 2 * length names
unfolding pairs_from
pairs_long at [] = omega arith
pairs_long at (l ∷ ls) = omega (arith, pairs_long (at + length l) ls)

-- the pair of name k, from 0: it starts behind the names before it, and is as long as it is
pub laid_name : (at : ℕ) (ls : List (List ℕ)) (k : ℕ) → k < length ls
    → (get_or (pairs_from at ls) (2 * k) 0 ≡ at + length (joined (take k ls))) × (get_or (pairs_from at ls) (2 * k + 1) 0 ≡ length (get_or ls k []))
unfolding joined pairs_from
laid_name at [] k h = absurd (omega arith)
laid_name at (l ∷ ls) zero h = (omega arith, refl)
laid_name at (l ∷ ls) (suc k) h =
    let i = laid_name (at + length l) ls k (omega arith) in
    let e : 2 * suc k ≡ suc (suc (2 * k)) = omega arith in
    let f : 2 * suc k + 1 ≡ suc (suc (2 * k + 1)) = omega arith in
    let n = length-append l (joined (take k ls)) in
    (ap (λ (j : ℕ). get_or (pairs_from at (l ∷ ls)) j 0) e ∙ i.0 ∙ omega arith, ap (λ (j : ℕ). get_or (pairs_from at (l ∷ ls)) j 0) f ∙ i.1)

-- and these bytes of the text are the name
pub laid_part : (ls : List (List ℕ)) (k : ℕ) → k < length ls → take (length (get_or ls k [])) (drop (length (joined (take k ls))) (joined ls)) ≡ get_or ls k []
unfolding joined
laid_part [] k h = absurd (omega arith)
laid_part (l ∷ ls) zero h = take-append_seam l (joined ls)
laid_part (l ∷ ls) (suc k) h =
    rw (length-append l (joined (take k ls)), drop-append-add l (joined ls) (length (joined (take k ls)))) (laid_part ls k (omega arith))

-- which lie in it
pub laid_within : (ls : List (List ℕ)) (k : ℕ) → k < length ls → length (joined (take k ls)) + length (get_or ls k []) ≤ length (joined ls)
unfolding joined
laid_within [] k h = absurd (omega arith)
laid_within (l ∷ ls) zero h = omega (arith, length-append l (joined ls))
laid_within (l ∷ ls) (suc k) h =
    omega (arith, length-append l (joined ls), length-append l (joined (take k ls)), laid_within ls k (omega arith))
