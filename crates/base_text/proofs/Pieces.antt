-- Pieces of bytes, written one after the other. Assumes nothing.
use Prim.Native.Nat.{ℕ, ◌+◌, ◌-◌, ◌≤◌}
use mathlib.Core.Path.{◌≡◌, refl, ap, sym, ◌∙◌}
use mathlib.Core.List.{List, ◌++◌, append_assoc}
use native.Mathlib.Omega.{arith}
use borrow.Rule.Slice.PartMut.{put_mid}
use lib.ListN.{length, take, drop, length-append, length-drop}
use lib.Seq.{take_at, drop_at, drop-drop, take_all}

-- one more piece after the first n bytes
step : (done out piece : List ℕ) (n count : ℕ) → length done ≡ n → put_mid n (n + count - n) (done ++ drop n out) piece ≡ (done ++ piece) ++ drop (n + count) out
step done out piece n count q =
    let e : n + count - n ≡ count = omega arith in
    rw (e, take_at done (drop n out) n q, drop_at done (drop n out) n q, drop-drop count n out) (sym (append_assoc done piece (drop (n + count) out)))

pub three_pieces : (out x y z : List ℕ)
    → put_mid (length x + length y) (length x + length y + length z - (length x + length y)) (put_mid (length x) (length x + length y - length x) (x ++ drop (length x) out) y) z
    ≡ (x ++ (y ++ z)) ++ drop (length x + length y + length z) out
three_pieces out x y z =
    let a = length x in
    let b = length x + length y in
    let both : length (x ++ y) ≡ b = length-append x y in
    ap (λ (l : List ℕ). put_mid b (b + length z - b) l z) (step x out y a (length y) refl)
    ∙ step (x ++ y) out z b (length z) both
    ∙ ap (λ (l : List ℕ). l ++ drop (b + length z) out) (append_assoc x y z)

-- the n bytes from a on, cut as a part of a slice
pub cut : (a n : ℕ) (t : List ℕ) → take (a + n - a) (drop a t) ≡ take n (drop a t)
cut a n t = let e : a + n - a ≡ n = omega arith in rw e

-- the bytes from w on, cut as a part of a slice
pub rest_of : (w : ℕ) (s : List ℕ) → take (length s - w) (drop w s) ≡ drop w s
rest_of w s = let h : length (drop w s) ≤ length s - w = rw length-drop (omega arith) in take_all (length s - w) (drop w s) h
