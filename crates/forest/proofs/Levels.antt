-- Tests of every row of a table, over its words and over its forest: depth, and kind and attr. Assumes nothing.
use mathlib.Core.Path.{◌≡◌, sym, subst}
use mathlib.Core.Bool.{Bool, false}
use mathlib.Core.List.{List, ◌∷◌, ◌++◌}
use mathlib.Core.Logic.{⊎_elim}
use Prim.Native.Nat.{ℕ, zero, suc, ◌+◌, ◌-◌, ◌<◌, ◌≤◌}
use native.Mathlib.Omega.{arith}
use native.Mathlib.Nat.{eq-or-lt_of_le}
use lib.ListN.{get_or, length, length-append, get_or-append}
use lib.Seq.{get_or-append-add}
use Rattle.names.specs.Words.{kind_at, attr_at, name_at, end_at}
use Rattle.forest.specs.Forest.{Rows, none, node, size, tree, rows_at, down, DepthWithin, NoRow}
use Rattle.forest.specs.Nested.{Nested, Range}
use Rattle.forest.specs.Told.{depth_at}
use Rattle.names.proofs.Bools.{lt_or_ge}
use Rattle.forest.proofs.Nesting.{tree-more, tree_done}
use Rattle.forest.proofs.Down.{down-long, told-down}
use Rattle.forest.proofs.Walking.{inner, later}

-- the values in each of two lists, and in both
abbrev Under : ℕ → List ℕ → Type 0
Under most xs = (q : ℕ) → q < length xs → get_or xs q 0 ≤ most

under_left : (most : ℕ) (xs ys : List ℕ) → Under most (xs ++ ys) → Under most xs
under_left most xs ys h q l = subst (λ (x : ℕ). x ≤ most) (get_or-append xs ys 0 q l) (h q (omega (arith, length-append xs ys)))

under-right : (most : ℕ) (xs ys : List ℕ) → Under most (xs ++ ys) → Under most ys
under-right most xs ys h q l = subst (λ (x : ℕ). x ≤ most) (get_or-append-add xs ys q 0) (h (length xs + q) (omega (arith, length-append xs ys)))

under-both : (most : ℕ) (xs ys : List ℕ) → Under most xs → Under most ys → Under most (xs ++ ys)
under-both most xs ys hx hy q l =
    ⊎_elim (λ b. subst (λ (x : ℕ). x ≤ most) (sym (get_or-append xs ys 0 q b)) (hx q b))
    (λ b. let e : length xs + (q - length xs) ≡ q = omega arith in
    subst (λ (i : ℕ). get_or (xs ++ ys) i 0 ≤ most) e (subst (λ (x : ℕ). x ≤ most) (sym (get_or-append-add xs ys (q - length xs) 0)) (hy (q - length xs) (omega (arith, length-append xs ys)))))
    (lt_or_ge q (length xs))

under_tail : (most x : ℕ) (xs : List ℕ) → Under most (x ∷ xs) → Under most xs
under_tail most x xs h q l = h (suc q) (omega arith)

under-cons : (most x : ℕ) (xs : List ℕ) → x ≤ most → Under most xs → Under most (x ∷ xs)
under-cons most x xs b h zero l = b
under-cons most x xs b h (suc q) l = h q (omega arith)

-- depth goes down a forest
abbrev pub level : ℕ → ℕ → ℕ → ℕ → ℕ
level v k a pos = v + 1

within_of : (most v k a pos : ℕ) (f : Rows) → Under most (down level v k a pos f) → DepthWithin most (v + 1) f
unfolding down
within_of most v k a pos none h = tt
within_of most v k a pos (node k' a' n' i s) h =
    let rest = under_tail most (v + 1) (down level (v + 1) k' a' 0 i ++ down level v k a (pos + 1) s) h in (
      h 0 (omega arith),
      (
        within_of most (v + 1) k' a' 0 i (under_left most (down level (v + 1) k' a' 0 i) (down level v k a (pos + 1) s) rest),
        within_of most v k a (pos + 1) s (under-right most (down level
            (v + 1) k' a' 0 i) (down level v k a (pos + 1) s) rest),
      ),
    )

of_within : (most v k a pos : ℕ) (f : Rows) → DepthWithin most (v + 1) f → Under most (down level v k a pos f)
unfolding down
of_within most v k a pos none h = λ q l. absurd (omega arith)
of_within most v k a pos (node k' a' n' i s) h =
    let xs = down level (v + 1) k' a' 0 i in
    let ys = down level v k a (pos + 1) s in
    under-cons most (v + 1) (xs ++ ys) h.0 (under-both most xs ys (of_within most (v + 1) k' a' 0 i h.1.0) (of_within most v k a (pos + 1) s h.1.1))

module _ (ws : List ℕ) (n : ℕ) (good : Nested ws n) (some : 0 < n) (e0 : end_at ws 0 ≡ n) (shape : rows_at ws 0 n ≡ node (kind_at ws 0) (attr_at ws 0) (name_at ws 0) (tree ws (n - 1) 1 (end_at ws 0)) none)
    (sum : 0 + 1 + size (tree ws (n - 1) 1 (end_at ws 0)) ≡ end_at ws 0) (most : ℕ) where
  abbrev below : List ℕ
  below = down level 0 (kind_at ws 0) (attr_at ws 0) 0 (tree ws (n - 1) 1 (end_at ws 0))

  depth_down : (i : ℕ) → i < n → depth_at ws i ≡ get_or (0 ∷ below) i 0
  unfolding depth_at
  depth_down i l = told-down ws level 0 n good some e0 i l

  long : length below + 1 ≡ n
  long = omega (arith, down-long level 0 (kind_at ws 0) (attr_at ws 0) 0 (tree ws (n - 1) 1 (end_at ws 0)))

  -- no row's depth is over `most` exactly if the forest's is not
  pub depth_within : ((i : ℕ) → i < n → depth_at ws i ≤ most) → DepthWithin most 0 (rows_at ws 0 n)
  depth_within h =
      let lo = long in
      subst (λ (f : Rows). DepthWithin most 0 f) (sym shape)
      (omega arith, (within_of most 0 (kind_at ws 0) (attr_at ws 0) 0 (tree ws (n - 1) 1 (end_at ws 0)) (λ q l. subst (λ (x : ℕ). x ≤ most) (depth_down (suc q) (omega arith)) (h (suc q) (omega arith))), tt))

  pub within_depth : DepthWithin most 0 (rows_at ws 0 n) → (i : ℕ) → i < n → depth_at ws i ≤ most
  within_depth h i l =
      let lo = long in
      let w = subst (λ (f : Rows). DepthWithin most 0 f) shape h in
      subst (λ (x : ℕ). x ≤ most) (sym (depth_down i l)) (under-cons most 0 below w.0 (of_within most 0 (kind_at ws 0) (attr_at ws 0) 0 (tree ws (n - 1) 1 (end_at ws 0)) w.1.0) i (omega arith))

-- a test of kind and attr
module _ (ws : List ℕ) (n : ℕ) (good : Nested ws n) (test : ℕ → ℕ → Bool) where
  abbrev Each : ℕ → ℕ → Type 0
  Each i e = (j : ℕ) → i ≤ j → j < e → test (kind_at ws j) (attr_at ws j) ≡ false

  no_row : (f i e : ℕ) → Range ws n i e → Each i e → NoRow test (tree ws f i e)
  unfolding tree
  no_row zero i e r h = tt
  no_row (suc f) i e r h =
      ⊎_elim
      (λ lt.
      let here : i < n = omega (arith, r.within) in
      let past : i < end_at ws i = good.ahead i here in
      let up : end_at ws i ≤ e = r.closed i (omega arith) lt in
      subst (λ (t : Rows). NoRow test t) (sym (tree-more ws f i e lt))
      (h i (omega arith) lt, (no_row f (i + 1) (end_at ws i) (inner ws n good i here) (λ j a b. h j (omega arith) (omega arith)), no_row f (end_at ws i) e (later ws n good i e r lt) (λ j a b. h j (omega arith) b))))
      (λ ge. subst (λ (t : Rows). NoRow test t) (sym (tree_done ws (suc f) i e ge)) tt)
      (lt_or_ge i e)

  every_row : (f i e : ℕ) → Range ws n i e → e ≤ i + f → NoRow test (tree ws f i e) → Each i e
  every_row zero i e r room h j a b = absurd (omega arith)
  every_row (suc f) i e r room h j a b =
      let lt : i < e = omega arith in
      let here : i < n = omega (arith, r.within) in
      let past : i < end_at ws i = good.ahead i here in
      let w = subst (λ (t : Rows). NoRow test t) (tree-more ws f i e lt) h in
      ⊎_elim (λ z. subst (λ (x : ℕ). test (kind_at ws x) (attr_at ws x) ≡ false) z w.0)
      (λ z. ⊎_elim (λ y. every_row f (i + 1) (end_at ws i) (inner ws n good i here) (omega (arith, r.closed i (omega arith) lt)) w.1.0 j (omega arith) y)
      (λ y. every_row f (end_at ws i) e (later ws n good i e r lt) (omega arith) w.1.1 j y b) (lt_or_ge j (end_at ws i))) (eq-or-lt_of_le a)

  whole : Range ws n 0 n
  whole = record { ordered = omega arith; within = omega arith; closed = λ j a b. good.inside j b }

  -- no row passes the test exactly if none of the forest does
  pub rows_no : ((j : ℕ) → j < n → test (kind_at ws j) (attr_at ws j) ≡ false) → NoRow test (rows_at ws 0 n)
  unfolding rows_at
  rows_no h = no_row (n - 0) 0 n whole (λ j a b. h j b)

  pub no_rows : NoRow test (rows_at ws 0 n) → (j : ℕ) → j < n → test (kind_at ws j) (attr_at ws j) ≡ false
  unfolding rows_at
  no_rows h j l = every_row (n - 0) 0 n whole (omega arith) h j (omega arith) l
