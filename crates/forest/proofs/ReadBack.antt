-- The words of a forest read back as that forest. Assumes nothing.
use mathlib.Core.Path.{◌≡◌, sym, ◌∙◌}
use mathlib.Core.List.{List}
use Prim.Native.Nat.{ℕ, zero, suc, ◌+◌, ◌*◌, ◌-◌, ◌≤◌}
use native.Mathlib.Omega.{arith}
use lib.ListN.{length}
use lib.Seq.{slice, take_all}
use Rattle.names.specs.Words.{end_at}
use Rattle.forest.specs.Forest.{Rows, none, node, size, flat, tree, rows_at}
use Rattle.forest.proofs.Nesting.{tree-more, tree_done}
use Rattle.forest.proofs.Accepting.{length-flat}
use Rattle.forest.proofs.Completing.{fields}

-- rows c up to e, where their words are those of the forest g
tree_is : (g : Rows) (ws : List ℕ) (f c e : ℕ) → c + size g ≡ e → e ≤ c + f → 4 * e ≤ length ws → flat c g ≡ slice (4 * c) (4 * e) ws → tree ws f c e ≡ g
unfolding size
tree_is none ws f c e q room long h = tree_done ws f c e (omega arith)
tree_is (node k a n i s) ws zero c e q room long h = absurd (omega arith)
tree_is (node k a n i s) ws (suc f) c e q room long h =
    let F = fields ws k a n i s c e q long h in
    let fe : end_at ws c ≡ c + 1 + size i = F.fe in
    let inside : tree ws f (c + 1) (end_at ws c) ≡ i = tree_is i ws f (c + 1) (end_at ws c) (omega arith) (omega arith) (omega arith) F.fi in
    let after : tree ws f (end_at ws c) e ≡ s = tree_is s ws f (end_at ws c) e (omega arith) (omega arith) long F.fs in
    let fk = F.fk in
    let fa = F.fa in
    let fn = F.fn in
    tree-more ws f c e (omega arith) ∙ cc

pub read_back : (g : Rows) → rows_at (flat 0 g) 0 (size g) ≡ g
unfolding rows_at
read_back g =
    let l : length (flat 0 g) ≡ 4 * size g = length-flat 0 g in
    tree_is g (flat 0 g) (size g - 0) 0 (size g) (omega arith) (omega arith) (omega arith) (sym (take_all (4 * size g) (flat 0 g) (omega arith)))
