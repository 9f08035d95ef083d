-- Following a chain of a frame's bindings, accessors or parameters. Assumes nothing.
use mathlib.Core.Path.{◌≡◌, refl, ap, sym, ◌∙◌}
use mathlib.Core.List.{List, [], ◌∷◌}
use Prim.Native.Nat.{ℕ, suc, ◌+◌, ◌*◌, ◌-◌, ◌<◌, ◌≤◌}
use mathlib.Core.Bool.{Bool, true, false, cond}
use native.Mathlib.Omega.{arith}
use borrow.Author.Tests.{eqb-true, eqb-false, ne_eqb}
use lib.Dec.{eqb}
use lib.ListN.{length, drop, get_or, length-drop}
use lib.Seq.{drop-cons, drop-drop, get_or-drop}
use Rattle.steps.specs.Bindings.{Binding, Binding.bind}
use Rattle.buckets.specs.Search.{first_where}
use Rattle.bindings.specs.Search.{of_class}
use Rattle.bindings.specs.Store.{bind_at, binds, first_table, Store}
use Rattle.buckets.proofs.Searches.{first-low, first-high, first_holds}
use Rattle.bindings.proofs.Arrays.{binds-length, binds-at}

-- b is the number of a binding of that class and frame, or 0
pub record Link (M : List ℕ) (cap count : ℕ) (param : Bool) (f b : ℕ) : Type 0 where
  pub low : b ≤ count
  pub class : eqb b 0 ≡ false → of_class param f (bind_at M cap b) ≡ true

-- what G, a function of bindings counted from a number on, gives from binding n on; z where there is none
abbrev pub from : {X : Type 0} → (ℕ → List Binding → X) → X → List Binding → ℕ → X
from G z bs n = cond (eqb n 0) z (G n (drop (n - 1) bs))

-- G gives z of no bindings, and passes over those of which the test p fails
pub record Passes {X : Type 0} (G : ℕ → List Binding → X) (z : X) (p : Binding → Bool) : Type 0 where
  pub end : (c : ℕ) → G c [] ≡ z
  pub over : (c : ℕ) (b : Binding) (bs : List Binding) → p b ≡ false → G c (b ∷ bs) ≡ G (c + 1) bs

-- one binding: it is passed over, or it is the first of which the test holds
pass_step : {X : Type 0} (G : ℕ → List Binding → X) (z : X) (c m : ℕ) (b : Binding) (bs : List Binding) (x : Bool)
    → 1 ≤ c → (x ≡ false → G c (b ∷ bs) ≡ G (c + 1) bs) → (eqb m 0 ≡ false → c + 1 ≤ m)
    → G (c + 1) bs ≡ cond (eqb m 0) z (G m (drop (m - (c + 1)) bs))
    → G c (b ∷ bs) ≡ cond (eqb (cond x c m) 0) z (G (cond x c m) (drop (cond x c m - c) (b ∷ bs)))
pass_step G z c m b bs true l h low ih =
    let e : c - c ≡ 0 = omega arith in
    let nz : eqb c 0 ≡ false = ne_eqb c 0 (λ w. omega arith) in
    rw (nz, e)
pass_step {X} G z c m b bs false l h low ih = h refl ∙ ih ∙ go (eqb m 0) refl
  where
    go : (y : Bool) → eqb m 0 ≡ y → cond y z (G m (drop (m - (c + 1)) bs)) ≡ cond y z (G m (drop (m - c) (b ∷ bs)))
    go true w = refl
    go false w = let k = low w in let s : m - c ≡ suc (m - (c + 1)) = omega arith in rw s

-- so it goes on at the first of which p holds
pub pass : {X : Type 0} (G : ℕ → List Binding → X) (z : X) (p : Binding → Bool) → Passes G z p → (c : ℕ) (bs : List Binding) → 1 ≤ c
    → G c bs ≡ cond (eqb (first_where p c bs) 0) z (G (first_where p c bs) (drop (first_where p c bs - c) bs))
unfolding first_where
pass G z p P c [] l = P.end c
pass G z p P c (b ∷ bs) l = pass_step G z c (first_where p (c + 1) bs) b bs (p b) l (P.over c b bs) (first-low p (c + 1) bs) (pass G z p P (c + 1) bs (omega arith))

module _ (M : List ℕ) (cap count : ℕ) (S : Store M cap count) (param : Bool) (f : ℕ) where
  abbrev bs : List Binding
  bs = binds M cap count

  len : length bs ≡ count
  len = binds-length M cap 1 count

  at-list : (b : ℕ) → eqb b 0 ≡ false → b ≤ count → get_or bs (b - 1) (bind 0 0 0) ≡ bind_at M cap b
  at-list b n l =
      let z = eqb-false b 0 n in
      let q : 1 + (b - 1) ≡ b = omega arith in
      binds-at M cap 1 count (b - 1) (bind 0 0 0) (omega arith) ∙ ap (bind_at M cap) q

  -- the first of a search from number c + 1 on
  found : (c b : ℕ) → c ≤ count → b ≡ first_where (of_class param f) (c + 1) (drop c bs) → eqb b 0 ≡ false → (c + 1 ≤ b) × (b ≤ count)
  found c b l q n =
      let z = sym (ap (λ (m : ℕ). eqb m 0) q) ∙ n in
      let k = first-low (of_class param f) (c + 1) (drop c bs) z in
      let h = first-high (of_class param f) (c + 1) (drop c bs) z in
      (omega arith, omega (arith, length-drop c bs, len))

  found_low : (c b : ℕ) → c ≤ count → b ≡ first_where (of_class param f) (c + 1) (drop c bs) → b ≤ count
  found_low c b l q = go (eqb b 0) refl
    where
      go : (y : Bool) → eqb b 0 ≡ y → b ≤ count
      go true z = let k = eqb-true b 0 z in omega arith
      go false z = (found c b l q z).1

  -- which is of the chain
  link : (c b : ℕ) → c ≤ count → b ≡ first_where (of_class param f) (c + 1) (drop c bs) → Link M cap count param f b
  link c b l q = record {
    low = found_low c b l q;
    class = λ n.
        let k = found c b l q n in
        let s : c + (b - (c + 1)) ≡ b - 1 = omega arith in
        let z = sym (ap (λ (m : ℕ). eqb m 0) q) ∙ n in
        sym (ap (of_class param f) (at-list b n k.1))
        ∙ sym (ap (of_class param f) (get_or-drop c bs (b - (c + 1)) (bind 0 0 0) ∙ ap (λ (m : ℕ). get_or bs m (bind 0 0 0)) s))
        ∙ ap (λ (m : ℕ). of_class param f (get_or (drop c bs) (m - (c + 1)) (bind 0 0 0))) q
        ∙ first_holds (of_class param f) (c + 1) (drop c bs) (bind 0 0 0) z;
  }

  -- and at which G goes on
  go_on : {X : Type 0} (G : ℕ → List Binding → X) (z : X) → Passes G z (of_class param f) → (c b : ℕ) → c ≤ count → b ≡ first_where (of_class param f) (c + 1) (drop c bs) → G (c + 1) (drop c bs) ≡ from G z bs b
  go_on G z P c b l q =
      pass G z (of_class param f) P (c + 1) (drop c bs) (omega arith)
      ∙ ap (λ (m : ℕ). cond (eqb m 0) z (G m (drop (m - (c + 1)) (drop c bs)))) (sym q)
      ∙ go (eqb b 0) refl
    where
      go : (y : Bool) → eqb b 0 ≡ y → cond y z (G b (drop (b - (c + 1)) (drop c bs))) ≡ cond y z (G b (drop (b - 1) bs))
      go true w = refl
      go false w = let k = found c b l q w in let s : c + (b - (c + 1)) ≡ b - 1 = omega arith in ap (G b) (drop-drop (b - (c + 1)) c bs ∙ ap (λ (m : ℕ). drop m bs) s)

  -- the first of the chain
  module _ (h : f < cap) (b : ℕ) (q : b ≡ get_or M (first_table param cap f) 0) where
    first-is : b ≡ first_where (of_class param f) (0 + 1) (drop 0 bs)
    first-is = q ∙ S.firsts param f h

    pub link-first : Link M cap count param f b
    link-first = link 0 b (omega arith) first-is

    pub all_from : {X : Type 0} (G : ℕ → List Binding → X) (z : X) → Passes G z (of_class param f) → G 1 bs ≡ from G z bs b
    all_from G z P = go_on G z P 0 b (omega arith) first-is

  module _ (b : ℕ) (L : Link M cap count param f b) (some : b ≡ 0 → ⊥) where
    nz : eqb b 0 ≡ false
    nz = ne_eqb b 0 some

    -- a binding of the chain, and those behind it
    pub here-from : {X : Type 0} (G : ℕ → List Binding → X) (z : X) → from G z bs b ≡ G b (bind_at M cap b ∷ drop b bs)
    here-from G z =
        let lo = L.low in
        let s : suc (b - 1) ≡ b = omega arith in
        ap (λ (y : Bool). cond y z (G b (drop (b - 1) bs))) nz
        ∙ ap (G b) (drop-cons bs (b - 1) (bind 0 0 0) (omega (arith, len)) ∙ ap (λ (m : ℕ). get_or bs (b - 1) (bind 0 0 0) ∷ drop m bs) s ∙ ap (λ (r : Binding). r ∷ drop b bs) (at-list b nz lo))

    -- the next of the chain
    module _ (b₁ : ℕ) (q : b₁ ≡ get_or M (3 * cap + b) 0) where
      next-is : b₁ ≡ first_where (of_class param f) (b + 1) (drop b bs)
      next-is = let lo = L.low in q ∙ S.nexts param f b (omega arith) lo (L.class nz)

      pub link-next : Link M cap count param f b₁
      link-next = link b b₁ L.low next-is

      pub rest_from : {X : Type 0} (G : ℕ → List Binding → X) (z : X) → Passes G z (of_class param f) → G (b + 1) (drop b bs) ≡ from G z bs b₁
      rest_from G z P = go_on G z P b b₁ L.low next-is

      -- a loop along the chain ends
      pub link-less : cond (eqb b₁ 0) 0 (count + 1 - b₁) < cond (eqb b 0) 0 (count + 1 - b)
      link-less = rw nz (go (eqb b₁ 0) refl)
        where
          go : (y : Bool) → eqb b₁ 0 ≡ y → cond y 0 (count + 1 - b₁) < count + 1 - b
          go true z = let lo = L.low in omega arith
          go false z = let k = found b b₁ L.low next-is z in let lo = L.low in omega arith
