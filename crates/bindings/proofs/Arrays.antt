-- The records in the array: reading them back after stores. Assumes nothing.
use mathlib.Core.Path.{◌≡◌, refl, ap, sym, ◌∙◌}
use mathlib.Core.List.{List, [], ◌∷◌, ◌++◌}
use Prim.Native.Nat.{ℕ, zero, suc, ◌+◌, ◌*◌, ◌<◌, ◌≤◌}
use native.Mathlib.Omega.{arith}
use native.Mathlib.Nat.{add-zero}
use lib.ListN.{length, get_or, set, length-set}
use lib.Seq.{get_or-set_same, get_or-set_other}
use Rattle.steps.specs.Bindings.{Binding, Binding.bind}
use Rattle.bindings.specs.Store.{bind_at, binds_from, binds, pushed}

pub binds-length : (M : List ℕ) (cap b n : ℕ) → length (binds_from M cap b n) ≡ n
unfolding binds_from
binds-length M cap b zero = refl
binds-length M cap b (suc n) = ap suc (binds-length M cap (b + 1) n)

pub binds_snoc : (M : List ℕ) (cap b n : ℕ) → binds_from M cap b (suc n) ≡ binds_from M cap b n ++ (bind_at M cap (b + n) ∷ [])
unfolding binds_from
binds_snoc M cap b zero = ap (λ (x : ℕ). bind_at M cap x ∷ []) (sym (add-zero b))
binds_snoc M cap b (suc n) =
    let q : b + 1 + n ≡ b + suc n = omega arith in
    ap (λ (l : List Binding). bind_at M cap b ∷ l) (binds_snoc M cap (b + 1) n ∙ ap (λ (x : ℕ). binds_from M cap (b + 1) n ++ (bind_at M cap x ∷ [])) q)

pub binds_agree : (M M' : List ℕ) (cap b n : ℕ) → ((j : ℕ) → b ≤ j → j < b + n → bind_at M' cap j ≡ bind_at M cap j) → binds_from M' cap b n ≡ binds_from M cap b n
unfolding binds_from
binds_agree M M' cap b zero h = refl
binds_agree M M' cap b (suc n) h = rw (h b (omega arith) (omega arith), binds_agree M M' cap (b + 1) n (λ j x y. h j (omega arith) (omega arith)))

-- record j of the list
pub binds-at : (M : List ℕ) (cap b n j : ℕ) (d : Binding) → j < n → get_or (binds_from M cap b n) j d ≡ bind_at M cap (b + j)
unfolding binds_from
binds-at M cap b zero j d h = absurd (omega arith)
binds-at M cap b (suc n) zero d h = ap (bind_at M cap) (sym (add-zero b))
binds-at M cap b (suc n) (suc j) d h = let q : b + 1 + j ≡ b + suc j = omega arith in binds-at M cap (b + 1) n j d (omega arith) ∙ ap (bind_at M cap) q

-- two arrays that agree on the records' tables
pub same-binds : (M M' : List ℕ) (cap count : ℕ) → count < cap → ((j : ℕ) → j < 3 * cap → get_or M' j 0 ≡ get_or M j 0) → binds M' cap count ≡ binds M cap count
same-binds M M' cap count l h = binds_agree M M' cap 1 count (λ j x y. rw (h j (omega arith), h (cap + j) (omega arith), h (2 * cap + j) (omega arith)))

module _ (M : List ℕ) (cap b u x f : ℕ) (long : length M ≡ 12 * cap) (low : b < cap) where
  pub pushed_long : length (pushed M cap b u x f) ≡ 12 * cap
  pushed_long = simp length-set long

  -- the record is there
  pub pushed-here : bind_at (pushed M cap b u x f) cap b ≡ bind u x f
  pushed-here =
      let l₁ : length (set M b u) ≡ 12 * cap = length-set M b u ∙ long in
      let l₂ : length (set (set M b u) (cap + b) x) ≡ 12 * cap = length-set (set M b u) (cap + b) x ∙ l₁ in
      let e₁ : get_or (pushed M cap b u x f) b 0 ≡ u = get_or-set_other (set (set M b u) (cap + b) x) (2 * cap + b) b f 0 (λ q. omega arith) ∙ get_or-set_other (set M b u) (cap + b) b x 0 (λ q. omega arith) ∙ get_or-set_same M b u 0 (omega arith) in
      let e₂ : get_or (pushed M cap b u x f) (cap + b) 0 ≡ x = get_or-set_other (set (set M b u) (cap + b) x) (2 * cap + b) (cap + b) f 0 (λ q. omega arith) ∙ get_or-set_same (set M b u) (cap + b) x 0 (omega arith) in
      let e₃ : get_or (pushed M cap b u x f) (2 * cap + b) 0 ≡ f = get_or-set_same (set (set M b u) (cap + b) x) (2 * cap + b) f 0 (omega arith) in
      rw (e₁, e₂, e₃)

  -- all else is as it was
  pub pushed_else : (j : ℕ) → (j ≡ b → ⊥) → (j ≡ cap + b → ⊥) → (j ≡ 2 * cap + b → ⊥) → get_or (pushed M cap b u x f) j 0 ≡ get_or M j 0
  pushed_else j n₁ n₂ n₃ = get_or-set_other (set (set M b u) (cap + b) x) (2 * cap + b) j f 0 n₃ ∙ get_or-set_other (set M b u) (cap + b) j x 0 n₂ ∙ get_or-set_other M b j u 0 n₁

  pub pushed-later : (j : ℕ) → 3 * cap ≤ j → get_or (pushed M cap b u x f) j 0 ≡ get_or M j 0
  pushed-later j h = pushed_else j (λ q. omega arith) (λ q. omega arith) (λ q. omega arith)

  pub pushed_before : (j : ℕ) → j < b → bind_at (pushed M cap b u x f) cap j ≡ bind_at M cap j
  pushed_before j h =
      rw (pushed_else j (λ q. omega arith) (λ q. omega arith) (λ q. omega arith), pushed_else (cap + j) (λ q. omega arith) (λ q. omega arith) (λ q. omega arith), pushed_else (2 * cap + j) (λ q. omega arith) (λ q. omega arith) (λ q. omega arith))

-- one binding more
pub pushed-binds : (M : List ℕ) (cap count u x f : ℕ) → length M ≡ 12 * cap → count + 1 < cap → binds (pushed M cap (count + 1) u x f) cap (count + 1) ≡ binds M cap count ++ (bind u x f ∷ [])
pushed-binds M cap count u x f long low =
    let q : count + 1 ≡ suc count = omega arith in
    let e : 1 + count ≡ count + 1 = omega arith in
    ap (λ (n : ℕ). binds_from (pushed M cap (count + 1) u x f) cap 1 n) q
    ∙ binds_snoc (pushed M cap (count + 1) u x f) cap 1 count
    ∙ ap (λ (l : List Binding). l ++ (bind_at (pushed M cap (count + 1) u x f) cap (1 + count) ∷ [])) (binds_agree M (pushed M cap (count + 1) u x f) cap 1 count (λ j a b. pushed_before M cap (count + 1) u x f long low j (omega arith)))
    ∙ ap (λ (r : Binding). binds M cap count ++ (r ∷ [])) (ap (bind_at (pushed M cap (count + 1) u x f) cap) e ∙ pushed-here M cap (count + 1) u x f long low)
