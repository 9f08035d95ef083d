-- What the steps want of the rows under Program; `Shaped` shows that acceptance gives it. Assumes nothing.
use mathlib.Core.Path.{◌≡◌}
use mathlib.Core.List.{[], ◌∷◌}
use Prim.Native.Nat.{ℕ}
use mathlib.Core.Bool.{cond}
use lib.Dec.{eqb}
use Rattle.steps.specs.Owners.{among}
use Rattle.forest.specs.Forest.{Rows, Rows.none, Rows.node}
use Rattle.grammar.specs.Kinds.{Program, Declarator, This, Ident, Assign, Function, Target}

-- What acceptance gives.
unfoldable pub Empty : Rows → Type 0
Empty none = Unit {0}
Empty (node k a n i s) = ⊥

unfoldable pub OneBody : Rows → Type 0
OneBody none = ⊥
OneBody (node k a n i s) = (k ≡ 19) × (s ≡ none)

unfoldable pub ParamsBody : Rows → Type 0
ParamsBody none = ⊥
ParamsBody (node k a n i s) = (k ≡ 18) × OneBody s

unfoldable pub NoThisKind : ℕ → Type 0
NoThisKind k = cond (eqb k This) ⊥ (Unit {0})

unfoldable pub NoThisFirst : Rows → Type 0
NoThisFirst none = Unit {0}
NoThisFirst (node k a n i s) = NoThisKind k

unfoldable pub TargetFirst : Rows → Type 0
TargetFirst none = Unit {0}
TargetFirst (node k a n i s) = k ≡ 28

unfoldable pub WfRow : ℕ → ℕ → Rows → Type 0
WfRow k a i =
    cond (eqb k Program) ⊥
    (cond (among k (Declarator ∷ Ident ∷ [])) (a ≡ 0)
    (cond (eqb k This) (Empty i)
    (cond (eqb k Function) (ParamsBody i)
    (cond (eqb k Target) (NoThisFirst i)
    (cond (eqb k Assign) (TargetFirst i) (Unit {0}))))))

unfoldable pub Wf : Rows → Type 0
Wf none = Unit {0}
Wf (node k a n i s) = WfRow k a i × Wf i × Wf s
