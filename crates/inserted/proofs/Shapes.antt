-- What modules 7 and 8 put in, case by case, as the writers make it. Assumes nothing.
use mathlib.Core.Path.{◌≡◌, refl, ap, ◌∙◌}
use mathlib.Core.Bool.{Bool, true, false, cond}
use mathlib.Core.List.{List}
use Prim.Native.Nat.{ℕ, ◌+◌}
use native.Mathlib.Omega.{arith}
use lib.Dec.{eqb}
use borrow.Author.Tests.{ne_eqb}
use denote.Enum.Bare.{sameb}
use Rattle.uses.specs.Uses.{access_number}
use Rattle.uses.specs.declared.Access.{Access}
use Rattle.uses.specs.declared.Access.TheVariants.{Get, Set}
use Rattle.uses.specs.contracts.Access.{the_type}
use Rattle.grammar.specs.Kinds.{Declarator, This, Super, Ident, Member, Computed, Assign, Arrow, Params, Target}
use Rattle.forest.specs.Forest.{Rows, Rows.none, Rows.node, size}
use Rattle.steps.specs.Joining.{join}
use Rattle.steps.specs.AfterSuper.{assignment}
use Rattle.steps.specs.TopInsertion.{this_decl, arguments_decl, head_n, past_prop, access_row, accessor}
use Rattle.inserted.specs.Insertions.{arguments_row, param_if, params_row, body_row, accessor_of, accessor_decl}
use Rattle.output.proofs.Writing.{size-leaf, size-one}
use Rattle.steps.proofs.Sizes.{size-join}

-- the assignment after super
pub size-assignment : (b : ℕ) → size (assignment b) ≡ 4
unfolding size assignment
size-assignment b = refl

-- the Declarator of `this`
pub this_none : {b : ℕ} (l : Bool) → b ≡ 0 → this_decl b l ≡ none
unfolding this_decl
this_none l h = rw h

pub this_late : {b : ℕ} {l : Bool} → (b ≡ 0 → ⊥) → l ≡ true → this_decl b l ≡ node Declarator 1 b none none
unfolding this_decl
this_late {b} h q = rw (ne_eqb b 0 h, q)

pub this_here : {b : ℕ} {l : Bool} → (b ≡ 0 → ⊥) → l ≡ false → this_decl b l ≡ node Declarator 1 b (node This 0 0 none none) none
unfolding this_decl
this_here {b} h q = rw (ne_eqb b 0 h, q)

pub size-late : {b : ℕ} {l : Bool} → (b ≡ 0 → ⊥) → l ≡ true → size (this_decl b l) ≡ 1
size-late {b} h q = ap size (this_late h q) ∙ size-leaf 3 1 b

pub size-here : {b : ℕ} {l : Bool} → (b ≡ 0 → ⊥) → l ≡ false → size (this_decl b l) ≡ 2
unfolding size
size-here h q = ap size (this_here h q)

-- the Declarator of `arguments`
pub arguments_none : {b : ℕ} (g : Bool) (t : Rows) → b ≡ 0 → arguments_decl b g t ≡ t
unfolding arguments_decl
arguments_none g t h = rw h

pub arguments_some : {b : ℕ} (g : Bool) (t : Rows) → (b ≡ 0 → ⊥) → arguments_decl b g t ≡ node Declarator 1 b (arguments_row g) t
unfolding arguments_decl
arguments_some {b} g t h = rw (ne_eqb b 0 h)

pub size_arguments : {b : ℕ} (g : Bool) → (b ≡ 0 → ⊥) → size (arguments_decl b g none) ≡ 2
unfolding size
size_arguments g h = ap size (arguments_some g none h)

-- before other rows, it stands beside them
pub arguments_join : (b : ℕ) (g : Bool) (t : Rows) → arguments_decl b g t ≡ join (arguments_decl b g none) t
unfolding arguments_decl
arguments_join b g t = go (eqb b 0)
  where
    go : (y : Bool) → cond y t (node Declarator 1 b (arguments_row g) t) ≡ join (cond y none (node Declarator 1 b (arguments_row g) none)) t
    go true = unfold join in refl
    go false = unfold join in refl

-- an access of a property of Super
pub access_computed : {x : ℕ} (b : ℕ) (t : Rows) → x ≡ 0 → access_row x b t ≡ node Computed 0 0 (node Super 0 0 none (node Ident 1 b none none)) t
unfolding access_row
access_computed b t h = rw h

pub access_member : {x : ℕ} (b : ℕ) (t : Rows) → (x ≡ 0 → ⊥) → access_row x b t ≡ node Member 0 x (node Super 0 0 none none) t
unfolding access_row
access_member {x} b t h = rw (ne_eqb x 0 h)

pub size_computed : {x : ℕ} (b : ℕ) → x ≡ 0 → size (access_row x b none) ≡ 3
unfolding size
size_computed b h = ap size (access_computed b none h)

pub size_member : {x : ℕ} (b : ℕ) → (x ≡ 0 → ⊥) → size (access_row x b none) ≡ 2
unfolding size
size_member b h = ap size (access_member b none h)

pub access_join : (x b : ℕ) (t : Rows) → access_row x b t ≡ join (access_row x b none) t
unfolding access_row
access_join x b t = go (eqb x 0)
  where
    go : (y : Bool) → cond y (node Computed 0 0 (node Super 0 0 none (node Ident 1 b none none)) t) (node Member 0 x (node Super 0 0 none none) t)
        ≡ join (cond y (node Computed 0 0 (node Super 0 0 none (node Ident 1 b none none)) none) (node Member 0 x (node Super 0 0 none none) none)) t
    go true = unfold join in refl
    go false = unfold join in refl

-- an accessor's params
pub param_yes : {y : Bool} (b : ℕ) → y ≡ true → param_if y b ≡ node Declarator 1 b none none
unfolding param_if
param_yes b h = rw h

pub param_no : {y : Bool} (b : ℕ) → y ≡ false → param_if y b ≡ none
unfolding param_if
param_no b h = rw h

pub size_param : {y : Bool} (b : ℕ) → y ≡ true → size (param_if y b) ≡ 1
size_param b h = ap size (param_yes b h) ∙ size-leaf 3 1 b

pub size_params : (u x p v : ℕ) → size (params_row u x p v) ≡ 1 + (size (param_if (eqb x 0) p) + size (param_if (eqb u 4) v))
unfolding params_row
size_params u x p v = size-one 18 0 0 _ ∙ ap (λ (n : ℕ). 1 + n) (size-join (param_if (eqb x 0) p) (param_if (eqb u 4) v))

-- the test of the code for one that sets
pub is-set : (a : Access) → sameb the_type a Set ≡ eqb (access_number a) 4
is-set Get = refl
is-set Set = refl

-- its body
abbrev pub set_row : (x p v : ℕ) → Rows
set_row x p v = node Assign 0 0 (node Target 0 0 (access_row x p none) (node Ident 1 v none none)) none

pub body_set : {a : Access} (x p v : ℕ) → a ≡ Set → body_row (access_number a) x p v ≡ set_row x p v
unfolding body_row
body_set x p v h = rw h

pub body_get : {a : Access} (x p v : ℕ) → a ≡ Get → body_row (access_number a) x p v ≡ access_row x p none
unfolding body_row
body_get x p v h = rw h

pub size-set : {a : Access} (x p v : ℕ) → a ≡ Set → size (body_row (access_number a) x p v) ≡ 3 + size (access_row x p none)
unfolding size
size-set x p v h = ap size (body_set x p v h) ∙ omega arith

-- the whole
pub size-accessor : (u x p v : ℕ) → size (accessor_of u x p v) ≡ 1 + (size (params_row u x p v) + size (body_row u x p v))
unfolding accessor_of
size-accessor u x p v = size-one 16 2 0 _ ∙ ap (λ (n : ℕ). 1 + n) (size-join (params_row u x p v) (body_row u x p v))

-- one that is asked for by any number of a use is that of the number's Access, get where it has none
pub sets_by : (n : ℕ) → eqb (cond (eqb n 4) 4 3) 4 ≡ eqb n 4
sets_by n = go (eqb n 4)
  where
    go : (y : Bool) → eqb (cond y 4 3) 4 ≡ y
    go true = refl
    go false = refl

pub accessor_by : (n x p v : ℕ) → accessor_of (cond (eqb n 4) 4 3) x p v ≡ accessor_of n x p v
unfolding accessor_of params_row body_row
accessor_by n x p v = rw (sets_by n)

pub declared_by : (b n x p v : ℕ) → accessor_decl b (cond (eqb n 4) 4 3) x p v ≡ accessor_decl b n x p v
unfolding accessor_of params_row body_row
declared_by b n x p v = rw (sets_by n)

-- an accessor by the list of its params' numbers is one by their heads
heads : (y : Bool) (p : ℕ) (value body : Rows)
    → node Arrow 2 0 (node Params 0 0 (cond y (node Declarator 1 p none value) value) body) none
    ≡ node Arrow 2 0 (join (node Params 0 0 (join (cond y (node Declarator 1 p none none) none) value) none) body) none
unfolding join
heads true p value body = refl
heads false p value body = refl

pub accessor-heads : (u x : ℕ) (ps : List ℕ) → accessor u x ps ≡ accessor_of u x (head_n ps) (head_n (past_prop x ps))
unfolding accessor accessor_of params_row body_row param_if
accessor-heads u x ps =
    let v = head_n (past_prop x ps) in
    heads (eqb x 0) (head_n ps) (cond (eqb u 4) (node Declarator 1 v none none) none) (cond (eqb u 4) (set_row x (head_n ps) v) (access_row x (head_n ps) none))
