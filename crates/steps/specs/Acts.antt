-- What is done with a row, by its kind, its place and what stands right below it: modules 3 to 6 brought together. Assumes nothing.
use Rattle.std.specs.Prelude.{List, ℕ, Bool, false, cond, not, ◌&&◌, ◌||◌, eqb}
use Rattle.grammar.specs.Kinds.{This, Super, Ident, Member, Computed, Call, Assign, Arrow, Function, Method, Field, StaticBlock, Property, Target}
use Rattle.forest.specs.Forest.{Rows}
use Rattle.steps.specs.Mode.{Switches, bit, async_only}
use Rattle.steps.specs.Paths.{Step, Step.along, Step.in_params, Step.in_body, Step.in_arrow, Step.in_value, Step.in_static}
use Rattle.steps.specs.AncestorRule.{captured, this_frame}
use Rattle.steps.specs.Super.{super_yes, super_frame, first_super, first_access, first_name, first_inside}
use Rattle.steps.specs.Arguments.{arguments_yes, arguments_frame}
use Rattle.steps.specs.ArrowToFunction.{to_function?}
use Rattle.steps.specs.Slots.{free, of_method, body_of, late_body, wrapped, of_target, callee, dropped}
use Rattle.steps.specs.Naming.{Names, named_arguments}

-- what modules 3, 4 and 5 say of a path
pub record Ctx : Type 0 where
  pub takes_this : Bool
  pub this_at : ℕ
  pub takes_super : Bool
  pub super_at : ℕ
  pub takes_arguments : Bool
  pub arguments_at : ℕ

abbrev pub ctx_of : Switches → List Step → Ctx
ctx_of w p = record { takes_this = captured w p; this_at = this_frame p; takes_super = super_yes w p; super_at = super_frame p; takes_arguments = arguments_yes w p; arguments_at = arguments_frame p }

-- What becomes of a row. Uses: 1 this, 2 arguments, 3 get, 4 set.
pub data Op : Type 0 where
  -- a row of these words around what its children become
  row : (k a n : ℕ) → Op
  -- what its children become stands in its place
  drop : Op
  -- a captured Ident, of use u and frame f
  name : (u f : ℕ) → Op
  -- a Call of the accessor of use u, frame f and property x; `called`: it is `get().call(this, ..)`
  call : (u f x : ℕ) (called : Bool) → Op

-- how a child is reached: one step inward, and its slot
pub record Turn : Type 0 where
  pub step : Step
  pub slot : ℕ

abbrev pub by : Step → ℕ → Turn
by s sl = record { step = s; slot = sl }

-- what becomes of the row, and how its first child and its later ones are reached
pub record Act : Type 0 where
  pub op : Op
  pub one : Turn
  pub more : Turn

abbrev pub does : Op → Turn → Turn → Act
does x t t' = record { op = x; one = t; more = t' }

-- the kinds that a rule is about; access: Member, Computed; keyed: Method, Property
pub data Kind : Type 0 where
  this super ident access call assign arrow function keyed field static target other : Kind

unfoldable pub kind_of : ℕ → Kind
kind_of k =
    cond (eqb k This) this
    (cond (eqb k Super) super
    (cond (eqb k Ident) ident
    (cond (eqb k Member || eqb k Computed) access
    (cond (eqb k Call) call
    (cond (eqb k Assign) assign
    (cond (eqb k Arrow) arrow
    (cond (eqb k Function) function
    (cond (eqb k Method || eqb k Property) keyed
    (cond (eqb k Field) field
    (cond (eqb k StaticBlock) static
    (cond (eqb k Target) target other)))))))))))

-- Module 4, "On yes: `super.p` becomes a Call of the get accessor; `super[k]` passes k". "A Target's child is not so treated; what stands below it is."
abbrev pub reads? : Ctx → ℕ → Rows → Bool
reads? c sl i = c.takes_super && first_super i && not (eqb sl of_target)

-- "an assignment becomes a Call of the set accessor with k if computed, then the value, the operator ignored"
abbrev pub sets? : Ctx → Rows → Bool
sets? c i = c.takes_super && first_access (first_inside i)

-- "Method-like: last child of a Method, or of a Property with bit 1."
abbrev pub method_slot : ℕ → ℕ → ℕ
method_slot k a = cond (eqb k Method || bit 2 a) of_method free

-- The act of a row of each kind. `l`: of a constructor, a Super left in place has it as its nearest Function; `sl` is the row's slot and `o` its number.
unfoldable pub act_of : Names → Switches → (l : Bool) → Ctx → (sl o : ℕ) → Kind → (k a n : ℕ) → Rows → Act
-- module 3
act_of N w l c sl o this k a n i = does (cond c.takes_this (name 1 c.this_at) (row k a n)) (by along free) (by along free)
-- module 4
act_of N w l c sl o super k a n i = does (cond (eqb sl dropped) drop (row k a n)) (by along free) (by along free)
-- module 5, "AsyncOnly. From an Ident `arguments`"
act_of N w l c sl o ident k a n i = does (cond (async_only w && named_arguments N n && c.takes_arguments) (name 2 c.arguments_at) (row k a n)) (by along free) (by along free)
-- module 4: an access, the callee of a call, an assignment
act_of N w l c sl o access k a n i = does (cond (reads? c sl i) (cond (eqb sl dropped) drop (call 3 c.super_at n (eqb sl callee))) (row k a n)) (by along (cond (reads? c sl i) dropped free)) (by along free)
act_of N w l c sl o call k a n i = does (row k a n) (by along (cond (c.takes_super && first_access i) callee free)) (by along free)
act_of N w l c sl o assign k a n i = does (cond (sets? c i) (call 4 c.super_at (first_name (first_inside i)) false) (row k a n)) (by along (cond (sets? c i) dropped free)) (by along free)
-- module 6
act_of N w l c sl o arrow k a n i = does (cond (to_function? w a) (row Function 0 0) (row k a n)) (by (in_arrow a) free) (by (in_arrow a) (cond (to_function? w a && bit 2 a) wrapped free))
-- the rows that a path knows
act_of N w l c sl o function k a n i = does (row k a n) (by (in_params o a (eqb sl of_method)) free) (by (in_body o a (eqb sl of_method)) (cond l late_body body_of))
act_of N w l c sl o keyed k a n i = does (row k a n) (by along (cond (bit 1 a) free (method_slot k a))) (by along (method_slot k a))
act_of N w l c sl o field k a n i = does (row k a n) (by (cond (bit 1 a) along (in_value o)) free) (by (in_value o) free)
act_of N w l c sl o static k a n i = does (row k a n) (by (in_static o) free) (by (in_static o) free)
-- module 4: the Target of an assignment that is rewritten falls away
act_of N w l c sl o target k a n i = does (cond (eqb sl dropped) drop (row k a n)) (by along (cond (eqb sl dropped) dropped of_target)) (by along free)
act_of N w l c sl o other k a n i = does (row k a n) (by along free) (by along free)

unfoldable pub act : Names → Switches → (l : Bool) → Ctx → (sl o k a n : ℕ) → Rows → Act
act N w l c sl o k a n i = act_of N w l c sl o (kind_of k) k a n i
