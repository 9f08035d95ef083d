-- Module 7 in the walk itself: `emit_c` with the scan of module 7 carried along, so that the rows are made once. Code follows this; `steps_fused` says that it is the steps. Assumes nothing.
use Rattle.std.specs.Prelude.{List, [], ℕ, ◌+◌, Bool, cond, not, ◌&&◌, ◌||◌, eqb}
use Rattle.grammar.specs.Kinds.{Program, ExprStmt, Block, Call, Function, Body, Class, Method, Field, StaticBlock, Sequence}
use Rattle.forest.specs.Forest.{Rows, Rows.none, Rows.node, size}
use Rattle.steps.specs.Mode.{Switches, bit, enabled, async_only}
use Rattle.steps.specs.Super.{first_super}
use Rattle.steps.specs.ArrowToFunction.{dress}
use Rattle.steps.specs.Slots.{free, late_body, wrapped}
use Rattle.steps.specs.Naming.{Names}
use Rattle.steps.specs.Acts.{Ctx, Op, Op.row, Op.drop, Op.name, Op.call, Act}
use Rattle.steps.specs.Bindings.{Binding, number, closes}
use Rattle.steps.specs.AfterSuper.{list, visit, copy, direct, once, heritage, members, super_call, assignment}
use Rattle.steps.specs.TopInsertion.{arguments_decl, accessor_decls, param_numbers, this_decl, var_first}
use Rattle.steps.specs.Walk.{build}
use Rattle.steps.specs.Context.{enter, start, Spot, spot, into, act_c, made_c}
use Rattle.steps.specs.Steps.{Result}

-- Module 7, "Any other called Super becomes a Sequence of itself and that assignment": a row of kind k in state sc; sup: its first child is Super.
unfoldable pub met_of : (sc k : ℕ) (sup : Bool) → Bool
met_of sc k sup = eqb k Call && sup && (eqb sc visit || eqb sc once || eqb sc heritage)

-- "In each list (a Body's or Block's children) the first direct `super(..)` statement"; called: its first child is a Call of Super
unfoldable pub direct_of : (sc k : ℕ) (called : Bool) → Bool
direct_of sc k called = eqb k ExprStmt && called && eqb sc list

-- the state inside of a row that the steps add: an accessor's Call, or the Body and Return of an expression body
unfoldable pub within : ℕ → ℕ
within sc = cond (eqb sc copy || eqb sc members) copy visit

-- the state of a row in that slot: "an expression body becomes a Body with one Return" around it
unfoldable pub own : (sl sc : ℕ) → ℕ
own sl sc = cond (eqb sl wrapped) (within sc) sc

-- What is done with a row's children. "has its arguments visited"; "its arguments not visited"; "Functions and StaticBlocks are not entered; of a Class only heritage and computed keys are."
unfoldable pub scan_of : (sc : ℕ) (met first : Bool) → Op → ℕ
scan_of sc met first (row k a n) =
    cond (eqb sc copy || met) copy
    (cond (eqb sc direct) visit
    (cond first direct
    (cond (eqb sc members) (cond ((eqb k Method || eqb k Field) && bit 1 a) once copy)
    (cond (eqb k Block || eqb k Body) list
    (cond (eqb k Function || eqb k StaticBlock) copy
    (cond (eqb k Class) (cond (bit 1 a) heritage members) visit))))))
scan_of sc met first drop = sc
scan_of sc met first (name u f) = copy
scan_of sc met first (call u f x t) = within sc

-- and with the rows after it: "the scan of that list stops"
unfoldable pub next_of : (sc : ℕ) (first : Bool) → ℕ
next_of sc first = cond (eqb sc heritage) members (cond (eqb sc once || eqb sc direct || first) copy sc)

-- Module 8, "with module 7 run, in a constructor where a Super left in place has that constructor as nearest Function": the children are such a Body's. m is the number of the frame's captured `this`, 0 for none.
unfoldable pub anew : (sl k m : ℕ) → Bool
anew sl k m = closes sl k && (eqb sl late_body && not (eqb m 0))

-- What module 7 says of a row: whether it becomes a Sequence, whether the assignment goes behind it, the state of its children and that of the rows after it, and the binding that is assigned in its children.
pub record Pass : Type 0 where
  pub met : Bool
  pub first : Bool
  pub scan : ℕ
  pub next : ℕ
  pub bind : ℕ

-- of a row of kind k in that slot, in a list of state sc where b is assigned; op is what becomes of it
unfoldable pub pass_of : (b sc sl k m : ℕ) (sup called : Bool) → Op → Pass
pass_of b sc sl k m sup called op =
    record {
      met = met_of (own sl sc) k sup;
      first = direct_of (own sl sc) k called;
      scan = cond (anew sl k m) list (scan_of (own sl sc) (met_of (own sl sc) k sup) (direct_of (own sl sc) k called) op);
      next = next_of sc (direct_of (own sl sc) k called);
      bind = cond (anew sl k m) m b;
    }

-- Module 8: the Declarators of a frame's Var, "arguments (guarded at Program), accessors by first use, this"
unfoldable pub declared : Names → List Binding → (r : ℕ) (g l : Bool) → Rows
declared N bs r g l = arguments_decl (number N bs 2 r 0) g (accessor_decls r 1 (param_numbers r 1 bs) bs (this_decl (number N bs 1 r 0) l))

-- "As a frame closes, one Var goes first": before what the children became
unfoldable pub top_s : Names → List Binding → (sl k r : ℕ) → Rows → Rows
top_s N bs sl k r i = cond (closes sl k) (var_first (declared N bs r (eqb k Program) (eqb sl late_body)) i) i

-- What a row becomes, given what its children become, before the rows s. Module 7: "and `captured = this` put after it as a statement"; "becomes a Sequence of itself and that assignment".
unfoldable pub build_s : Names → List Binding → Ctx → (b : ℕ) (met first : Bool) → Op → Rows → Rows → Rows
build_s N bs c b met first op i s =
    cond met
    (node Sequence 0 0 (build N bs c op i (assignment b)) s)
    (build N bs c op i (cond first (node ExprStmt 0 0 (assignment b) s) s))

-- The rows of the result, the final list of bindings given. Module 7, "Runs on the converted body": here as that body is written. b is the number of the binding that is assigned, and sc the state of the first row.
unfoldable pub emit_s : Names → Switches → List Binding → (b sc : ℕ) → Spot → Spot → ℕ → Rows → Rows
emit_s N w bs b sc q q' o none = none
emit_s N w bs b sc q q' o (node k a n i s) =
    let A : Act = act_c N w q o k a n i in
    let r : ℕ = (enter w A.more.step q.ctx).this_at in
    let P : Pass = pass_of b sc q.slot k (number N bs 1 r 0) (first_super i) (super_call i) A.op in
    dress q.slot
    (build_s N bs q.ctx b P.met P.first A.op
    (top_s N bs q.slot k r
    (emit_s N w bs P.bind P.scan (into w q A.one) (into w q A.more) (o + 1) i)))
    (emit_s N w bs b P.next q' q' (o + 1 + size i) s)

-- the whole conversion, as code meets it
unfoldable pub steps_s : Names → Switches → Rows → Result
steps_s N w t =
    cond (enabled w || async_only w)
    (record { rows = emit_s N w (made_c N w t) 0 copy (spot start free) (spot start free) 0 t; bindings = made_c N w t })
    (record { rows = t; bindings = [] })
