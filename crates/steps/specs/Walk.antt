-- Module 9, the walk. It is made twice: `collect` makes the bindings in the Rust's order, and `emit`, which knows them all, makes the rows. Assumes nothing.
use Rattle.std.specs.Prelude.{List, [], ◌∷◌, ℕ, ◌+◌, Bool, false, cond, not, ◌&&◌, ◌||◌, eqb}
use Rattle.grammar.specs.Kinds.{This, Super, Ident, Member, Call, Function}
use Rattle.forest.specs.Forest.{Rows, Rows.none, Rows.node, size}
use Rattle.steps.specs.Mode.{Switches, bit}
use Rattle.steps.specs.Paths.{Step, Step.in_params, Step.in_body}
use Rattle.steps.specs.AncestorRule.{this_frame}
use Rattle.steps.specs.ArrowToFunction.{dress}
use Rattle.steps.specs.Joining.{join}
use Rattle.steps.specs.Slots.{free, of_method, dropped}
use Rattle.steps.specs.Naming.{Names}
use Rattle.steps.specs.Acts.{Ctx, ctx_of, Op, Op.row, Op.drop, Op.name, Op.call, Turn, by, Act, act}
use Rattle.steps.specs.Bindings.{Binding, number, closes, closed, meet, leave}
use Rattle.steps.specs.TopInsertion.{top}

-- Where a row is: the path outward, and its slot. A list of rows is walked with two places, that of its first row and that of all later ones.
pub record Place : Type 0 where
  pub path : List Step
  pub slot : ℕ

abbrev pub on : List Step → ℕ → Place
on p sl = record { path = p; slot = sl }

abbrev pub under : Place → Turn → Place
under q t = on (t.step ∷ q.path) t.slot

-- Module 8, "a Super left in place has that constructor as nearest Function": a Super stays here, outside of further Functions
unfoldable pub leaves : Names → Switches → Place → Place → ℕ → Rows → Bool
leaves N w q q' o none = false
leaves N w q q' o (node k a n i s) =
    let A : Act = act N w false (ctx_of w q.path) q.slot o k a n i in
    eqb k Super && not (eqb q.slot dropped)
    || not (eqb k Function) && leaves N w (under q A.one) (under q A.more) (o + 1) i
    || leaves N w q' q' (o + 1 + size i) s

-- .. of a constructor
unfoldable pub late : Names → Switches → Place → (o k a : ℕ) → Rows → Bool
late N w q o k a i =
    eqb k Function && bit 4 a
    && leaves N w (under q (by (in_params o a (eqb q.slot of_method)) free)) (under q (by (in_body o a (eqb q.slot of_method)) free)) (o + 1) i

unfoldable pub act_at : Names → Switches → Place → (o k a n : ℕ) → Rows → Act
act_at N w q o k a n i = act N w (late N w q o k a i) (ctx_of w q.path) q.slot o k a n i

-- the bindings, in the order in which the Rust makes them: before a row's children, after them, as a frame closes, then those of the rows after it
unfoldable pub collect : Names → Switches → Place → Place → ℕ → Rows → List Binding → List Binding
collect N w q q' o none bs = bs
collect N w q q' o (node k a n i s) bs =
    let A : Act = act_at N w q o k a n i in
    collect N w q' q' (o + 1 + size i) s
    (closed (closes q.slot k) (this_frame (A.more.step ∷ q.path))
    (leave N (ctx_of w q.path) A.op
    (collect N w (under q A.one) (under q A.more) (o + 1) i (meet N A.op bs))))

-- a captured Ident
abbrev pub named : Names → List Binding → (u f x : ℕ) → Rows → Rows → Rows
named N bs u f x i s = node Ident 1 (number N bs u f x) i s

-- What a row becomes, given what its children become, before the rows s. Module 4: "`super.m(a)` becomes `get().call(this, a)`, its new This .. going through module 3".
unfoldable pub build : Names → List Binding → Ctx → Op → Rows → Rows → Rows
build N bs c (row k a n) i s = node k a n i s
build N bs c drop i s = join i s
build N bs c (name u f) i s = named N bs u f 0 none s
build N bs c (call u f x t) i s =
    cond t
    (node Member 1 0 (node Call 0 0 (named N bs u f x none i) none) (cond c.takes_this (named N bs 1 c.this_at 0 none s) (node This 0 0 none s)))
    (node Call 0 0 (named N bs u f x none i) s)

-- the rows of the result, the final list of bindings given
unfoldable pub emit : Names → Switches → List Binding → Place → Place → ℕ → Rows → Rows
emit N w bs q q' o none = none
emit N w bs q q' o (node k a n i s) =
    let A : Act = act_at N w q o k a n i in
    dress q.slot
    (build N bs (ctx_of w q.path) A.op
    (top N bs q.slot k (this_frame (A.more.step ∷ q.path))
    (emit N w bs (under q A.one) (under q A.more) (o + 1) i)))
    (emit N w bs q' q' (o + 1 + size i) s)

abbrev pub outside : Place
outside = on [] free
