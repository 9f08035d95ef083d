-- Module 8, Top insertion: `insert_variable_statement_at_the_top_of_statements` of the Rust. Assumes nothing.
use Rattle.std.specs.Prelude.{List, [], ◌∷◌, ℕ, ◌+◌, Bool, cond, not, ◌&&◌, ◌||◌, eqb}
use Rattle.grammar.specs.Kinds.{Program, Var, Declarator, This, Super, Ident, Member, Computed, Assign, Arrow, Params, Arguments, Target}
use Rattle.forest.specs.Forest.{Rows, Rows.none, Rows.node}
use Rattle.steps.specs.Joining.{join}
use Rattle.steps.specs.Slots.{late_body}
use Rattle.steps.specs.Naming.{Names}
use Rattle.steps.specs.Bindings.{Binding, Binding.bind, number, closes}
use Rattle.steps.specs.AfterSuper.{after_super, list}

-- "arguments (guarded at Program)": the Declarator of binding b before the rows t, none where b is 0
unfoldable pub arguments_decl : ℕ → Bool → Rows → Rows
arguments_decl b g t = cond (eqb b 0) t (node Declarator 1 b (node Arguments (cond g 1 0) 0 none none) t)

-- "`this` has initialiser This, but none .. in a constructor where a Super left in place has that constructor as nearest Function"
unfoldable pub this_decl : ℕ → Bool → Rows
this_decl b l = cond (eqb b 0) none (node Declarator 1 b (cond l none (node This 0 0 none none)) none)

unfoldable pub head_n : List ℕ → ℕ
head_n [] = 0
head_n (b ∷ bs) = b

unfoldable pub tail_n : List ℕ → List ℕ
tail_n [] = []
tail_n (b ∷ bs) = bs

-- the numbers of a frame's prop and value bindings, counted from c
unfoldable pub param_numbers : ℕ → ℕ → List Binding → List ℕ
param_numbers f c [] = []
param_numbers f c (bind u x f' ∷ bs) = cond (eqb f' f && (eqb u 5 || eqb u 6)) (c ∷ param_numbers f (c + 1) bs) (param_numbers f (c + 1) bs)

-- `super.p`, or `super[prop]` where there is no property
unfoldable pub access_row : ℕ → ℕ → Rows → Rows
access_row x b t =
    cond (eqb x 0)
    (node Computed 0 0 (node Super 0 0 none (node Ident 1 b none none)) t)
    (node Member 0 x (node Super 0 0 none none) t)

-- the params left after an accessor's prop, and after its value
abbrev pub past_prop : ℕ → List ℕ → List ℕ
past_prop x ps = cond (eqb x 0) (tail_n ps) ps

abbrev pub past : ℕ → ℕ → List ℕ → List ℕ
past u x ps = cond (eqb u 4) (tail_n (past_prop x ps)) (past_prop x ps)

-- "Accessors are expression Arrows with params prop if computed, then value if set, and stay Arrows." ps are the numbers of its params.
unfoldable pub accessor : ℕ → ℕ → List ℕ → Rows
accessor u x ps =
    let v : ℕ = head_n (past_prop x ps) in
    let value : Rows = cond (eqb u 4) (node Declarator 1 v none none) none in
    node Arrow 2 0
    (node Params 0 0 (cond (eqb x 0) (node Declarator 1 (head_n ps) none value) value)
    (cond (eqb u 4)
    (node Assign 0 0 (node Target 0 0 (access_row x (head_n ps) none) (node Ident 1 v none none)) none)
    (access_row x (head_n ps) none)))
    none

-- "accessors by first use"
unfoldable pub accessor_decls : ℕ → ℕ → List ℕ → List Binding → Rows → Rows
accessor_decls f c ps [] t = t
accessor_decls f c ps (bind u x f' ∷ bs) t =
    cond (eqb f' f && (eqb u 3 || eqb u 4))
    (node Declarator 1 c (accessor u x ps) (accessor_decls f (c + 1) (past u x ps) bs t))
    (accessor_decls f (c + 1) ps bs t)

-- "one Var goes first"; "None: no Var."
unfoldable pub var_first : Rows → Rows → Rows
var_first none t = t
var_first (node k a n i s) t = join (node Var 0 0 (node k a n i s) none) t

-- "As a frame closes, one Var goes first: arguments (guarded at Program), accessors by first use, this." r is the frame; g: it is Program; l: module 7 runs, where the frame captures `this`.
unfoldable pub frame_top : Names → List Binding → (r : ℕ) (g l : Bool) → Rows → Rows
frame_top N bs r g l i =
    var_first
    (arguments_decl (number N bs 2 r 0) g (accessor_decls r 1 (param_numbers r 1 bs) bs (this_decl (number N bs 1 r 0) l)))
    (cond (l && not (eqb (number N bs 1 r 0) 0)) (after_super (number N bs 1 r 0) list i) i)

-- what a row's children become, where the row closes the frame r
unfoldable pub top : Names → List Binding → (sl k r : ℕ) → Rows → Rows
top N bs sl k r i = cond (closes sl k) (frame_top N bs r (eqb k Program) (eqb sl late_body) i) i
