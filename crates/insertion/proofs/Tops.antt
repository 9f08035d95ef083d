-- A frame's Var: where there is one, and its parts. Assumes nothing.
use mathlib.Core.Path.{◌≡◌, refl, ap, sym, ◌∙◌}
use mathlib.Core.List.{List, [], ◌∷◌}
use Prim.Native.Nat.{ℕ, ◌+◌, ◌*◌, ◌<◌, ◌≤◌}
use mathlib.Core.Bool.{Bool, true, false, cond, ◌&&◌, ◌||◌, false≢true, true≢false}
use native.Mathlib.Omega.{arith}
use borrow.Author.Tests.{eqb-true, eqb-false}
use lib.Dec.{eqb}
use lib.ListN.{get_or}
use Rattle.grammar.specs.Kinds.{Var, Declarator}
use Rattle.forest.specs.Forest.{Rows, Rows.none, Rows.node, size}
use Rattle.steps.specs.Joining.{join}
use Rattle.steps.specs.Naming.{Names}
use Rattle.steps.specs.Bindings.{Binding, Binding.bind, number}
use Rattle.steps.specs.Fused.{declared}
use Rattle.steps.specs.TopInsertion.{past, accessor, arguments_decl, accessor_decls, param_numbers, this_decl, var_first}
use Rattle.inserted.specs.Insertions.{accessor_of, accessor_decl}
use Rattle.output.proofs.Writing.{size_node, size_none}
use Rattle.inserted.proofs.Shapes.{this_none, arguments_none, arguments_join, size_arguments, size-late, size-here}
use Rattle.bindings.specs.Store.{binds, Store}
use Rattle.bindings.specs.declared.frame.Frame.{Frame}
use Rattle.bindings.proofs.Numbered.{this_number, arguments_number}
use Rattle.insertion.specs.Declarations.{Held, frame_accessors, frame_decls, param_after, bare_at}
use Rattle.insertion.proofs.Links.{link-first}
use Rattle.insertion.proofs.Declaring.{decls_from, decls-all, decls-next}
use Rattle.steps.proofs.Sizes.{size-join}

-- what a frame holds, as the code has it
pub held : (s : Frame) → Held s.bindings.made.now s.bindings.cap s.bindings.count s.row
held s = record { store = s.bindings.store; frame_low = s.low; cap_low = s.bindings.small }

-- whatever the names, the Declarators are those of the steps
pub frame-decls : (N : Names) (M : List ℕ) (cap count r : ℕ) (g l : Bool) → Store M cap count → r < cap → declared N (binds M cap count) r g l ≡ frame_decls M cap count r g l
unfolding declared frame_decls
frame-decls N M cap count r g l S h =
    ap (λ (b : ℕ). arguments_decl b g (frame_accessors M cap count r (this_decl (number N (binds M cap count) 1 r 0) l))) (sym (arguments_number N M cap count S r h))
    ∙ ap (λ (b : ℕ). arguments_decl (get_or M (5 * cap + r) 0) g (frame_accessors M cap count r (this_decl b l))) (sym (this_number N M cap count S r h))

-- the rows behind the accessors stand beside them
join_step : (y : Bool) (c : ℕ) (i t s s' r r' : Rows) → s ≡ join s' t → r ≡ join r' t → cond y (node Declarator 1 c i s) r ≡ join (cond y (node Declarator 1 c i s') r') t
unfolding join
join_step true c i t s s' r r' h k = ap (node Declarator 1 c i) h
join_step false c i t s s' r r' h k = k

accessors_join : (f c : ℕ) (ps : List ℕ) (bs : List Binding) (t : Rows) → accessor_decls f c ps bs t ≡ join (accessor_decls f c ps bs none) t
unfolding accessor_decls
accessors_join f c ps [] t = unfold join in refl
accessors_join f c ps (bind u x f' ∷ bs) t =
    join_step (eqb f' f && (eqb u 3 || eqb u 4)) c (accessor u x ps) t _ _ _ _ (accessors_join f (c + 1) (past u x ps) bs t) (accessors_join f (c + 1) ps bs t)

module _ (M : List ℕ) (cap count f : ℕ) (g l : Bool) where
  abbrev args : Rows
  args = arguments_decl (get_or M (5 * cap + f) 0) g none

  abbrev accs : Rows
  accs = frame_accessors M cap count f none

  abbrev this : Rows
  this = this_decl (get_or M (4 * cap + f) 0) l

  -- `arguments`, accessors, `this`
  pub decls_parts : frame_decls M cap count f g l ≡ join args (join accs this)
  unfolding frame_decls
  decls_parts =
      arguments_join (get_or M (5 * cap + f) 0) g (frame_accessors M cap count f this)
      ∙ ap (join args) (accessors_join f 1 (param_numbers f 1 (binds M cap count)) (binds M cap count) this)

  pub decls_size : size (frame_decls M cap count f g l) ≡ size args + (size accs + size this)
  decls_size = ap size decls_parts ∙ size-join args (join accs this) ∙ ap (λ (n : ℕ). size args + n) (size-join accs this)

-- the same, a and t being what the array holds of the captures
module _ {M : List ℕ} {cap count f a t : ℕ} (H : Held M cap count f) (g l : Bool) (qa : a ≡ get_or M (5 * cap + f) 0) (qt : t ≡ get_or M (4 * cap + f) 0) where
  pub parts_of : frame_decls M cap count f g l ≡ join (arguments_decl a g none) (join (frame_accessors M cap count f none) (this_decl t l))
  parts_of = rw (qa, qt) (decls_parts M cap count f g l)

  pub size_of : size (frame_decls M cap count f g l) ≡ size (arguments_decl a g none) + (size (frame_accessors M cap count f none) + size (this_decl t l))
  size_of = rw (qa, qt) (decls_size M cap count f g l)

-- of a Var with nothing in it there is none
var_none : var_first none none ≡ none
unfolding var_first
var_none = refl

var_some : (t : Rows) → 1 ≤ size t → var_first t none ≡ node Var 0 0 t none
unfolding var_first join
var_some none h = absurd (omega (arith, size_none))
var_some (node k a n i s) h = refl

module _ {M : List ℕ} {cap count f : ℕ} (H : Held M cap count f) (g l : Bool) where
  -- where the frame has no accessor, and where it has one
  accs_none : get_or M (6 * cap + f) 0 ≡ 0 → frame_accessors M cap count f none ≡ none
  accs_none z = decls-all M cap count f H.store H.frame_low 0 (get_or M (8 * cap + f) 0) (sym z) refl

  accs_some : (get_or M (6 * cap + f) 0 ≡ 0 → ⊥) → 1 ≤ size (frame_accessors M cap count f none)
  accs_some n =
      let b = get_or M (6 * cap + f) 0 in
      let p = get_or M (8 * cap + f) 0 in
      let u = get_or M b 0 in
      let x = get_or M (cap + b) 0 in
      let v = param_after M cap p (eqb x 0) in
      let B = link-first M cap count H.store false f H.frame_low b refl in
      let P = link-first M cap count H.store true f H.frame_low p refl in
      let rest = decls_from M cap count f (get_or M (3 * cap + b) 0) (param_after M cap v (eqb u 4)) in
      let e : frame_accessors M cap count f none ≡ join (accessor_decl b u x p v) rest =
      decls-all M cap count f H.store H.frame_low b p refl refl
      ∙ decls-next M cap count f H.store b p B P n u x refl refl v refl (get_or M (3 * cap + b) 0) (param_after M cap v (eqb u 4)) refl refl in
      omega (arith, ap size e, size-join (accessor_decl b u x p v) rest, size_node 3 1 b (accessor_of u x p v) none)

  -- where `this` is captured
  this_some : (get_or M (4 * cap + f) 0 ≡ 0 → ⊥) → 1 ≤ size (this_decl (get_or M (4 * cap + f) 0) l)
  this_some n = go l refl
    where
      go : (y : Bool) → l ≡ y → 1 ≤ size (this_decl (get_or M (4 * cap + f) 0) l)
      go true q = omega (arith, size-late n q)
      go false q = omega (arith, size-here n q)

  -- no Var, and a Var
  pub bare-none : bare_at M cap f ≡ true → var_first (frame_decls M cap count f g l) none ≡ none
  bare-none h = go (eqb (get_or M (4 * cap + f) 0) 0) (eqb (get_or M (5 * cap + f) 0) 0) (eqb (get_or M (6 * cap + f) 0) 0) refl refl refl h
    where
      all_none : get_or M (4 * cap + f) 0 ≡ 0 → get_or M (5 * cap + f) 0 ≡ 0 → get_or M (6 * cap + f) 0 ≡ 0 → frame_decls M cap count f g l ≡ none
      all_none t a b =
          decls_parts M cap count f g l
          ∙ ap (λ (r : Rows). join r (join (frame_accessors M cap count f none) (this_decl (get_or M (4 * cap + f) 0) l))) (arguments_none g none a)
          ∙ ap (λ (r : Rows). join none (join r (this_decl (get_or M (4 * cap + f) 0) l))) (accs_none b)
          ∙ ap (λ (r : Rows). join none (join none r)) (this_none l t)
          ∙ (unfold join in refl)

      go : (t a b : Bool) → eqb (get_or M (4 * cap + f) 0) 0 ≡ t → eqb (get_or M (5 * cap + f) 0) 0 ≡ a → eqb (get_or M (6 * cap + f) 0) 0 ≡ b → (t && a && b) ≡ true → var_first (frame_decls M cap count f g l) none ≡ none
      go true true true t a b h = ap (λ (r : Rows). var_first r none) (all_none (eqb-true _ _ t) (eqb-true _ _ a) (eqb-true _ _ b)) ∙ var_none
      go true true false t a b h = absurd (false≢true h)
      go true false y t a b h = absurd (false≢true h)
      go false x y t a b h = absurd (false≢true h)

  pub bare-some : bare_at M cap f ≡ false → var_first (frame_decls M cap count f g l) none ≡ node Var 0 0 (frame_decls M cap count f g l) none
  bare-some h = var_some (frame_decls M cap count f g l) (go (eqb (get_or M (4 * cap + f) 0) 0) (eqb (get_or M (5 * cap + f) 0) 0) (eqb (get_or M (6 * cap + f) 0) 0) refl refl refl h)
    where
      go : (t a b : Bool) → eqb (get_or M (4 * cap + f) 0) 0 ≡ t → eqb (get_or M (5 * cap + f) 0) 0 ≡ a → eqb (get_or M (6 * cap + f) 0) 0 ≡ b → (t && a && b) ≡ false → 1 ≤ size (frame_decls M cap count f g l)
      go true true true t a b h = absurd (true≢false h)
      go true true false t a b h = omega (arith, decls_size M cap count f g l, accs_some (eqb-false _ _ b))
      go true false y t a b h = omega (arith, decls_size M cap count f g l, size_arguments {b = get_or M (5 * cap + f) 0} g (eqb-false _ _ a))
      go false x y t a b h = omega (arith, decls_size M cap count f g l, this_some (eqb-false _ _ t))
