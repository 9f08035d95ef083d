-- What comes first in the table comes first in the result: a Super, a Call of Super. Assumes nothing.
use mathlib.Core.Path.{◌≡◌, refl, ◌∙◌, sym}
use mathlib.Core.List.{List}
use Prim.Native.Nat.{ℕ, ◌+◌}
use mathlib.Core.Bool.{Bool, true, false, ◌&&◌}
use lib.Dec.{eqb}
use Rattle.forest.specs.Forest.{Rows, Rows.none, Rows.node}
use Rattle.steps.specs.Mode.{Switches, async_only}
use Rattle.steps.specs.Super.{first_super, first_access}
use Rattle.steps.specs.ArrowToFunction.{to_function?, dress}
use Rattle.steps.specs.Slots.{dropped}
use Rattle.steps.specs.Naming.{Names, named_arguments}
use Rattle.steps.specs.Acts.{Ctx, Op, Op.row, Op.name, Op.call, Act, Kind, Kind.this, Kind.super, Kind.ident, Kind.access, Kind.call, Kind.assign}
use Rattle.steps.specs.Acts.{Kind.arrow, Kind.function, Kind.keyed, Kind.field, Kind.static, Kind.target, Kind.other, kind_of, reads?, sets?, act_of, act}
use Rattle.steps.specs.Bindings.{Binding, closes}
use Rattle.steps.specs.AfterSuper.{super_call}
use Rattle.steps.specs.TopInsertion.{top}
use Rattle.steps.specs.Walk.{build}
use Rattle.steps.specs.Context.{enter, Spot, into, act_c, emit_c}
use Rattle.steps.proofs.Shape.{at}
use Rattle.names.proofs.Bools.{pick}

-- What comes first stays first, unless it is dropped.
module _ (N : Names) (w : Switches) (bs : List Binding) (c : Ctx) (l : Bool) (sl o k a n : ℕ) (i T S : Rows) (e7 : eqb sl dropped ≡ false) where
  -- the forms of a row that is not dropped
  forms : (P : Op → Type 0) → P (row k a n) → ((u f : ℕ) → P (name u f)) → ((u f x : ℕ) (t : Bool) → P (call u f x t)) → P (row 17 0 0) → (K : Kind) → P (act_of N w l c sl o K k a n i).op
  unfolding act_of
  forms P r m g f this = pick P c.takes_this _ _ (m 1 c.this_at) r
  forms P r m g f super = rw e7 r
  forms P r m g f ident = pick P (async_only w && named_arguments N n && c.takes_arguments) _ _ (m 2 c.arguments_at) r
  forms P r m g f access = rw e7 (pick P (reads? c sl i) _ _ (g 3 c.super_at n (eqb sl 6)) r)
  forms P r m g f Kind.call = r
  forms P r m g f assign = pick P (sets? c i) _ _ (g 4 c.super_at _ false) r
  forms P r m g f arrow = pick P (to_function? w a) _ _ f r
  forms P r m g f function = r
  forms P r m g f keyed = r
  forms P r m g f field = r
  forms P r m g f static = r
  forms P r m g f target = rw e7 r
  forms P r m g f other = r

  call_first : (u f x : ℕ) (t : Bool) → first_super (build N bs c (call u f x t) T S) ≡ false
  unfolding build first_super
  call_first u f x true = refl
  call_first u f x false = refl

  call_call : (u f x : ℕ) (t : Bool) → super_call (build N bs c (call u f x t) T S) ≡ false
  unfolding build first_super super_call
  call_call u f x true = refl
  call_call u f x false = refl

  ten : first_super (build N bs c (act N w l c sl o 10 a n i).op T S) ≡ true
  unfolding act act_of kind_of build first_super
  ten = rw e7

  fourteen : super_call (build N bs c (act N w l c sl o 14 a n i).op T S) ≡ first_super T
  unfolding act act_of kind_of build super_call
  fourteen = refl

  pub first-kept : first_super (build N bs c (act N w l c sl o k a n i).op T S) ≡ eqb k 10
  unfolding act build first_super
  first-kept =
      at (λ (k : ℕ). first_super (build N bs c (act N w l c sl o k a n i).op T S) ≡ eqb k 10) 10 k ten
      (λ e. forms (λ (op : Op). first_super (build N bs c op T S) ≡ eqb k 10) refl (λ u f. sym e) (λ u f x t. call_first u f x t ∙ sym e) (sym e) (kind_of k))

  pub call_kept : super_call (build N bs c (act N w l c sl o k a n i).op T S) ≡ (eqb k 14 && first_super T)
  unfolding act build super_call
  call_kept =
      at (λ (k : ℕ). super_call (build N bs c (act N w l c sl o k a n i).op T S) ≡ (eqb k 14 && first_super T)) 14 k fourteen
      (λ e. forms (λ (op : Op). super_call (build N bs c op T S) ≡ (eqb k 14 && first_super T)) refl (λ u f. rw e) (λ u f x t. call_call u f x t ∙ rw e) (rw e) (kind_of k))

module _ (N : Names) (w : Switches) (bs : List Binding) where
  pub super_same : (r : Rows) (q q' : Spot) (o : ℕ) → eqb q.slot 7 ≡ false → eqb q.slot 4 ≡ false → first_super (emit_c N w bs q q' o r) ≡ first_super r
  unfolding emit_c dress act_c first_super
  super_same none q q' o e7 e4 = refl
  super_same (node k a n i s) q q' o e7 e4 = rw e4 (first-kept N w bs q.ctx _ q.slot o k a n i _ _ e7)

  callee_slot : (P : ℕ → Type 0) → P 6 → P 0 → (q : Spot) (o a n : ℕ) (i : Rows) → P (act_c N w q o 14 a n i).one.slot
  unfolding act_c act act_of kind_of
  callee_slot P h g q o a n i = pick P (q.ctx.takes_super && first_access i) 6 0 h g

  -- what the children of a row become
  abbrev pub inside : (q : Spot) (o k a n : ℕ) (i : Rows) → Rows
  inside q o k a n i =
      let A : Act = act_c N w q o k a n i in
      top N bs q.slot k (enter w A.more.step q.ctx).this_at (emit_c N w bs (into w q A.one) (into w q A.more) (o + 1) i)

  pub callee_same : (q : Spot) (o a n : ℕ) (i : Rows) → first_super (inside q o 14 a n i) ≡ first_super i
  unfolding top closes
  callee_same q o a n i =
      let A : Act = act_c N w q o 14 a n i in
      super_same i (into w q A.one) (into w q A.more) (o + 1) (callee_slot (λ (s : ℕ). eqb s 7 ≡ false) refl refl q o a n i) (callee_slot (λ (s : ℕ). eqb s 4 ≡ false) refl refl q o a n i)

  call_inside : (q : Spot) (o k a n : ℕ) (i : Rows) → (eqb k 14 && first_super (inside q o k a n i)) ≡ (eqb k 14 && first_super i)
  call_inside q o k a n i = at (λ (k : ℕ). (eqb k 14 && first_super (inside q o k a n i)) ≡ (eqb k 14 && first_super i)) 14 k (callee_same q o a n i) (λ e. rw e)

  pub call_same : (r : Rows) (q q' : Spot) (o : ℕ) → eqb q.slot 7 ≡ false → eqb q.slot 4 ≡ false → super_call (emit_c N w bs q q' o r) ≡ super_call r
  unfolding emit_c dress super_call act_c
  call_same none q q' o e7 e4 = refl
  call_same (node k a n i s) q q' o e7 e4 = rw e4 (call_kept N w bs q.ctx _ q.slot o k a n i _ _ e7 ∙ call_inside q o k a n i)

  pub statement_same : (q : Spot) (o a n : ℕ) (i : Rows) → super_call (inside q o 1 a n i) ≡ super_call i
  unfolding top closes act_c act act_of kind_of
  statement_same q o a n i =
      let A : Act = act_c N w q o 1 a n i in
      call_same i (into w q A.one) (into w q A.more) (o + 1) refl refl
