-- The steps' act of a row in each branch of the code. Assumes nothing.
use mathlib.Core.Path.{◌≡◌, refl, ap, sym, subst, ◌∙◌}
use mathlib.Core.Bool.{Bool, true, false, cond, not, ◌&&◌, ◌||◌}
use Prim.Native.Nat.{ℕ}
use borrow.Author.Tests.{not-true, not-false}
use lib.Dec.{eqb}
use Rattle.std.specs.Prelude.{Some, None}
use Rattle.std.proofs.lemmas.Option.{cond_some, none-some}
use Rattle.grammar.specs.Kinds.{This, Super, Ident, Member, Computed, Call, Assign, Arrow, Function, Method, Field, StaticBlock, Property, Target}
use Rattle.forest.specs.Forest.{Rows}
use Rattle.steps.specs.Mode.{Switches, bit, enabled, async_only}
use Rattle.steps.specs.Naming.{Names, named_arguments}
use Rattle.steps.specs.Paths.{Step, Step.along, Step.in_params, Step.in_body, Step.in_arrow, Step.in_value, Step.in_static}
use Rattle.steps.specs.Slots.{free, of_method, body_of, late_body, wrapped, of_target, callee, dropped}
use Rattle.steps.specs.Super.{first_super, first_access, first_name, first_inside}
use Rattle.steps.specs.Acts.{Ctx, Op, Op.row, Op.drop, Op.name, Op.call, by, does, act_of, act, kind_of, Kind, Act as StepsAct}
use Rattle.steps.specs.Context.{enter}
use Rattle.below.specs.Below.{property_of}
use Rattle.passes.specs.View.{op_of, slot_number}
use Rattle.passes.specs.declared.slots.Slot.{Slot}
use Rattle.passes.specs.declared.slots.Slot.TheVariants.{Free}
use Rattle.passes.specs.declared.Becomes.{Becomes}
use Rattle.acts.specs.declared.context.Context.{Context}
use Rattle.acts.specs.declared.act.Act.{Act}
use Rattle.acts.specs.declared.act.Spot.{Spot}
use Rattle.acts.specs.View.{context_of}
use Rattle.acts.specs.Deciding.{inside_of, Does}

-- an act of the code is the steps' act, part by part
pub decided : (w : Switches) (c : Ctx) (A : StepsAct) (X : Op) (s s' : Slot) {t t' : Step} → A ≡ does X (by t (slot_number s)) (by t' (slot_number s')) → (r : Act Spot) (op : Becomes) (one more : Context)
    → r ≡ inside_of op one s more s' → op_of op ≡ X → context_of one ≡ enter w t c → context_of more ≡ enter w t' c → Does w c A r
decided w c A X s s' {t} {t'} q r op one more e p f g =
    subst (λ (B : StepsAct). Does w c B r) (sym q)
    (subst (Does w c (does X (by t (slot_number s)) (by t' (slot_number s')))) (sym e)
    (record { becomes = p; first = rw f; later = rw g }))

pub stay : (w : Switches) (c : Ctx) → c ≡ enter w along c
unfolding enter
stay w c = refl

pub decided_along : (w : Switches) (A : StepsAct) (X : Op) (sl : Slot) (context : Context) → A ≡ does X (by along (slot_number sl)) (by along free) → (r : Act Spot) (op : Becomes)
    → r ≡ inside_of op context sl context Free → op_of op ≡ X → Does w (context_of context) A r
decided_along w A X sl context q r op e p = decided w (context_of context) A X sl Free q r op context context e p (stay w (context_of context)) (stay w (context_of context))

assoc : (x y z : Bool) → (x && y && z) ≡ ((x && y) && z)
assoc true y z = refl
assoc false y z = refl

neither : (y s : Bool) → (not y || s) ≡ true → (y && not s) ≡ false
neither true s e = ap not e
neither false s e = refl

either : (y s : Bool) → (not y || s) ≡ false → (y && not s) ≡ true
either true s e = ap not e
either false s e = sym e

-- no property is read, whether `super` is taken or not
unread : (t b : Bool) (x : ℕ) → None ≡ cond b (Some x) None → (t && b) ≡ false
unread true true x p = absurd (none-some x p)
unread true false x p = refl
unread false b x p = refl

cond_same : (x : Bool) → cond x free free ≡ free
cond_same true = refl
cond_same false = refl

module _ (N : Names) (w : Switches) (l : Bool) (c : Ctx) (sl o k a n : ℕ) (i : Rows) where
  pub this_yes : c.takes_this ≡ true → act_of N w l c sl o Kind.this k a n i ≡ does (name 1 c.this_at) (by along free) (by along free)
  unfolding act_of
  this_yes p = rw p

  pub this_no : c.takes_this ≡ false → act_of N w l c sl o Kind.this k a n i ≡ does (row k a n) (by along free) (by along free)
  unfolding act_of
  this_no p = rw p

  pub super-yes : eqb sl dropped ≡ true → act_of N w l c sl o Kind.super k a n i ≡ does drop (by along free) (by along free)
  unfolding act_of
  super-yes p = rw p

  pub super_no : eqb sl dropped ≡ false → act_of N w l c sl o Kind.super k a n i ≡ does (row k a n) (by along free) (by along free)
  unfolding act_of
  super_no p = rw p

  module _ (only arguments : Bool) (p : only ≡ async_only w) (q : arguments ≡ named_arguments N n) where
    pub ident-yes : ((only && arguments) && c.takes_arguments) ≡ true → act_of N w l c sl o Kind.ident k a n i ≡ does (name 2 c.arguments_at) (by along free) (by along free)
    unfolding act_of
    ident-yes e = let h : (async_only w && named_arguments N n && c.takes_arguments) ≡ true = rw (← p, ← q) (assoc only arguments c.takes_arguments ∙ e) in rw h

    pub ident-no : ((only && arguments) && c.takes_arguments) ≡ false → act_of N w l c sl o Kind.ident k a n i ≡ does (row k a n) (by along free) (by along free)
    unfolding act_of
    ident-no e = let h : (async_only w && named_arguments N n && c.takes_arguments) ≡ false = rw (← p, ← q) (assoc only arguments c.takes_arguments ∙ e) in rw h

  module _ (sup t : Bool) (p : sup ≡ first_super i) (q : t ≡ eqb sl of_target) where
    pub access-kept : not ((c.takes_super && sup) && not t) ≡ true → act_of N w l c sl o Kind.access k a n i ≡ does (row k a n) (by along free) (by along free)
    unfolding act_of
    access-kept e = let h : (c.takes_super && first_super i && not (eqb sl of_target)) ≡ false = rw (← p, ← q) (assoc c.takes_super sup (not t) ∙ not-true _ e) in rw h

    module _ (e : not ((c.takes_super && sup) && not t) ≡ false) where
      pub access-gone : eqb sl dropped ≡ true → act_of N w l c sl o Kind.access k a n i ≡ does drop (by along dropped) (by along free)
      unfolding act_of
      access-gone d = let h : (c.takes_super && first_super i && not (eqb sl of_target)) ≡ true = rw (← p, ← q) (assoc c.takes_super sup (not t) ∙ not-false _ e) in rw (h, d)

      pub access-read : (u : Bool) → u ≡ eqb sl callee → eqb sl dropped ≡ false → act_of N w l c sl o Kind.access k a n i ≡ does (call 3 c.super_at n u) (by along dropped) (by along free)
      unfolding act_of
      access-read u r d = let h : (c.takes_super && first_super i && not (eqb sl of_target)) ≡ true = rw (← p, ← q) (assoc c.takes_super sup (not t) ∙ not-false _ e) in rw (h, d, r)

  module _ (access : Bool) (p : access ≡ first_access i) where
    pub call-yes : (c.takes_super && access) ≡ true → act_of N w l c sl o Kind.call k a n i ≡ does (row k a n) (by along callee) (by along free)
    unfolding act_of
    call-yes e = let h : (c.takes_super && first_access i) ≡ true = rw (← p) e in rw h

    pub call-no : (c.takes_super && access) ≡ false → act_of N w l c sl o Kind.call k a n i ≡ does (row k a n) (by along free) (by along free)
    unfolding act_of
    call-no e = let h : (c.takes_super && first_access i) ≡ false = rw (← p) e in rw h

  pub assign-yes : {x : ℕ} → Some x ≡ property_of (first_inside i) → c.takes_super ≡ true → act_of N w l c sl o Kind.assign k a n i ≡ does (call 4 c.super_at x false) (by along dropped) (by along free)
  unfolding act_of
  assign-yes {x} p t = let h = cond_some (first_access (first_inside i)) (first_name (first_inside i)) x (sym p) in rw (t, h.0, h.1)

  pub assign-unmoved : c.takes_super ≡ false → act_of N w l c sl o Kind.assign k a n i ≡ does (row k a n) (by along free) (by along free)
  unfolding act_of
  assign-unmoved t = rw t

  pub assign-no : None ≡ property_of (first_inside i) → act_of N w l c sl o Kind.assign k a n i ≡ does (row k a n) (by along free) (by along free)
  unfolding act_of
  assign-no p = let h = unread c.takes_super (first_access (first_inside i)) (first_name (first_inside i)) p in rw h

  pub target_yes : eqb sl dropped ≡ true → act_of N w l c sl o Kind.target k a n i ≡ does drop (by along dropped) (by along free)
  unfolding act_of
  target_yes p = rw p

  pub target_no : eqb sl dropped ≡ false → act_of N w l c sl o Kind.target k a n i ≡ does (row k a n) (by along of_target) (by along free)
  unfolding act_of
  target_no p = rw p

  pub other-act : act_of N w l c sl o Kind.other k a n i ≡ does (row k a n) (by along free) (by along free)
  unfolding act_of
  other-act = refl

  module _ (y s e : Bool) (p : y ≡ enabled w) (q : s ≡ bit 1 a) (r : e ≡ bit 2 a) where
    pub arrow-kept : (not y || s) ≡ true → act_of N w l c sl o Kind.arrow k a n i ≡ does (row k a n) (by (in_arrow a) free) (by (in_arrow a) free)
    unfolding act_of
    arrow-kept h = let g : (enabled w && not (bit 1 a)) ≡ false = rw (← p, ← q) (neither y s h) in rw g

    pub arrow-wrapped : (not y || s) ≡ false → e ≡ true → act_of N w l c sl o Kind.arrow k a n i ≡ does (row Function 0 0) (by (in_arrow a) free) (by (in_arrow a) wrapped)
    unfolding act_of
    arrow-wrapped h z = let g : (enabled w && not (bit 1 a)) ≡ true = rw (← p, ← q) (either y s h) in rw (g, ← r, z)

    pub arrow-bodied : (not y || s) ≡ false → e ≡ false → act_of N w l c sl o Kind.arrow k a n i ≡ does (row Function 0 0) (by (in_arrow a) free) (by (in_arrow a) free)
    unfolding act_of
    arrow-bodied h z = let g : (enabled w && not (bit 1 a)) ≡ true = rw (← p, ← q) (either y s h) in rw (g, ← r, z)

  module _ (m : Bool) (q : m ≡ eqb sl of_method) where
    pub function_late : l ≡ true → act_of N w l c sl o Kind.function k a n i ≡ does (row k a n) (by (in_params o a m) free) (by (in_body o a m) late_body)
    unfolding act_of
    function_late p = rw (p, q)

    pub function_plain : l ≡ false → act_of N w l c sl o Kind.function k a n i ≡ does (row k a n) (by (in_params o a m) free) (by (in_body o a m) body_of)
    unfolding act_of
    function_plain p = rw (p, q)

  module _ (x y : Bool) (p : x ≡ bit 1 a) (q : y ≡ (eqb k Method || bit 2 a)) where
    pub keyed-plain : y ≡ false → act_of N w l c sl o Kind.keyed k a n i ≡ does (row k a n) (by along free) (by along free)
    unfolding act_of
    keyed-plain e = let h : (eqb k Method || bit 2 a) ≡ false = rw (← q) e in rw h (ap (λ (m : ℕ). does (row k a n) (by along m) (by along free)) (cond_same (bit 1 a)))

    module _ (e : y ≡ true) where
      pub keyed-computed : x ≡ true → act_of N w l c sl o Kind.keyed k a n i ≡ does (row k a n) (by along free) (by along of_method)
      unfolding act_of
      keyed-computed z = let h : (eqb k Method || bit 2 a) ≡ true = rw (← q) e in rw (h, ← p, z)

      pub keyed-named : x ≡ false → act_of N w l c sl o Kind.keyed k a n i ≡ does (row k a n) (by along of_method) (by along of_method)
      unfolding act_of
      keyed-named z = let h : (eqb k Method || bit 2 a) ≡ true = rw (← q) e in rw (h, ← p, z)

  module _ (x : Bool) (p : x ≡ bit 1 a) where
    pub field-computed : x ≡ true → act_of N w l c sl o Kind.field k a n i ≡ does (row k a n) (by along free) (by (in_value o) free)
    unfolding act_of
    field-computed z = rw (← p, z)

    pub field-named : x ≡ false → act_of N w l c sl o Kind.field k a n i ≡ does (row k a n) (by (in_value o) free) (by (in_value o) free)
    unfolding act_of
    field-named z = rw (← p, z)

  pub static_act : act_of N w l c sl o Kind.static k a n i ≡ does (row k a n) (by (in_static o) free) (by (in_static o) free)
  unfolding act_of
  static_act = refl

-- the kinds that no rule is about
pub is-other : (k : ℕ) → eqb k This ≡ false → eqb k Super ≡ false → eqb k Ident ≡ false → eqb k Member ≡ false → eqb k Computed ≡ false → eqb k Call ≡ false → eqb k Assign ≡ false → eqb k Arrow ≡ false →
    eqb k Function ≡ false → eqb k Method ≡ false → eqb k Property ≡ false → eqb k Field ≡ false → eqb k StaticBlock ≡ false → eqb k Target ≡ false → kind_of k ≡ Kind.other
unfolding kind_of
is-other k h0 h1 h2 h3 h4 h5 h6 h7 h8 h9 h10 h11 h12 h13 = rw (h0, h1, h2, h3, h4, h5, h6, h7, h8, h9, h10, h11, h12, h13)

-- an act by its kind
pub by_kind : (N : Names) (w : Switches) (l : Bool) (c : Ctx) (sl o k a n : ℕ) (i : Rows) {K : Kind} {r : Act Spot} → kind_of k ≡ K → Does w c (act_of N w l c sl o K k a n i) r → Does w c (act N w l c sl o k a n i) r
unfolding act
by_kind N w l c sl o k a n i {K} {r} q d = subst (λ (H : Kind). Does w c (act_of N w l c sl o H k a n i) r) (sym q) d
