-- Where no binding is made and no Arrow becomes a Function, the result is the table: no rule said yes anywhere. Assumes nothing.
use mathlib.Core.Path.{◌≡◌, refl, ap, sym, subst, ◌∙◌}
use mathlib.Core.Bool.{Bool, true, false, cond, not, ◌&&◌, ◌||◌, and-false}
use mathlib.Core.List.{List, [], ◌∷◌, ◌++◌}
use Prim.Native.Nat.{ℕ, zero, suc, ◌+◌, ◌<◌, ◌≤◌}
use native.Mathlib.Omega.{arith}
use lib.Dec.{eqb}
use lib.ListN.{length}
use native.Mathlib.Nat.{eq-or-lt_of_le}
use mathlib.Core.Logic.{⊎_elim}
use Rattle.std.specs.List.{list_all, range_with_len}
use Rattle.names.proofs.Bools.{and_left, and_right}
use Rattle.names.specs.Words.{words, rows_in, kind_at, attr_at}
use Rattle.forest.proofs.Levels.{rows_no}
use Rattle.grammar.specs.Kinds.{This, Super, Ident, Member, Computed, Call, Assign, Arrow, Function, Method, Property, Field, StaticBlock, Target}
use Rattle.forest.specs.Forest.{Rows, Rows.none, Rows.node, size, NoRow, table}
use Rattle.steps.specs.Mode.{Switches, bit, enabled, async_only}
use Rattle.steps.specs.Naming.{Names, named_arguments}
use Rattle.steps.specs.Slots.{free, of_method, body_of, late_body, wrapped, callee, dropped}
use Rattle.steps.specs.Super.{first_access, first_name, first_inside}
use Rattle.steps.specs.ArrowToFunction.{dress, to_function?}
use Rattle.steps.specs.AfterSuper.{after_super, list}
use Rattle.steps.specs.Acts.{Ctx, Op, Op.row, Op.drop, Op.name, Op.call, Act, Kind, Kind.this, Kind.super, Kind.ident, Kind.access, Kind.call as calling}
use Rattle.steps.specs.Acts.{Kind.assign, Kind.arrow, Kind.function, Kind.keyed, Kind.field, Kind.static, Kind.target, Kind.other, kind_of, act_of, act, reads?, sets?, method_slot}
use Rattle.steps.specs.Bindings.{Binding, number, number_from, note, meet, leave, closes, closed}
use Rattle.steps.specs.TopInsertion.{top, frame_top, arguments_decl, accessor_decls, param_numbers, this_decl, var_first}
use Rattle.steps.specs.Walk.{build}
use Rattle.steps.specs.Context.{Spot, spot, start, enter, into, act_c, collect_c, emit_c, made_c, steps_c}
use Rattle.steps.specs.Steps.{steps}
use Rattle.steps.proofs.Contexts.{steps-same}
use Rattle.bindings.specs.Store.{binds, binds_from}
use Rattle.bindings.specs.Post.{Kept}
use Rattle.refusals.specs.Given.{GivenRows}
use Rattle.walks.specs.Ready.{becomes_function}
use Rattle.steps.proofs.Records.{Grows, leave_grows, closed_grows, collect_grows}
use borrow.Author.Tests.{not-true}

-- the slots of rows that are neither dropped nor wrapped
abbrev Fine : ℕ → Type 0
Fine sl = (eqb sl dropped ≡ false) × (eqb sl wrapped ≡ false)

fine_cond : (t : Bool) (x y : ℕ) → Fine x → Fine y → Fine (cond t x y)
fine_cond true x y f g = f
fine_cond false x y f g = g

-- the kind that module 6 is about
is_arrow : Kind → Bool
is_arrow this = false
is_arrow super = false
is_arrow ident = false
is_arrow access = false
is_arrow calling = false
is_arrow assign = false
is_arrow arrow = true
is_arrow function = false
is_arrow keyed = false
is_arrow field = false
is_arrow static = false
is_arrow target = false
is_arrow other = false

neither : (t : Bool) (x y : Kind) → is_arrow x ≡ false → is_arrow y ≡ false → is_arrow (cond t x y) ≡ false
neither true x y f g = f
neither false x y f g = g

not_arrow : (k : ℕ) → eqb k Arrow ≡ false → is_arrow (kind_of k) ≡ false
unfolding kind_of is_arrow
not_arrow k e =
    rw e
    (neither (eqb k This) this _ refl (neither (eqb k Super) super _ refl (neither (eqb k Ident) ident _ refl
    (neither (eqb k Member || eqb k Computed) access _ refl (neither (eqb k Call) calling _ refl (neither (eqb k Assign) assign _ refl
    (neither (eqb k Function) function _ refl (neither (eqb k Method || eqb k Property) keyed _ refl (neither (eqb k Field) field _ refl
    (neither (eqb k StaticBlock) static _ refl (neither (eqb k Target) target other refl refl)))))))))))

-- a row that module 6 leaves
unconverted : (w : Switches) (k a : ℕ) → becomes_function w k a ≡ false → (is_arrow (kind_of k) && to_function? w a) ≡ false
unconverted w k a h = go (eqb k Arrow) refl h
  where
    go : (t : Bool) → eqb k Arrow ≡ t → (t && to_function? w a) ≡ false → (is_arrow (kind_of k) && to_function? w a) ≡ false
    go true e z = rw z (and-false (is_arrow (kind_of k)))
    go false e z = rw (not_arrow k e)

-- an act that leaves the row
record Quiet (k a n : ℕ) (A : Act) : Type 0 where
  same : A.op ≡ row k a n
  one : Fine A.one.slot
  more : Fine A.more.slot

-- to note something where there is no binding makes one
noted : (N : Names) (u f x : ℕ) → note N u f x [] ≡ [] → ⊥
unfolding note number number_from
noted N u f x h = let e : ◌≡◌ {A = ℕ} 1 0 = ap length h in omega arith

module _ (N : Names) (k a n : ℕ) where
  -- so the rule said no
  says_no : (t : Bool) (x : Op) → (meet N x [] ≡ [] → ⊥) → meet N (cond t x (row k a n)) [] ≡ [] → t ≡ false
  says_no true x m h = absurd (m h)
  says_no false x m h = refl

  module _ (w : Switches) (l : Bool) (c : Ctx) (sl : ℕ) (fine : Fine sl) (o : ℕ) (i : Rows) where
    reads-noted : meet N (cond (eqb sl dropped) drop (call 3 c.super_at n (eqb sl callee))) [] ≡ [] → ⊥
    unfolding meet
    reads-noted h = noted N 3 c.super_at n (sym (rw fine.0) ∙ h)

    quiet-kind : (kd : Kind) → (is_arrow kd && to_function? w a) ≡ false → meet N (act_of N w l c sl o kd k a n i).op [] ≡ [] → Quiet k a n (act_of N w l c sl o kd k a n i)
    unfolding act_of meet is_arrow
    quiet-kind this off h = record { same = rw (says_no c.takes_this (name 1 c.this_at) (noted N 1 c.this_at 0) h); one = (refl, refl); more = (refl, refl) }
    quiet-kind super off h = record { same = rw fine.0; one = (refl, refl); more = (refl, refl) }
    quiet-kind ident off h = record { same = rw (says_no (async_only w && named_arguments N n && c.takes_arguments) (name 2 c.arguments_at) (noted N 2 c.arguments_at 0) h); one = (refl, refl); more = (refl, refl) }
    quiet-kind access off h =
        let no : reads? c sl i ≡ false = says_no (reads? c sl i) (cond (eqb sl dropped) drop (call 3 c.super_at n (eqb sl callee))) reads-noted h in
        record { same = rw no; one = rw no (refl, refl); more = (refl, refl) }
    quiet-kind calling off h = record { same = refl; one = fine_cond (c.takes_super && first_access i) callee free (refl, refl) (refl, refl); more = (refl, refl) }
    quiet-kind assign off h =
        let no : sets? c i ≡ false = says_no (sets? c i) (call 4 c.super_at (first_name (first_inside i)) false) (noted N 4 c.super_at (first_name (first_inside i))) h in
        record { same = rw no; one = rw no (refl, refl); more = (refl, refl) }
    quiet-kind arrow off h =
        let z : to_function? w a ≡ false = off in
        record { same = rw z; one = (refl, refl); more = rw z (refl, refl) }
    quiet-kind function off h = record { same = refl; one = (refl, refl); more = fine_cond l late_body body_of (refl, refl) (refl, refl) }
    quiet-kind keyed off h =
        let m : Fine (method_slot k a) = fine_cond (eqb k Method || bit 2 a) of_method free (refl, refl) (refl, refl) in
        record { same = refl; one = fine_cond (bit 1 a) free (method_slot k a) (refl, refl) m; more = m }
    quiet-kind field off h = record { same = refl; one = (refl, refl); more = (refl, refl) }
    quiet-kind static off h = record { same = refl; one = (refl, refl); more = (refl, refl) }
    quiet-kind target off h = record { same = rw fine.0; one = rw fine.0 (refl, refl); more = (refl, refl) }
    quiet-kind other off h = record { same = refl; one = (refl, refl); more = (refl, refl) }

-- a frame without bindings has no Var, and module 7 does not run
top-none : (N : Names) (sl k r : ℕ) (i : Rows) → top N [] sl k r i ≡ i
unfolding top frame_top number number_from arguments_decl accessor_decls param_numbers this_decl var_first
top-none N sl k r i = go (closes sl k) (eqb sl late_body)
  where
    go : (t l : Bool) → cond t (cond (l && false) (after_super 0 list i) i) i ≡ i
    go true true = refl
    go true false = refl
    go false l = refl

-- a list that grew to nothing was empty
empty_of : (bs ds : List Binding) → Grows bs ds → ds ≡ [] → bs ≡ []
empty_of [] ds g h = refl
empty_of (b ∷ bs) ds g h = let e : length (b ∷ (bs ++ g.added)) ≡ 0 = ap length (sym g.grown ∙ h) in absurd (omega arith)

module _ (N : Names) (w : Switches) where
  quiet-act : (k a n o : ℕ) (i : Rows) (q : Spot) → becomes_function w k a ≡ false → Fine q.slot → meet N (act_c N w q o k a n i).op [] ≡ [] → Quiet k a n (act_c N w q o k a n i)
  unfolding act_c act
  quiet-act k a n o i q off f h = quiet-kind N k a n w _ q.ctx q.slot f o i (kind_of k) (unconverted w k a off) h

  -- one row, of which nothing is made
  quiet_row : (k a n : ℕ) (i s i' s' : Rows) (q : Spot) (r : ℕ) (A : Act) → Fine q.slot → Quiet k a n A → i' ≡ i → s' ≡ s → dress q.slot (build N [] q.ctx A.op (top N [] q.slot k r i')) s' ≡ node k a n i s
  unfolding dress build
  quiet_row k a n i s i' s' q r A f Q ei es = rw (f.1, Q.same, top-none N q.slot k r i', ei, es)

  pub quiet_rows : (t : Rows) (q q' : Spot) (o : ℕ) → NoRow (becomes_function w) t → Fine q.slot → Fine q'.slot → collect_c N w q q' o t [] ≡ [] → emit_c N w [] q q' o t ≡ t
  unfolding collect_c emit_c
  quiet_rows none q q' o stay f f' h = refl
  quiet_rows (node k a n i s) q q' o stay f f' h =
      let A : Act = act_c N w q o k a n i in
      let r : ℕ = (enter w A.more.step q.ctx).this_at in
      let C₁ : List Binding = meet N A.op [] in
      let C₂ : List Binding = collect_c N w (into w q A.one) (into w q A.more) (o + 1) i C₁ in
      let C₃ : List Binding = leave N q.ctx A.op C₂ in
      let C₄ : List Binding = closed (closes q.slot k) r C₃ in
      let z₄ : C₄ ≡ [] = empty_of C₄ _ (collect_grows N w s q' q' (o + 1 + size i) C₄) h in
      let z₃ : C₃ ≡ [] = empty_of C₃ C₄ (closed_grows (closes q.slot k) r C₃) z₄ in
      let z₂ : C₂ ≡ [] = empty_of C₂ C₃ (leave_grows N q.ctx A.op C₂) z₃ in
      let z₁ : C₁ ≡ [] = empty_of C₁ C₂ (collect_grows N w i (into w q A.one) (into w q A.more) (o + 1) C₁) z₂ in
      let Q : Quiet k a n A = quiet-act k a n o i q stay.0 f z₁ in
      quiet_row k a n i s _ _ q r A f Q
      (quiet_rows i (into w q A.one) (into w q A.more) (o + 1) stay.1.0 Q.one Q.more (subst (λ (l : List Binding). collect_c N w (into w q A.one) (into w q A.more) (o + 1) i l ≡ []) z₁ z₂))
      (quiet_rows s q' q' (o + 1 + size i) stay.1.1 f' f' (subst (λ (l : List Binding). collect_c N w q' q' (o + 1 + size i) s l ≡ []) z₄ h))

  -- the whole table
  pub quiet-steps : (t : Rows) → (enabled w || async_only w) ≡ true → NoRow (becomes_function w) t → made_c N w t ≡ [] → steps N w t ≡ record { rows = t; bindings = [] }
  unfolding steps_c
  quiet-steps t on stay h =
      let e : emit_c N w [] (spot start free) (spot start free) 0 t ≡ t = quiet_rows t (spot start free) (spot start free) 0 stay (refl, refl) (refl, refl) (unfold made_c in h) in
      steps-same N w t ∙ rw (on, h, e)

-- a row that stays as it is, where e says whether the mode is Enabled
abbrev pub stays : (e : Bool) (ws : List ℕ) → ℕ → Bool
stays e ws j = not (eqb (kind_at ws j) Arrow && (e && not (bit 1 (attr_at ws j))))

each_below : (t : ℕ → Bool) (a n j : ℕ) → list_all t (range_with_len a n) ≡ true → a ≤ j → j < a + n → t j ≡ true
each_below t a zero j h x y = absurd (omega arith)
each_below t a (suc n) j h x y =
    ⊎_elim (λ q. ap t (sym q) ∙ and_left (t a) _ h) (λ l. each_below t (a + 1) n j (and_right (t a) _ h) (omega arith) (omega arith)) (eq-or-lt_of_le x)

pub all_kept : (w : Switches) (e : Bool) (rows : List ℕ) → e ≡ enabled w → GivenRows rows (rows_in rows) → list_all (stays e (words rows)) (range_with_len 0 (rows_in rows)) ≡ true → NoRow (becomes_function w) (table rows)
all_kept w e rows q g h = rows_no (words rows) (rows_in rows) g.nested (becomes_function w) (λ j l. rw (← q) (not-true _ (each_below (stays e (words rows)) 0 (rows_in rows) j h (omega arith) (omega arith))))

-- an array without bindings
pub none_made : (M : List ℕ) (cap : ℕ) {count : ℕ} {bs : List Binding} → Kept M cap bs count → count ≡ 0 → bs ≡ []
unfolding binds_from
none_made M cap {count} {bs} k z = sym k.list ∙ ap (binds M cap) z
