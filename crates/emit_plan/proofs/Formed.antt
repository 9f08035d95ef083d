-- What a row's kind says of its plan. Assumes nothing.
use mathlib.Core.Path.{◌≡◌, refl, sym, subst, ◌∙◌}
use mathlib.Core.Bool.{Bool, true, false, cond, ◌&&◌, ◌||◌, true≢false}
use Prim.Native.Nat.{ℕ}
use lib.Dec.{eqb}
use borrow.Author.Tests.{eqb-true}
use Rattle.grammar.specs.Kinds.{Program, ExprStmt, Call, Arrow, Function, Params, Body, StaticBlock}
use Rattle.forest.specs.Forest.{Rows}
use Rattle.steps.specs.Mode.{Switches}
use Rattle.steps.specs.Naming.{Names}
use Rattle.steps.specs.Slots.{wrapped}
use Rattle.steps.specs.AfterSuper.{list, copy, members}
use Rattle.steps.specs.Acts.{Ctx, Op.row, act, act_of, kind_of}
use Rattle.steps.specs.Bindings.{closes}
use Rattle.steps.specs.Fused.{met_of, direct_of, within, own}
use Rattle.emit_plan.specs.Walkers.{is_statement, is_function, is_row}
use Rattle.names.proofs.Bools.{and_parts, either, neither}

and-false : (b : Bool) → (b && false) ≡ false
and-false true = refl
and-false false = refl

at_kind : (P : ℕ → Type 0) (k m : ℕ) → P m → eqb k m ≡ true → P k
at_kind P k m h e = subst P (sym (eqb-true k m e)) h

-- the kinds that go to the statement walker
statements : (P : ℕ → Type 0) (k : ℕ) → is_statement k ≡ true → P 1 → P 2 → P 3 → P 4 → P 5 → P 6 → P k
statements P k h a b c d e f =
    either (P k) _ _ h
    (λ h. either (P k) _ _ h
    (λ h. either (P k) _ _ h
    (λ h. either (P k) _ _ h
    (λ h. either (P k) _ _ h (at_kind P k 1 a) (at_kind P k 2 b)) (at_kind P k 3 c)) (at_kind P k 4 d)) (at_kind P k 5 e)) (at_kind P k 6 f)

module _ (N : Names) (w : Switches) (l : Bool) (c : Ctx) (sl o a n : ℕ) (i : Rows) where
  pub statement_op : (k : ℕ) → is_statement k ≡ true → (act N w l c sl o k a n i).op ≡ row k a n
  unfolding act act_of kind_of
  statement_op k h = statements (λ (k : ℕ). (act N w l c sl o k a n i).op ≡ row k a n) k h refl refl refl refl refl refl

  pub met_op : (k sc : ℕ) (sup : Bool) → met_of sc k sup ≡ true → (act N w l c sl o k a n i).op ≡ row k a n
  unfolding act act_of kind_of met_of
  met_op k sc sup h = at_kind (λ (k : ℕ). (act N w l c sl o k a n i).op ≡ row k a n) k Call refl (and_parts _ _ (and_parts _ _ h).0).0

  closing_row : (k : ℕ) → closes sl k ≡ true → is_row (act N w l c sl o k a n i).op ≡ true
  unfolding act act_of kind_of closes is_row
  closing_row k h =
      either (is_row (act N w l c sl o k a n i).op ≡ true) _ _ h
      (λ h. either (is_row (act N w l c sl o k a n i).op ≡ true) _ _ h (at_kind (λ (k : ℕ). is_row (act N w l c sl o k a n i).op ≡ true) k Program refl) (at_kind (λ (k : ℕ). is_row (act N w l c sl o k a n i).op ≡ true) k StaticBlock refl))
      (λ h. at_kind (λ (k : ℕ). is_row (act N w l c sl o k a n i).op ≡ true) k Body refl (and_parts _ _ h).0)

  pub rowless_open : (k : ℕ) → is_row (act N w l c sl o k a n i).op ≡ false → closes sl k ≡ false
  rowless_open k h = go (closes sl k) refl
    where
      go : (b : Bool) → closes sl k ≡ b → closes sl k ≡ false
      go true e = absurd (true≢false (sym (closing_row k e) ∙ h))
      go false e = e

pub statement_met : (k sc : ℕ) (sup : Bool) → is_statement k ≡ true → met_of sc k sup ≡ false
unfolding met_of
statement_met k sc sup h = statements (λ (k : ℕ). met_of sc k sup ≡ false) k h refl refl refl refl refl refl

pub statement_open : (k sl : ℕ) → is_statement k ≡ true → closes sl k ≡ false
unfolding closes
statement_open k sl h = statements (λ (k : ℕ). closes sl k ≡ false) k h refl refl refl refl refl refl

pub met_open : (k sl sc : ℕ) (sup : Bool) → met_of sc k sup ≡ true → closes sl k ≡ false
unfolding met_of closes
met_open k sl sc sup h = at_kind (λ (k : ℕ). closes sl k ≡ false) k Call refl (and_parts _ _ (and_parts _ _ h).0).0

pub other-first : (k sc : ℕ) (called : Bool) → is_statement k ≡ false → direct_of sc k called ≡ false
unfolding direct_of
other-first k sc called h =
    let e : eqb k ExprStmt ≡ false = (neither _ _ (neither _ _ (neither _ _ (neither _ _ (neither _ _ h).0).0).0).0).0 in
    rw e refl

pub dressed_first : (k sl sc : ℕ) (called : Bool) → eqb sl wrapped ≡ true → direct_of (own sl sc) k called ≡ false
unfolding direct_of own within
dressed_first k sl sc called h = rw h (go (eqb sc copy || eqb sc members))
  where
    go : (b : Bool) → (eqb k ExprStmt && called && eqb (cond b copy 1) list) ≡ false
    go true = and-false (eqb k ExprStmt && called)
    go false = and-false (eqb k ExprStmt && called)

none_of : (a b c d e f : Bool) → (a || b || c || d || e || f) ≡ false → (a ≡ false) × ((e ≡ false) × (f ≡ false))
none_of a b c d e f h =
    let p = neither (a || b || c || d || e) f h in
    let q = neither (a || b || c || d) e p.0 in
    ((neither a b (neither (a || b) c (neither (a || b || c) d q.0).0).0).0, (q.1, p.1))

pub function_open : (k sl : ℕ) → is_function k ≡ false → closes sl k ≡ false
unfolding closes
function_open k sl h =
    let e : (eqb k Program ≡ false) × ((eqb k Body ≡ false) × (eqb k StaticBlock ≡ false)) = none_of (eqb k Program) (eqb k Arrow) (eqb k Function) (eqb k Params) (eqb k Body) (eqb k StaticBlock) h in
    rw (e.0, e.1.0, e.1.1) refl
