-- A result has at most 8 rows for each row of the table and 11 for each binding. Assumes nothing.
use mathlib.Core.Path.{◌≡◌, refl, sym, subst}
use mathlib.Core.List.{List}
use Prim.Native.Nat.{ℕ, ◌+◌, ◌*◌, ◌≤◌}
use mathlib.Core.Bool.{Bool, true, false, cond, ◌||◌}
use lib.Dec.{eqb}
use lib.ListN.{length}
use native.Mathlib.Omega.{arith}
use Rattle.steps.specs.Paths.{Step.along, Step.in_params, Step.in_body, Step.in_static}
use Rattle.steps.specs.Mode.{Switches, enabled, async_only}
use Rattle.steps.specs.Naming.{Names}
use Rattle.steps.specs.Bindings.{Binding, closes}
use Rattle.steps.specs.Acts.{Ctx, by, Act, kind_of, act_of, act}
use Rattle.steps.specs.Slots.{free, of_method, body_of, late_body, wrapped}
use Rattle.steps.specs.TopInsertion.{frame_top, top}
use Rattle.steps.specs.Walk.{build}
use Rattle.steps.specs.ArrowToFunction.{dress}
use Rattle.steps.specs.Context.{enter, start, Spot, spot, into, act_c, late_c, emit_c, made_c, steps_c}
use Rattle.steps.proofs.Credit.{eqb-eq}
use Rattle.steps.proofs.Fewer.{FitRow, Fit, Bodied, closes-plain, not_function, slot_one, slot_more}
use Rattle.steps.proofs.Sizes.{supers, vol, upto, upto_all, upto-up, top-size, dress-vol, shut_vol}
use Rattle.forest.specs.Forest.{Rows, Rows.none, Rows.node, size}
use Rattle.steps.proofs.WellShaped.{OneBody, ParamsBody}
use Rattle.names.proofs.Bools.{pick}

bodied-wrapped : (sl : ℕ) → Bodied sl ≡ true → eqb sl wrapped ≡ false
bodied-wrapped sl B = go (eqb sl body_of) refl
  where
    go : (x : Bool) → eqb sl body_of ≡ x → eqb sl wrapped ≡ false
    go true e = rw (eqb-eq sl 2 e)
    go false e = rw (eqb-eq sl 3 (rw e at B))

module _ (N : Names) (w : Switches) (bs : List Binding) where
  Plain : Rows → Type 0
  Plain r = (q q' : Spot) (o : ℕ) → Fit r → Bodied q.slot ≡ false → Bodied q'.slot ≡ false →
      vol (emit_c N w bs q q' o r) + upto o bs ≤ 8 * size r + upto (o + size r) bs

  -- a Function's Body; its Params and Body
  Body : Rows → Type 0
  Body r = (q : Spot) (o : ℕ) → Fit r → OneBody r → Bodied q.slot ≡ true →
      size (emit_c N w bs q q o r) + upto q.ctx.this_at bs + upto o bs ≤ 8 * size r + upto (q.ctx.this_at + 1) bs + upto (o + size r) bs

  Pair : Rows → Type 0
  Pair r = (c : Ctx) (q' : Spot) (o : ℕ) → Fit r → ParamsBody r → Bodied q'.slot ≡ true →
      size (emit_c N w bs (spot c free) q' o r) + upto q'.ctx.this_at bs + upto o bs ≤ 8 * size r + upto (q'.ctx.this_at + 1) bs + upto (o + size r) bs

  record Claim (r : Rows) : Type 0 where
    plain : Plain r
    body : Body r
    pair : Pair r

  none_claim : Claim none
  unfolding Plain Body Pair OneBody ParamsBody emit_c size supers
  none_claim = record {
    plain = λ q q' o f B B'. omega (arith, upto-up o (o + 0) (omega arith) bs);
    body = λ q o f OB. absurd OB;
    pair = λ c q' o f PB. absurd PB;
  }

  -- what row k becomes, before what follows it
  row_of : (k a n : ℕ) (i : Rows) (q : Spot) (o : ℕ) → Rows → Rows
  row_of k a n i q o S =
      dress q.slot
      (build N bs q.ctx (act_c N w q o k a n i).op
      (top N bs q.slot k (enter w (act_c N w q o k a n i).more.step q.ctx).this_at
      (emit_c N w bs (into w q (act_c N w q o k a n i).one) (into w q (act_c N w q o k a n i).more) (o + 1) i))) S

  Row : ℕ → ℕ → Rows → Spot → ℕ → Rows → ℕ → Type 0
  Row a n i q o S k = (eqb k 0 ≡ false) × FitRow (kind_of k) i × Fit i → vol (row_of k a n i q o S) + upto o bs ≤ 8 + 8 * size i + upto (o + 1 + size i) bs + vol S

  row_plain : (k a n : ℕ) (i : Rows) → Claim i → (q : Spot) (o : ℕ) (S : Rows) → Bodied q.slot ≡ false → eqb k 17 ≡ false → eqb k 23 ≡ false → Row a n i q o S k
  unfolding Row row_of top Plain
  row_plain k a n i I q o S B e17 e23 f =
      let A : Act = act_c N w q o k a n i in
      let l : Bool = late_c N w q o k a i in
      let B₁ : Bodied A.one.slot ≡ false = unfold act_c act in slot_one N w l q.ctx q.slot o k a n i (λ (s : ℕ). Bodied s ≡ false) refl refl refl refl refl (kind_of k) in
      let B₂ : Bodied A.more.slot ≡ false = unfold act_c act in slot_more N w l q.ctx q.slot o k a n i (λ (s : ℕ). Bodied s ≡ false) refl refl refl (kind_of k) (not_function k e17) in
      let X : Rows = emit_c N w bs (into w q A.one) (into w q A.more) (o + 1) i in
      let h = I.plain (into w q A.one) (into w q A.more) (o + 1) f.2 B₁ B₂ in
      let u = upto-up o (o + 1) (omega arith) bs in
      rw (closes-plain q.slot k B f.0 e23) (omega (arith, dress-vol q.slot N bs q.ctx A.op X S))

  row_static : (a n : ℕ) (i : Rows) → Claim i → (q : Spot) (o : ℕ) (S : Rows) → Row a n i q o S 23
  unfolding Row row_of top Plain act_c act act_of kind_of closes enter build
  row_static a n i I q o S f =
      let t : Spot = into w q (by (in_static o) free) in
      let X : Rows = emit_c N w bs t t (o + 1) i in
      let h = I.plain t t (o + 1) f.2 refl refl in
      let T : Rows = frame_top N bs o false (eqb q.slot late_body) X in
      omega (arith, shut_vol q.slot 23 a n T S refl refl, top-size N bs o false (eqb q.slot late_body) X)

  row_function : (a n : ℕ) (i : Rows) → Claim i → (q : Spot) (o : ℕ) (S : Rows) → Row a n i q o S 17
  unfolding Row row_of top Pair act_c act act_of kind_of closes enter build FitRow
  row_function a n i I q o S f =
      let l : Bool = late_c N w q o 17 a i in
      let P : Spot = into w q (by (in_params o a (eqb q.slot of_method)) free) in
      let B : Spot = into w q (by (in_body o a (eqb q.slot of_method)) (cond l late_body body_of)) in
      let X : Rows = emit_c N w bs P B (o + 1) i in
      let h = I.pair P.ctx B (o + 1) f.2 f.1 (pick (λ (s : ℕ). Bodied s ≡ true) l 3 2 refl refl) in
      omega (arith, shut_vol q.slot 17 a n X S refl refl)

  row_any : (k a n : ℕ) (i : Rows) → Claim i → (q : Spot) (o : ℕ) (S : Rows) → Bodied q.slot ≡ false → Row a n i q o S k
  row_any k a n i I q o S B = go (eqb k 17) (eqb k 23) refl refl
    where
      go : (x y : Bool) → eqb k 17 ≡ x → eqb k 23 ≡ y → Row a n i q o S k
      go true y e e' = subst (Row a n i q o S) (sym (eqb-eq k 17 e)) (row_function a n i I q o S)
      go false true e e' = subst (Row a n i q o S) (sym (eqb-eq k 23 e')) (row_static a n i I q o S)
      go false false e e' = row_plain k a n i I q o S B e e'

  plain_node : (k a n : ℕ) (i s : Rows) → Claim i → Claim s → Plain (node k a n i s)
  unfolding Plain emit_c Fit size Row row_of
  plain_node k a n i s I S q q' o f B B' =
      let e : o + (1 + size i + size s) ≡ o + 1 + size i + size s = omega arith in
      let r = row_any k a n i I q o (emit_c N w bs q' q' (o + 1 + size i) s) B (f.0, f.1, f.2) in
      let t = S.plain q' q' (o + 1 + size i) f.3 B' B' in
      rw e (omega arith)

  body_node : (a n : ℕ) (i : Rows) → Claim i → Body (node 19 a n i none)
  unfolding Body Plain emit_c Fit size act_c act act_of kind_of closes top enter build dress
  body_node a n i I q o f OB B =
      let t : Spot = into w q (by along free) in
      let X : Rows = emit_c N w bs t t (o + 1) i in
      let h = I.plain t t (o + 1) f.2 refl refl in
      let u = upto-up o (o + 1) (omega arith) bs in
      let e : o + (1 + size i + 0) ≡ o + 1 + size i = omega arith in
      rw (e, B, bodied-wrapped q.slot B) (omega (arith, top-size N bs q.ctx.this_at false (eqb q.slot late_body) X))

  pair_node : (a n : ℕ) (i s : Rows) → Claim i → Claim s → OneBody s → Pair (node 18 a n i s)
  unfolding Pair Body Plain emit_c Fit size act_c act act_of kind_of closes top enter build dress
  pair_node a n i s I S OB c q' o f PB B' =
      let t : Spot = spot c free in
      let X : Rows = emit_c N w bs t t (o + 1) i in
      let h = I.plain t t (o + 1) f.2 refl refl in
      let r = S.body q' (o + 1 + size i) f.3 OB B' in
      let u = upto-up o (o + 1) (omega arith) bs in
      let e : o + (1 + size i + size s) ≡ o + 1 + size i + size s = omega arith in
      rw e (omega arith)

  claim : (r : Rows) → Claim r
  unfolding Plain Body Pair OneBody ParamsBody
  claim none = none_claim
  claim (node k a n i s) =
      let I = claim i in
      let S = claim s in
      record {
        plain = plain_node k a n i s I S;
        body = λ q o f OB. subst (λ (k : ℕ). Body (node k a n i s)) (sym OB.0) (subst (λ (s : Rows). Body (node 19 a n i s)) (sym OB.1) (body_node a n i I)) q o f OB;
        pair = λ c q' o f PB. subst (λ (k : ℕ). Pair (node k a n i s)) (sym PB.0) (pair_node a n i s I S PB.1) c q' o f PB;
      }

-- the rows that are written with the bindings bs
pub emit-size : (N : Names) (w : Switches) (bs : List Binding) (i : Rows) → Fit i →
    size (emit_c N w bs (spot start free) (spot start free) 0 (node 0 0 0 i none)) ≤ 6 + 8 * size i + 11 * length bs
unfolding emit_c act_c act act_of kind_of closes top enter build dress Plain size
emit-size N w bs i f =
    let t : Spot = spot start free in
    let h = (claim N w bs i).plain t t 1 f refl refl in
    omega (arith, top-size N bs 0 true false (emit_c N w bs t t 1 i), upto_all (1 + size i) bs)

-- the rows of the steps, by the number of their bindings
pub steps-size : (N : Names) (w : Switches) (i : Rows) → Fit i →
    size (steps_c N w (node 0 0 0 i none)).rows ≤ 6 + 8 * size i + 11 * length (steps_c N w (node 0 0 0 i none)).bindings
steps-size N w i f = go (enabled w || async_only w) refl
  where
    go : (x : Bool) → (enabled w || async_only w) ≡ x → size (steps_c N w (node 0 0 0 i none)).rows ≤ 6 + 8 * size i + 11 * length (steps_c N w (node 0 0 0 i none)).bindings
    go true e = unfold steps_c in rw e (emit-size N w (made_c N w (node 0 0 0 i none)) i f)
    go false e = unfold steps_c size in rw e (omega arith)
