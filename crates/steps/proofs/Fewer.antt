-- There are never more bindings than rows. Assumes nothing.
use mathlib.Core.Path.{◌≡◌, refl, ◌∙◌, sym, subst}
use mathlib.Core.List.{List, []}
use Prim.Native.Nat.{ℕ, ◌+◌, ◌≤◌}
use mathlib.Core.Bool.{Bool, true, false, cond, not, ◌&&◌, ◌||◌, true≢false, false≢true}
use lib.Dec.{eqb}
use lib.ListN.{length}
use native.Mathlib.Omega.{arith}
use Rattle.steps.specs.Paths.{Step.along, Step.in_params, Step.in_body, Step.in_static}
use Rattle.steps.specs.Mode.{Switches, bit}
use Rattle.steps.specs.Naming.{Names}
use Rattle.steps.specs.Bindings.{Binding, closes, closed, meet, leave}
use Rattle.steps.specs.Acts.{Ctx, by, Act, Kind, Kind.this, Kind.super, Kind.ident, Kind.access, Kind.assign, Kind.arrow, Kind.function, Kind.keyed, Kind.field, Kind.static, Kind.target, Kind.other, kind_of, reads?, sets?, method_slot, act_of, act}
use Rattle.steps.specs.Super.{first_inside, first_super, first_access}
use Rattle.steps.specs.ArrowToFunction.{to_function?}
use Rattle.steps.specs.Slots.{free, of_method, body_of, late_body, of_target, callee, dropped}
use Rattle.steps.specs.Context.{enter, start, Spot, spot, into, act_c, late_c, collect_c, made_c}
use Rattle.steps.proofs.Records.{AllSound, Low, Named, one_known, more-known, met_sound, left_sound}
use Rattle.steps.proofs.Credit.{owed, phi, with, close_pay, fresh, own_of, weight, credit, meet-cost, leave-cost, costs, Placed, row_cost, eqb-eq, eqb_no}
use Rattle.forest.specs.Forest.{Rows, Rows.none, Rows.node, size}
use Rattle.steps.proofs.WellShaped.{OneBody, ParamsBody, TargetFirst, WfRow, Wf}
use Rattle.names.proofs.Bools.{and_left, pick}

-- What the counting needs of a well-formed row.
unfoldable pub FitRow : Kind → Rows → Type 0
FitRow this i = Unit {0}
FitRow super i = Unit {0}
FitRow ident i = Unit {0}
FitRow access i = Unit {0}
FitRow Kind.call i = Unit {0}
FitRow assign i = TargetFirst i
FitRow arrow i = Unit {0}
FitRow function i = ParamsBody i
FitRow keyed i = Unit {0}
FitRow field i = Unit {0}
FitRow static i = Unit {0}
FitRow target i = Unit {0}
FitRow other i = Unit {0}

unfoldable pub Fit : Rows → Type 0
Fit none = Unit {0}
Fit (node k a n i s) = (eqb k 0 ≡ false) × FitRow (kind_of k) i × Fit i × Fit s

at : (P : ℕ → Type 0) (m k : ℕ) → P m → (eqb k m ≡ false → P k) → P k
at P m k p d = go (eqb k m) refl
  where
    go : (x : Bool) → eqb k m ≡ x → P k
    go true e = subst P (sym (eqb-eq k m e)) p
    go false e = d e

module _ (a : ℕ) (i : Rows) where
  abbrev RowFits : ℕ → Type 0
  RowFits k = WfRow k a i → (eqb k 0 ≡ false) × FitRow (kind_of k) i

  abbrev KindFits : Kind → Type 0
  KindFits K = FitRow K i

  row_fits : (k : ℕ) → RowFits k
  unfolding WfRow FitRow kind_of
  row_fits k =
      at RowFits 0 k (λ h. absurd h)
      (λ e0. at RowFits 15 k (λ h. (refl, h))
      (λ e15. at RowFits 17 k (λ h. (refl, h))
      (λ e17 h. (
        e0,
        rw (e15, e17)
            (pick KindFits (eqb k 9) this _ tt (pick KindFits (eqb k 10) super _ tt (pick KindFits (eqb k 11) ident _ tt (pick KindFits (eqb k 12 || eqb k 13) access _ tt
            (pick KindFits (eqb k 14) Kind.call _ tt (pick KindFits (eqb k 16) arrow _ tt (pick KindFits (eqb k 21 || eqb k 25) keyed _ tt
            (pick KindFits (eqb k 22) field _ tt (pick KindFits (eqb k 23) static _ tt (pick KindFits (eqb k 28) target other tt tt)))))))))),
      ))))

pub wf_fit : (r : Rows) → Wf r → Fit r
unfolding Wf Fit
wf_fit none h = tt
wf_fit (node k a n i s) h = let p = row_fits a i k h.0 in (p.0, p.1, wf_fit i h.1, wf_fit s h.2)

-- Each This, Ident, access and Assign pays for its records, with the Super and Target below it.
record Light (r : Rows) : Type 0 where
  all : (b : Bool) → weight b r ≤ size r
  sup : first_super r ≡ true → (b : Bool) → weight b r + 1 ≤ size r
  acc : first_access r ≡ true → weight true r + 1 ≤ size r
  tgt : TargetFirst r → first_access (first_inside r) ≡ true → (b : Bool) → weight b r + 2 ≤ size r

own-fits : (b x : Bool) (i : Rows) → Light i → (K : Kind) → FitRow K i → own_of b K i + weight x i ≤ 1 + size i
unfolding own_of FitRow
own-fits b x i I this f = let h = I.all x in omega arith
own-fits b x i I super f = let h = I.all x in omega arith
own-fits b x i I ident f = let h = I.all x in omega arith
own-fits b x i I access f = go (not b) (first_super i) refl
  where
    go : (y z : Bool) → first_super i ≡ z → cond (y && z) 2 0 + weight x i ≤ 1 + size i
    go true true e = let h = I.sup e x in omega arith
    go true false e = let h = I.all x in omega arith
    go false z e = let h = I.all x in omega arith
own-fits b x i I Kind.call f = go (first_access i)
  where
    go : (z : Bool) → cond z 1 0 + weight x i ≤ 1 + size i
    go true = let h = I.all x in omega arith
    go false = let h = I.all x in omega arith
own-fits b x i I assign f = go (first_access (first_inside i)) refl
  where
    go : (z : Bool) → first_access (first_inside i) ≡ z → cond z 3 0 + weight x i ≤ 1 + size i
    go true e = let h = I.tgt f e x in omega arith
    go false e = let h = I.all x in omega arith
own-fits b x i I arrow f = let h = I.all x in omega arith
own-fits b x i I function f = let h = I.all x in omega arith
own-fits b x i I keyed f = let h = I.all x in omega arith
own-fits b x i I field f = let h = I.all x in omega arith
own-fits b x i I static f = let h = I.all x in omega arith
own-fits b x i I target f = let h = I.all x in omega arith
own-fits b x i I other f = let h = I.all x in omega arith

access_free : (k : ℕ) (i : Rows) → (eqb k 12 || eqb k 13) ≡ true → own_of true (kind_of k) i ≡ 0
access_free k i e = go (eqb k 12) refl
  where
    go : (x : Bool) → eqb k 12 ≡ x → own_of true (kind_of k) i ≡ 0
    go true d = rw (eqb-eq k 12 d) (unfold kind_of own_of in refl)
    go false d = rw (eqb-eq k 13 (rw d at e)) (unfold kind_of own_of in refl)

light : (r : Rows) → Fit r → Light r
unfolding Fit weight size first_super first_access first_inside TargetFirst
light none f = record { all = λ b. omega arith; sup = λ e. absurd (false≢true e); acc = λ e. absurd (false≢true e); tgt = λ t e. absurd (false≢true e) }
light (node k a n i s) f =
    let I : Light i = light i f.2 in
    let S : Light s = light s f.3 in
    let hs = S.all false in
    record {
      all = λ b. let h = own-fits b (eqb k 28) i I (kind_of k) f.1 in omega arith;
      sup = λ e b. let h = I.all (eqb k 28) in let z : own_of b (kind_of k) i ≡ 0 = rw (eqb-eq k 10 e) (unfold kind_of own_of in refl) in omega arith;
      acc = λ e. let h = I.all (eqb k 28) in let z = access_free k i (and_left _ _ e) in omega arith;
      tgt = λ t e b. let h = I.acc e in let z : own_of b (kind_of k) i ≡ 0 = rw t (unfold kind_of own_of in refl) in
          let y : weight (eqb k 28) i ≡ weight true i = rw t in omega arith;
    }

pub weight-size : (r : Rows) → Fit r → (b : Bool) → weight b r ≤ size r
weight-size r f b = (light r f).all b

-- Slots of children.
unfoldable pub is_function : Kind → Bool
is_function this = false
is_function super = false
is_function ident = false
is_function access = false
is_function Kind.call = false
is_function assign = false
is_function arrow = false
is_function function = true
is_function keyed = false
is_function field = false
is_function static = false
is_function target = false
is_function other = false

skip : (x : Bool) (K R : Kind) → is_function K ≡ false → is_function R ≡ false → is_function (cond x K R) ≡ false
skip true K R p q = p
skip false K R p q = q

pub not_function : (k : ℕ) → eqb k 17 ≡ false → is_function (kind_of k) ≡ false
unfolding kind_of is_function
not_function k e = rw e
    (skip (eqb k 9) this _ refl (skip (eqb k 10) super _ refl (skip (eqb k 11) ident _ refl (skip (eqb k 12 || eqb k 13) access _ refl
    (skip (eqb k 14) Kind.call _ refl (skip (eqb k 15) assign _ refl (skip (eqb k 16) arrow _ refl (skip (eqb k 21 || eqb k 25) keyed _ refl
    (skip (eqb k 22) field _ refl (skip (eqb k 23) static _ refl (skip (eqb k 28) target other refl refl)))))))))))

module _ (N : Names) (w : Switches) (l : Bool) (c : Ctx) (sl o k a n : ℕ) (i : Rows) where
  pub slot_one : (P : ℕ → Type 0) → P 0 → P 1 → P 5 → P 6 → P 7 → (K : Kind) → P (act_of N w l c sl o K k a n i).one.slot
  unfolding act_of
  slot_one P fr me ta ca dr this = fr
  slot_one P fr me ta ca dr super = fr
  slot_one P fr me ta ca dr ident = fr
  slot_one P fr me ta ca dr access = pick P (reads? c sl i) 7 0 dr fr
  slot_one P fr me ta ca dr Kind.call = pick P (c.takes_super && first_access i) 6 0 ca fr
  slot_one P fr me ta ca dr assign = pick P (sets? c i) 7 0 dr fr
  slot_one P fr me ta ca dr arrow = fr
  slot_one P fr me ta ca dr function = fr
  slot_one P fr me ta ca dr keyed = pick P (bit 1 a) 0 (method_slot k a) fr (pick P (eqb k 21 || bit 2 a) 1 0 me fr)
  slot_one P fr me ta ca dr field = fr
  slot_one P fr me ta ca dr static = fr
  slot_one P fr me ta ca dr target = pick P (eqb sl dropped) 7 5 dr ta
  slot_one P fr me ta ca dr other = fr

  pub slot_more : (P : ℕ → Type 0) → P 0 → P 1 → P 4 → (K : Kind) → is_function K ≡ false → P (act_of N w l c sl o K k a n i).more.slot
  unfolding act_of is_function
  slot_more P fr me wr this e = fr
  slot_more P fr me wr super e = fr
  slot_more P fr me wr ident e = fr
  slot_more P fr me wr access e = fr
  slot_more P fr me wr Kind.call e = fr
  slot_more P fr me wr assign e = fr
  slot_more P fr me wr arrow e = pick P (to_function? w a && bit 2 a) 4 0 wr fr
  slot_more P fr me wr function e = absurd (true≢false e)
  slot_more P fr me wr keyed e = pick P (eqb k 21 || bit 2 a) 1 0 me fr
  slot_more P fr me wr field e = fr
  slot_more P fr me wr static e = fr
  slot_more P fr me wr target e = fr
  slot_more P fr me wr other e = fr

  -- a Target's child is placed
  pub slot_placed : (K : Kind) → (eqb k 28 ≡ true → kind_of k ≡ K) → Placed (eqb k 28) (act_of N w l c sl o K k a n i).one.slot
  unfolding act_of kind_of
  slot_placed K h e = go K (sym (h e) ∙ rw (eqb-eq k 28 e))
    where
      go : (K : Kind) → K ≡ target → (eqb (act_of N w l c sl o K k a n i).one.slot of_target || eqb (act_of N w l c sl o K k a n i).one.slot dropped) ≡ true
      go K p = rw p (pick (λ (s : ℕ). (eqb s of_target || eqb s dropped) ≡ true) (eqb sl dropped) 7 5 refl refl)

abbrev pub Bodied : ℕ → Bool
Bodied sl = eqb sl body_of || eqb sl late_body

pub and_no : (x : Bool) → (x && false) ≡ false
and_no true = refl
and_no false = refl

pub closes-plain : (sl k : ℕ) → Bodied sl ≡ false → eqb k 0 ≡ false → eqb k 23 ≡ false → closes sl k ≡ false
unfolding closes
closes-plain sl k b z e = rw (z, e, b) (and_no (eqb k 19))

abbrev Off : (ℕ → Bool) → ℕ → Type 0
Off F o = (f : ℕ) → o ≤ f → F f ≡ false

off-with : (F : ℕ → Bool) (o : ℕ) → Off F o → Off (with o F) (o + 1)
off-with F o h f l = rw (eqb_no f o (λ e. omega arith)) (h f (omega arith))

module _ (N : Names) (w : Switches) (M : ℕ) where
  record Known (q q' : Spot) (o : ℕ) (r : Rows) (bs : List Binding) : Type 0 where
    fit : Fit r
    low : Low o q.ctx
    low' : Low o q'.ctx
    named : Named M r
    sound : AllSound M o bs

  Plain : Rows → Type 0
  Plain r = (F : ℕ → Bool) (b : Bool) (q q' : Spot) (o : ℕ) (bs : List Binding) → Known q q' o r bs → Off F o → Placed b q.slot →
      Bodied q.slot ≡ false → Bodied q'.slot ≡ false → eqb q'.slot callee ≡ false →
      phi F (collect_c N w q q' o r bs) ≤ phi F bs + weight b r + credit q.slot

  -- a Function's Body; its Params and Body
  Body : Rows → Type 0
  Body r = (F : ℕ → Bool) (q : Spot) (o : ℕ) (bs : List Binding) → Known q q o r bs → OneBody r → F q.ctx.this_at ≡ false → Off (with q.ctx.this_at F) o →
      Bodied q.slot ≡ true → phi F (collect_c N w q q o r bs) ≤ phi (with q.ctx.this_at F) bs + weight false r

  Pair : Rows → Type 0
  Pair r = (F : ℕ → Bool) (q q' : Spot) (o : ℕ) (bs : List Binding) → Known q q' o r bs → ParamsBody r → F q'.ctx.this_at ≡ false → Off (with q'.ctx.this_at F) o →
      Bodied q'.slot ≡ true → phi F (collect_c N w q q' o r bs) ≤ phi (with q'.ctx.this_at F) bs + weight false r

  record Claim (r : Rows) : Type 0 where
    plain : Plain r
    body : Body r
    pair : Pair r

  -- a row that neither is a Function nor closes a frame
  module _ (k a n : ℕ) (i s : Rows) (I : Claim i) (S : Claim s) where
    known_in : (q q' : Spot) (o : ℕ) (bs : List Binding) → Known q q' o (node k a n i s) bs →
        Known (into w q (act_c N w q o k a n i).one) (into w q (act_c N w q o k a n i).more) (o + 1) i (meet N (act_c N w q o k a n i).op bs)
    unfolding Fit Named
    known_in q q' o bs K = record {
      fit = K.fit.2;
      named = K.named.1;
      low = one_known N w M q o k a n i bs K.low K.named.0 K.named.1 K.sound;
      low' = more-known N w M q o k a n i bs K.low K.named.0 K.named.1 K.sound;
      sound = met_sound N w M q o k a n i bs K.low K.named.0 K.named.1 K.sound;
    }

    after : (q : Spot) (o : ℕ) (bs : List Binding) → List Binding
    after q o bs =
        closed (closes q.slot k) (enter w (act_c N w q o k a n i).more.step q.ctx).this_at
        (leave N q.ctx (act_c N w q o k a n i).op
        (collect_c N w (into w q (act_c N w q o k a n i).one) (into w q (act_c N w q o k a n i).more) (o + 1) i (meet N (act_c N w q o k a n i).op bs)))

    low-later : (o : ℕ) (c : Ctx) → Low o c → Low (o + 1 + size i) c
    low-later o c h = record { this = omega arith; super = omega arith; arguments = omega arith }

    known_on : (q q' : Spot) (o : ℕ) (bs : List Binding) → Known q q' o (node k a n i s) bs → Known q' q' (o + 1 + size i) s (after q o bs)
    unfolding Fit Named after
    known_on q q' o bs K = record {
      fit = K.fit.3;
      named = K.named.2;
      low = low-later o _ K.low';
      low' = low-later o _ K.low';
      sound = left_sound N w M q o k a n i bs K.low K.named.0 K.named.1 K.sound;
    }

    -- what follows a row, given what the row costs
    followed : (F : ℕ → Bool) (b : Bool) (q q' : Spot) (o : ℕ) (bs : List Binding) → Known q q' o (node k a n i s) bs → Off F o →
        Bodied q'.slot ≡ false → eqb q'.slot callee ≡ false →
        phi F (after q o bs) ≤ phi F bs + (own_of b (kind_of k) i + weight (eqb k 28) i) + credit q.slot →
        phi F (collect_c N w q q' o (node k a n i s) bs) ≤ phi F bs + weight b (node k a n i s) + credit q.slot
    unfolding collect_c weight Plain after
    followed F b q q' o bs K O B' C' h =
        let t = S.plain F false q' q' (o + 1 + size i) (after q o bs) (known_on q q' o bs K) (λ f l. O f (omega arith)) (λ e. absurd (false≢true e)) B' B' C' in
        let c : credit q'.slot ≡ 0 = rw C' in
        omega arith

    row_plain : (F : ℕ → Bool) (b : Bool) (q q' : Spot) (o : ℕ) (bs : List Binding) → Known q q' o (node k a n i s) bs → Off F o → Placed b q.slot → Bodied q.slot ≡ false →
        eqb k 17 ≡ false → eqb k 23 ≡ false →
        phi F (after q o bs) ≤ phi F bs + (own_of b (kind_of k) i + weight (eqb k 28) i) + credit q.slot
    unfolding after Fit closed Plain
    row_plain F b q q' o bs K O P B e17 e23 =
        let A : Act = act_c N w q o k a n i in
        let l : Bool = late_c N w q o k a i in
        let cost : costs A.op A.one.slot ≤ own_of b (kind_of k) i + credit q.slot = unfold act_c act in row_cost N w l q.ctx q.slot o k a n i b P (kind_of k) in
        let B₁ : Bodied A.one.slot ≡ false = unfold act_c act in slot_one N w l q.ctx q.slot o k a n i (λ (s : ℕ). Bodied s ≡ false) refl refl refl refl refl (kind_of k) in
        let B₂ : Bodied A.more.slot ≡ false = unfold act_c act in slot_more N w l q.ctx q.slot o k a n i (λ (s : ℕ). Bodied s ≡ false) refl refl refl (kind_of k) (not_function k e17) in
        let C₂ : eqb A.more.slot callee ≡ false = unfold act_c act in slot_more N w l q.ctx q.slot o k a n i (λ (s : ℕ). eqb s callee ≡ false) refl refl refl (kind_of k) (not_function k e17) in
        let P₁ : Placed (eqb k 28) A.one.slot = unfold act_c act in slot_placed N w l q.ctx q.slot o k a n i (kind_of k) (λ e. refl) in
        let inside = I.plain F (eqb k 28) (into w q A.one) (into w q A.more) (o + 1) (meet N A.op bs) (known_in q q' o bs K) (λ f l. O f (omega arith)) P₁ B₁ B₂ C₂ in
        let m = meet-cost N F A.op bs in
        let v = leave-cost N F q.ctx A.op (collect_c N w (into w q A.one) (into w q A.more) (o + 1) i (meet N A.op bs)) in
        rw (closes-plain q.slot k B K.fit.0 e23) (omega arith)

  -- StaticBlock
  row_static : (a n : ℕ) (i s : Rows) (I : Claim i) (S : Claim s) (F : ℕ → Bool) (b : Bool) (q q' : Spot) (o : ℕ) (bs : List Binding) → Known q q' o (node 23 a n i s) bs → Off F o →
      phi F (after 23 a n i s I S q o bs) ≤ phi F bs + (own_of b (kind_of 23) i + weight (eqb 23 28) i) + credit q.slot
  unfolding after act_c act act_of kind_of closes meet leave enter Plain own_of
  row_static a n i s I S F b q q' o bs K O =
      let t : Spot = into w q (by (in_static o) free) in
      let inside = I.plain (with o F) false t t (o + 1) bs (known_in 23 a n i s I S q q' o bs K) (off-with F o O) (λ e. absurd (false≢true e)) refl refl refl in
      let paid = close_pay o F (O o (omega arith)) (collect_c N w t t (o + 1) i bs) in
      let new = fresh M o F bs K.sound in
      omega arith

  -- Function
  row_function : (a n : ℕ) (i s : Rows) (I : Claim i) (S : Claim s) (F : ℕ → Bool) (b : Bool) (q q' : Spot) (o : ℕ) (bs : List Binding) → Known q q' o (node 17 a n i s) bs → Off F o →
      phi F (after 17 a n i s I S q o bs) ≤ phi F bs + (own_of b (kind_of 17) i + weight (eqb 17 28) i) + credit q.slot
  unfolding after act_c act act_of kind_of closes closed meet leave enter Pair own_of Fit FitRow
  row_function a n i s I S F b q q' o bs K O =
      let l : Bool = late_c N w q o 17 a i in
      let P : Spot = into w q (by (in_params o a (eqb q.slot of_method)) free) in
      let B : Spot = into w q (by (in_body o a (eqb q.slot of_method)) (cond l late_body body_of)) in
      let inside = I.pair F P B (o + 1) bs (known_in 17 a n i s I S q q' o bs K) K.fit.1 (O o (omega arith)) (off-with F o O)
      (pick (λ (s : ℕ). Bodied s ≡ true) l 3 2 refl refl) in
      let new = fresh M o F bs K.sound in
      omega arith

  Row : (i s : Rows) → Claim i → Claim s → (a n : ℕ) → (F : ℕ → Bool) (b : Bool) (q q' : Spot) (o : ℕ) (bs : List Binding) → ℕ → Type 0
  Row i s I S a n F b q q' o bs k = Known q q' o (node k a n i s) bs → phi F (after k a n i s I S q o bs) ≤ phi F bs + (own_of b (kind_of k) i + weight (eqb k 28) i) + credit q.slot

  row_any : (k a n : ℕ) (i s : Rows) (I : Claim i) (S : Claim s) (F : ℕ → Bool) (b : Bool) (q q' : Spot) (o : ℕ) (bs : List Binding) → Off F o → Placed b q.slot → Bodied q.slot ≡ false →
      Row i s I S a n F b q q' o bs k
  unfolding Row
  row_any k a n i s I S F b q q' o bs O P B = go (eqb k 17) (eqb k 23) refl refl
    where
      go : (x y : Bool) → eqb k 17 ≡ x → eqb k 23 ≡ y → Row i s I S a n F b q q' o bs k
      go true y e e' = subst (Row i s I S a n F b q q' o bs) (sym (eqb-eq k 17 e)) (λ K. row_function a n i s I S F b q q' o bs K O)
      go false true e e' = subst (Row i s I S a n F b q q' o bs) (sym (eqb-eq k 23 e')) (λ K. row_static a n i s I S F b q q' o bs K O)
      go false false e e' = λ K. row_plain k a n i s I S F b q q' o bs K O P B e e'

  plain_node : (k a n : ℕ) (i s : Rows) → Claim i → Claim s → Plain (node k a n i s)
  unfolding Plain Row
  plain_node k a n i s I S F b q q' o bs K O P B B' C' = followed k a n i s I S F b q q' o bs K O B' C' (row_any k a n i s I S F b q q' o bs O P B K)

  body_node : (a n : ℕ) (i : Rows) → Claim i → Claim none → Body (node 19 a n i none)
  unfolding Body Plain collect_c weight act_c act act_of kind_of closes meet leave enter own_of
  body_node a n i I S F q o bs K OB Fg O B =
      let g : ℕ = q.ctx.this_at in
      let t : Spot = into w q (by along free) in
      let inside = I.plain (with g F) false t t (o + 1) bs (known_in 19 a n i none I S q q o bs K) (λ f l. O f (omega arith)) (λ e. absurd (false≢true e)) refl refl refl in
      let paid = close_pay g F Fg (collect_c N w t t (o + 1) i bs) in
      rw B (omega arith)

  pair_node : (a n : ℕ) (i s : Rows) → Claim i → Claim s → OneBody s → Pair (node 18 a n i s)
  unfolding Pair Body Plain collect_c weight act_c act act_of kind_of closes closed meet leave enter own_of
  pair_node a n i s I S OB F q q' o bs K PB Fg O B' =
      let g : ℕ = q'.ctx.this_at in
      let t : Spot = into w q (by along free) in
      let inside = I.plain (with g F) false t t (o + 1) bs (known_in 18 a n i s I S q q' o bs K) (λ f l. O f (omega arith)) (λ e. absurd (false≢true e)) refl refl refl in
      let rest = S.body F q' (o + 1 + size i) (collect_c N w t t (o + 1) i bs) (unfold after in known_on 18 a n i s I S q q' o bs K) OB Fg (λ f l. O f (omega arith)) B' in
      omega arith

  none_claim : Claim none
  unfolding Plain Body Pair OneBody ParamsBody
  none_claim = record {
    plain = λ F b q q' o bs K O P B B' C'. unfold collect_c weight in omega arith;
    body = λ F q o bs K OB. absurd OB;
    pair = λ F q q' o bs K PB. absurd PB;
  }

  claim : (r : Rows) → Claim r
  unfolding Plain Body Pair OneBody ParamsBody
  claim none = none_claim
  claim (node k a n i s) =
      let I = claim i in
      let S = claim s in
      record {
        plain = plain_node k a n i s I S;
        body = λ F q o bs K OB. subst (λ (k : ℕ). Body (node k a n i s)) (sym OB.0) (subst (λ (s : Rows). Body (node 19 a n i s)) (sym OB.1) (body_node a n i I none_claim)) F q o bs K OB;
        pair = λ F q q' o bs K PB. subst (λ (k : ℕ). Pair (node k a n i s)) (sym PB.0) (pair_node a n i s I S PB.1) F q q' o bs K PB;
      }

-- Bindings never outnumber the rows under Program.
pub made-few : (N : Names) (w : Switches) (M : ℕ) (i : Rows) → Fit i → Named M i → length (made_c N w (node 0 0 0 i none)) ≤ size i
unfolding made_c collect_c act_c act act_of kind_of closes meet leave enter Plain AllSound owed
made-few N w M i f z =
    let t : Spot = spot start free in
    let F : ℕ → Bool = λ f. false in
    let L : Low 1 start = record { this = omega arith; super = omega arith; arguments = omega arith } in
    let K : Known N w M t t 1 i [] = record { fit = f; low = L; low' = L; named = z; sound = tt } in
    let inside = (claim N w M i).plain (with 0 F) false t t 1 [] K (λ f l. rw (eqb_no f 0 (λ e. omega arith))) (λ e. absurd (false≢true e)) refl refl refl in
    let paid = close_pay 0 F refl (collect_c N w t t 1 i []) in
    let light = weight-size i f false in
    omega arith
