-- A Super that stays, row by row. Assumes nothing.
use mathlib.Core.Path.{◌≡◌, refl, ap, sym, subst, ◌∙◌}
use mathlib.Core.Bool.{Bool, true, false, not, ◌&&◌, ◌||◌, true≢false}
use mathlib.Core.List.{List}
use Prim.Native.Nat.{ℕ, zero, suc, ◌+◌, ◌-◌, ◌<◌, ◌≤◌}
use native.Mathlib.Omega.{arith}
use borrow.Author.Tests.{ltb-true, ltb-false, ne_eqb, eq-eqb}
use lib.Dec.{eqb, ltb}
use Rattle.grammar.specs.Kinds.{Super, Function}
use Rattle.names.specs.Words.{kind_at, attr_at, name_at, end_at}
use Rattle.forest.specs.Forest.{size, rows_at}
use Rattle.forest.specs.Nested.{Nested, Range}
use Rattle.forest.proofs.Walking.{rows_none, inner, later, rows_step}
use Rattle.steps.specs.Mode.{Switches}
use Rattle.steps.specs.Naming.{Names}
use Rattle.steps.specs.Slots.{free, of_method, dropped}
use Rattle.steps.specs.Paths.{Step.in_params, Step.in_body}
use Rattle.steps.specs.Acts.{Act, act, by}
use Rattle.steps.specs.Context.{Spot, into, leaves_c}
use Rattle.below.specs.Below.{children}

module _ (ws : List ℕ) (n : ℕ) (good : Nested ws n) where
  size-from : (f i e : ℕ) → Range ws n i e → e ≤ f + i → i + size (rows_at ws i e) ≡ e
  unfolding size
  size-from zero i e r h = let o = r.ordered in rw (rows_none ws i e (omega arith)) (omega arith)
  size-from (suc f) i e r h = go (λ i e r a. size-from f i e r a) (ltb i e) refl
    where
      go : ((i e : ℕ) → Range ws n i e → e ≤ f + i → i + size (rows_at ws i e) ≡ e) → (b : Bool) → ltb i e ≡ b → i + size (rows_at ws i e) ≡ e
      go ih true q =
          let lt : i < e = ltb-true i e q in
          let within = r.within in
          let here : i < n = omega arith in
          let past : i < end_at ws i = good.ahead i here in
          let up : end_at ws i ≤ e = r.closed i (omega arith) lt in
          let one = ih (i + 1) (end_at ws i) (inner ws n good i here) (omega arith) in
          let more = ih (end_at ws i) e (later ws n good i e r lt) (omega arith) in
          rw (rows_step ws n good i e r lt) (omega arith)
      go ih false q = let o = r.ordered in let l = ltb-false i e q in rw (rows_none ws i e (omega arith)) (omega arith)

  -- rows i to e are e - i rows
  pub rows_size : (i e : ℕ) → Range ws n i e → i + size (rows_at ws i e) ≡ e
  rows_size i e r = size-from (e - i) i e r (omega (arith, r.ordered))

  module _ (N : Names) (w : Switches) (q q' : Spot) (i e : ℕ) (R : Range ws n i e) (lt : i < e) where
    abbrev pub act_here : Act
    act_here = act N w false q.ctx q.slot i (kind_at ws i) (attr_at ws i) (name_at ws i) (children ws i)

    abbrev here : Bool
    here = eqb (kind_at ws i) Super && not (eqb q.slot dropped)

    abbrev inside : Bool
    inside = not (eqb (kind_at ws i) Function) && leaves_c N w (into w q act_here.one) (into w q act_here.more) (i + 1) (children ws i)

    low : i < n
    low = let h = R.within in omega arith

    step : leaves_c N w q q' i (rows_at ws i e) ≡ (here || inside || leaves_c N w q' q' (end_at ws i) (rows_at ws (end_at ws i) e))
    unfolding leaves_c
    step =
        ap (leaves_c N w q q' i) (rows_step ws n good i e R lt)
        ∙ ap (λ (m : ℕ). here || inside || leaves_c N w q' q' m (rows_at ws (end_at ws i) e)) (rows_size (i + 1) (end_at ws i) (inner ws n good i low))

    pub leaves-here : here ≡ true → true ≡ leaves_c N w q q' i (rows_at ws i e)
    leaves-here p = sym (step ∙ ap (λ (b : Bool). b || inside || leaves_c N w q' q' (end_at ws i) (rows_at ws (end_at ws i) e)) p)

    module _ (p : here ≡ false) where
      pub leaves-inside : inside ≡ true → true ≡ leaves_c N w q q' i (rows_at ws i e)
      leaves-inside h = sym (step ∙ ap (λ (b : Bool). b || inside || leaves_c N w q' q' (end_at ws i) (rows_at ws (end_at ws i) e)) p ∙ ap (λ (b : Bool). b || leaves_c N w q' q' (end_at ws i) (rows_at ws (end_at ws i) e)) h)

      pub leaves_later : inside ≡ false → leaves_c N w q' q' (end_at ws i) (rows_at ws (end_at ws i) e) ≡ leaves_c N w q q' i (rows_at ws i e)
      leaves_later h = sym (step ∙ ap (λ (b : Bool). b || inside || leaves_c N w q' q' (end_at ws i) (rows_at ws (end_at ws i) e)) p ∙ ap (λ (b : Bool). b || leaves_c N w q' q' (end_at ws i) (rows_at ws (end_at ws i) e)) h)

    -- what is inside, by what the walk of the children says
    pub function-outside : kind_at ws i ≡ Function → inside ≡ false
    function-outside h = ap (λ (b : Bool). not b && leaves_c N w (into w q act_here.one) (into w q act_here.more) (i + 1) (children ws i)) (eq-eqb (kind_at ws i) Function h)

    -- .. nor is anything where the code does not go down: a Function, or no child
    pub not-down : (t : Bool) (x : ℕ) → t ≡ not (eqb (kind_at ws i) Function) → x ≡ end_at ws i → (t && ltb (i + 1) x) ≡ false → inside ≡ false
    unfolding leaves_c
    not-down t x p y h = go (eqb (kind_at ws i) Function) refl (subst (λ (m : Bool). (m && ltb (i + 1) x) ≡ false) p h)
      where
        go : (b : Bool) → eqb (kind_at ws i) Function ≡ b → (not (eqb (kind_at ws i) Function) && ltb (i + 1) x) ≡ false → inside ≡ false
        go true e g = rw e
        go false e g =
            let l : ltb (i + 1) x ≡ false = rw e at g in
            let none : x ≤ i + 1 = ltb-false (i + 1) x l in
            rw (e, rows_none ws (i + 1) (end_at ws i) (subst (λ (m : ℕ). m ≤ i + 1) y none)) refl

    pub children-say : (kind_at ws i ≡ Function → ⊥) → (r : Bool) (one more : Spot) (x : ℕ) → one ≡ into w q act_here.one → more ≡ into w q act_here.more → x ≡ end_at ws i
        → r ≡ leaves_c N w one more (i + 1) (rows_at ws (i + 1) x) → inside ≡ r
    children-say h r one more x f g y z =
        ap (λ (b : Bool). not b && leaves_c N w (into w q act_here.one) (into w q act_here.more) (i + 1) (children ws i)) (ne_eqb (kind_at ws i) Function h)
        ∙ sym (z ∙ ap (λ (s : Spot). leaves_c N w s more (i + 1) (rows_at ws (i + 1) x)) f ∙ ap (λ (s : Spot). leaves_c N w (into w q act_here.one) s (i + 1) (rows_at ws (i + 1) x)) g ∙ ap (λ (m : ℕ). leaves_c N w
        (into w q act_here.one) (into w q act_here.more) (i + 1) (rows_at ws (i + 1) m)) y)

  pub leaves_none : (N : Names) (w : Switches) (q q' : Spot) (i e : ℕ) → e ≤ i → false ≡ leaves_c N w q q' i (rows_at ws i e)
  unfolding leaves_c
  leaves_none N w q q' i e h = sym (ap (leaves_c N w q q' i) (rows_none ws i e h))

-- the walk of a list of siblings: what is left says what the whole says
pub record Leaving (N : Names) (w : Switches) (ws : List ℕ) (n : ℕ) (q₀ more : Spot) (from e i : ℕ) (q : Spot) : Type 0 where
  pub same : leaves_c N w q more i (rows_at ws i e) ≡ leaves_c N w q₀ more from (rows_at ws from e)
  pub range : Range ws n i e
  pub start : from ≤ i

module _ (ws : List ℕ) (n : ℕ) (good : Nested ws n) (i e : ℕ) (R : Range ws n i e) (lt : i < e) (x : ℕ) (y : x ≡ end_at ws i) where
  ahead : i < end_at ws i
  ahead = let h = R.within in good.ahead i (omega arith)

  -- the children, and what is left after them
  pub children-range : Range ws n (i + 1) x
  children-range = subst (Range ws n (i + 1)) (sym y) (let h = R.within in inner ws n good i (omega arith))

  pub children_fewer : (from t : ℕ) → from ≤ i → e - from ≡ t → x - (i + 1) < t
  children_fewer from t h m = let a = ahead in let c = R.closed i (omega arith) lt in omega arith

  pub later_fewer : e - x < e - i
  later_fewer = let a = ahead in omega arith

  pub leaving_next : (N : Names) (w : Switches) (q₀ more q : Spot) (from : ℕ) → Leaving N w ws n q₀ more from e i q
      → (eqb (kind_at ws i) Super && not (eqb q.slot dropped)) ≡ false
      → (not (eqb (kind_at ws i) Function) && leaves_c N w (into w q (act_here ws n good N w q more i e R lt).one) (into w q (act_here ws n good N w q more i e R lt).more) (i + 1) (children ws i)) ≡ false
      → Leaving N w ws n q₀ more from e x more
  leaving_next N w q₀ more q from L p h = record {
    same = ap (λ (m : ℕ). leaves_c N w more more m (rows_at ws m e)) y ∙ leaves_later ws n good N w q more i e R lt p h ∙ L.same;
    range = subst (λ (m : ℕ). Range ws n m e) (sym y) (later ws n good i e R lt);
    start = let a = ahead in let s = L.start in omega arith;
  }

-- by the values that the code has: a Super that stays, and a row that is gone down into
pub here_as : (k : ℕ) {s s' : ℕ} {t b : Bool} → t ≡ eqb k Super → b ≡ eqb s dropped → s ≡ s' → (eqb k Super && not (eqb s' dropped)) ≡ (t && not b)
here_as k p r q = rw (p, r, q) refl

pub no_function : (k f x : ℕ) {t : Bool} → t ≡ not (eqb k Function) → (t && ltb f x) ≡ true → k ≡ Function → ⊥
no_function k f x p h e = true≢false (sym (subst (λ (m : Bool). (m && ltb f x) ≡ true) (p ∙ ap (λ (m : ℕ). not (eqb m Function)) e) h))

-- what the walk of a Function's Params and Body says, by the places that the code has
pub leaves-from : (N : Names) (w : Switches) (ws : List ℕ) (i a : ℕ) {s p one more : Spot} {x : ℕ} {r m : Bool} → s ≡ p → m ≡ eqb s.slot of_method
    → one ≡ into w s (by (in_params i a m) free) → more ≡ into w s (by (in_body i a m) free) → x ≡ end_at ws i
    → r ≡ leaves_c N w one more (i + 1) (rows_at ws (i + 1) x)
    → r ≡ leaves_c N w (into w p (by (in_params i a (eqb p.slot of_method)) free)) (into w p (by (in_body i a (eqb p.slot of_method)) free)) (i + 1) (children ws i)
leaves-from N w ws i a {s} {p} {one} {more} {x} {r} {m} e t f g y h = h ∙ rw (f, g, y, t, e) refl
