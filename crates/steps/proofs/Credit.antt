-- What a row may add to the list of bindings, and what pays for it. Assumes nothing.
use mathlib.Core.Path.{◌≡◌, refl, sym, subst}
use mathlib.Core.List.{List, [], ◌∷◌, ◌++◌}
use Prim.Native.Nat.{ℕ, ◌+◌, ◌≤◌}
use mathlib.Core.Bool.{Bool, true, false, cond, not, ◌&&◌, ◌||◌, false≢true}
use lib.Dec.{eqb, T, eqb→eq, eqb_refl}
use lib.ListN.{length, length-append}
use native.Mathlib.Omega.{arith}
use Rattle.steps.specs.Mode.{Switches, bit, async_only}
use Rattle.steps.specs.Naming.{Names, named_arguments}
use Rattle.steps.specs.Bindings.{Binding, Binding.bind, number, note, params_of, closed, meet, leave}
use Rattle.steps.specs.Acts.{Ctx, Op, Op.row, Op.drop, Op.name, Kind, Kind.this, Kind.super, Kind.ident, Kind.access, Kind.assign, Kind.arrow, Kind.function, Kind.keyed, Kind.field, Kind.static, Kind.target, Kind.other, kind_of, act_of}
use Rattle.steps.specs.Super.{first_name, first_inside, first_super, first_access}
use Rattle.steps.specs.ArrowToFunction.{to_function?}
use Rattle.steps.specs.Slots.{free, of_method, of_target, callee, dropped}
use Rattle.steps.proofs.Records.{Sound, AllSound}
use Rattle.forest.specs.Forest.{Rows, Rows.none, Rows.node}

-- The params that an accessor will have, and what frames of F still owe.
unfoldable pub due : ℕ → ℕ → ℕ
due u x = cond (eqb u 3 || eqb u 4) (cond (eqb x 0) 1 0 + cond (eqb u 4) 1 0) 0

unfoldable pub owed : (ℕ → Bool) → List Binding → ℕ
owed F [] = 0
owed F (bind u x f ∷ bs) = cond (F f) (due u x) 0 + owed F bs

abbrev pub phi : (ℕ → Bool) → List Binding → ℕ
phi F bs = length bs + owed F bs

abbrev pub with : ℕ → (ℕ → Bool) → ℕ → Bool
with o F f = eqb f o || F f

owed-append : (F : ℕ → Bool) (bs cs : List Binding) → owed F (bs ++ cs) ≡ owed F bs + owed F cs
unfolding owed
owed-append F [] cs = omega arith
owed-append F (bind u x f ∷ bs) cs = omega (arith, owed-append F bs cs)

cond-le : (x : Bool) (a : ℕ) → cond x a 0 ≤ a
cond-le true a = omega arith
cond-le false a = omega arith

note_cost : (N : Names) (F : ℕ → Bool) (u f x : ℕ) (bs : List Binding) → phi F (note N u f x bs) ≤ phi F bs + (1 + due u x)
unfolding note owed
note_cost N F u f x bs = go (eqb (number N bs u f x) 0)
  where
    go : (y : Bool) → phi F (cond y (bs ++ (bind u x f ∷ [])) bs) ≤ phi F bs + (1 + due u x)
    go true = omega (arith, owed-append F bs (bind u x f ∷ []), length-append bs (bind u x f ∷ []), cond-le (F f) (due u x))
    go false = omega arith

T_true : (b : Bool) → T b → b ≡ true
T_true true t = refl
T_true false t = absurd t

pub eqb_yes : (n : ℕ) → eqb n n ≡ true
eqb_yes n = T_true _ (eqb_refl n)

pub eqb-eq : (m n : ℕ) → eqb m n ≡ true → m ≡ n
eqb-eq m n e = eqb→eq m n (subst T (sym e) tt)

pub eqb_no : (m n : ℕ) → (m ≡ n → ⊥) → eqb m n ≡ false
eqb_no m n ne = go (eqb m n) refl
  where
    go : (b : Bool) → eqb m n ≡ b → b ≡ false
    go true e = absurd (ne (eqb-eq m n e))
    go false e = refl

-- Closing frame o pays what it owes.
pay_one : (o u x f : ℕ) (F : ℕ → Bool) (rest : List Binding) → F o ≡ false → (y : Bool) → eqb f o ≡ y → (z v t : Bool) →
    length (cond (y && z) (cond v (bind 5 0 o ∷ []) [] ++ (cond t (bind 6 0 o ∷ []) [] ++ rest)) rest) + cond (F f) (cond z (cond v 1 0 + cond t 1 0) 0) 0
    ≡ length rest + cond (y || F f) (cond z (cond v 1 0 + cond t 1 0) 0) 0
pay_one o u x f F rest h true e z v t = rw (eqb-eq f o e, h) (go z v t)
  where
    go : (z v t : Bool) → length (cond z (cond v (bind 5 0 o ∷ []) [] ++ (cond t (bind 6 0 o ∷ []) [] ++ rest)) rest) + 0 ≡ length rest + cond z (cond v 1 0 + cond t 1 0) 0
    go true true true = omega arith
    go true true false = omega arith
    go true false true = omega arith
    go true false false = omega arith
    go false v t = omega arith
pay_one o u x f F rest h false e z v t = refl

pay_params : (o : ℕ) (F : ℕ → Bool) → F o ≡ false → (bs : List Binding) → length (params_of o bs) + owed F bs ≡ owed (with o F) bs
unfolding params_of owed due
pay_params o F h [] = refl
pay_params o F h (bind u x f ∷ bs) =
    omega (arith, pay_params o F h bs, pay_one o u x f F (params_of o bs) h (eqb f o) refl (eqb u 3 || eqb u 4) (eqb x 0) (eqb u 4))

cond-zero : (x : Bool) → ◌≡◌ {A = ℕ} (cond x 0 0) 0
cond-zero true = refl
cond-zero false = refl

params_free : (o : ℕ) (F : ℕ → Bool) (bs : List Binding) → owed F (params_of o bs) ≡ 0
unfolding params_of owed due
params_free o F [] = refl
params_free o F (bind u x f ∷ bs) = go (params_free o F bs) (eqb f o && (eqb u 3 || eqb u 4)) (eqb x 0) (eqb u 4)
  where
    go : owed F (params_of o bs) ≡ 0 → (y v t : Bool) → owed F (cond y (cond v (bind 5 0 o ∷ []) [] ++ (cond t (bind 6 0 o ∷ []) [] ++ params_of o bs)) (params_of o bs)) ≡ 0
    go h true true true = omega (arith, cond-zero (F o))
    go h true true false = omega (arith, cond-zero (F o))
    go h true false true = omega (arith, cond-zero (F o))
    go h true false false = h
    go h false v t = h

pub close_pay : (o : ℕ) (F : ℕ → Bool) → F o ≡ false → (bs : List Binding) → phi F (closed true o bs) ≡ phi (with o F) bs
unfolding closed
close_pay o F h bs = omega (arith, length-append bs (params_of o bs), owed-append F bs (params_of o bs), params_free o F bs, pay_params o F h bs)

-- a frame at o that no record names yet owes nothing
pub fresh : (M o : ℕ) (F : ℕ → Bool) (bs : List Binding) → AllSound M o bs → owed (with o F) bs ≡ owed F bs
unfolding owed AllSound
fresh M o F [] h = refl
fresh M o F (bind u x f ∷ bs) h = let s : Sound M o u x f = h.0 in rw (eqb_no f o (λ e. omega arith), fresh M o F bs h.1)

-- What a row may cost. b: it is a Target's first child, so no access there is rewritten.
unfoldable pub own_of : Bool → Kind → Rows → ℕ
own_of b this i = 1
own_of b super i = 0
own_of b ident i = 1
own_of b access i = cond (not b && first_super i) 2 0
own_of b Kind.call i = cond (first_access i) 1 0
own_of b assign i = cond (first_access (first_inside i)) 3 0
own_of b arrow i = 0
own_of b function i = 0
own_of b keyed i = 0
own_of b field i = 0
own_of b static i = 0
own_of b target i = 0
own_of b other i = 0

unfoldable pub weight : Bool → Rows → ℕ
weight b none = 0
weight b (node k a n i s) = own_of b (kind_of k) i + weight (eqb k 28) i + weight false s

abbrev pub credit : ℕ → ℕ
credit sl = cond (eqb sl callee) 1 0

unfoldable pub meet_cost : Op → ℕ
meet_cost (row k a n) = 0
meet_cost drop = 0
meet_cost (name u f) = 1 + due u 0
meet_cost (Op.call u f x t) = 1 + due u x

unfoldable pub leave_cost : Op → ℕ
leave_cost (row k a n) = 0
leave_cost drop = 0
leave_cost (name u f) = 0
leave_cost (Op.call u f x t) = cond t 1 0

pub meet-cost : (N : Names) (F : ℕ → Bool) (x : Op) (bs : List Binding) → phi F (meet N x bs) ≤ phi F bs + meet_cost x
unfolding meet meet_cost
meet-cost N F (row k a n) bs = omega arith
meet-cost N F drop bs = omega arith
meet-cost N F (name u f) bs = note_cost N F u f 0 bs
meet-cost N F (Op.call u f x t) bs = note_cost N F u f x bs

pub leave-cost : (N : Names) (F : ℕ → Bool) (c : Ctx) (x : Op) (bs : List Binding) → phi F (leave N c x bs) ≤ phi F bs + leave_cost x
unfolding leave leave_cost due
leave-cost N F c (row k a n) bs = omega arith
leave-cost N F c drop bs = omega arith
leave-cost N F c (name u f) bs = omega arith
leave-cost N F c (Op.call u f x t) bs = go t c.takes_this
  where
    go : (t y : Bool) → phi F (cond (t && y) (note N 1 c.this_at 0 bs) bs) ≤ phi F bs + cond t 1 0
    go true true = note_cost N F 1 c.this_at 0 bs
    go true false = omega arith
    go false y = omega arith

abbrev pub Placed : Bool → ℕ → Type 0
Placed b sl = b ≡ true → (eqb sl of_target || eqb sl dropped) ≡ true

due_3 : (n : ℕ) → due 3 n ≤ 1
unfolding due
due_3 n = go (eqb n 0)
  where
    go : (z : Bool) → cond z 1 0 + 0 ≤ 1
    go true = omega arith
    go false = omega arith

due_4 : (n : ℕ) → due 4 n ≤ 2
unfolding due
due_4 n = go (eqb n 0)
  where
    go : (z : Bool) → cond z 1 0 + 1 ≤ 2
    go true = omega arith
    go false = omega arith

-- cost of an op with the credit that its first child is given
abbrev pub costs : Op → ℕ → ℕ
costs x sl = meet_cost x + leave_cost x + credit sl

access_cost : (f n k a : ℕ) (b ts fs ot dr ca : Bool) → (b ≡ true → (ot || dr) ≡ true) →
    costs (cond (ts && fs && not ot) (cond dr drop (Op.call 3 f n ca)) (row k a n)) (cond (ts && fs && not ot) dropped free) ≤ cond (not b && fs) 2 0 + cond ca 1 0
unfolding meet_cost leave_cost
access_cost f n k a b false fs ot dr ca h = omega arith
access_cost f n k a b true false ot dr ca h = omega arith
access_cost f n k a b true true true dr ca h = omega arith
access_cost f n k a b true true false true ca h = omega arith
access_cost f n k a true true true false false ca h = absurd (false≢true (h refl))
access_cost f n k a false true true false false ca h = omega (arith, due_3 n)

if_le : (f : Op → ℕ) (x : Bool) (s t : Op) (m : ℕ) → f s ≤ m → f t ≤ m → f (cond x s t) ≤ m
if_le f true s t m h k = h
if_le f false s t m h k = k

call_cost : (ts fa : Bool) (m : ℕ) → credit (cond (ts && fa) callee free) ≤ cond fa 1 0 + m
call_cost true true m = omega arith
call_cost true false m = omega arith
call_cost false fa m = omega arith

assign_cost : (ts fa : Bool) (f x k a n m : ℕ) → costs (cond (ts && fa) (Op.call 4 f x false) (row k a n)) (cond (ts && fa) dropped free) ≤ cond fa 3 0 + m
unfolding meet_cost leave_cost
assign_cost true true f x k a n m = omega (arith, due_4 x)
assign_cost true false f x k a n m = omega arith
assign_cost false fa f x k a n m = omega arith

pick-credit : (x : Bool) (s t m : ℕ) → credit s ≤ m → credit t ≤ m → credit (cond x s t) ≤ m
pick-credit true s t m h k = h
pick-credit false s t m h k = k

method_credit : (x y : Bool) → credit (cond x free (cond y of_method free)) ≡ 0
method_credit true y = refl
method_credit false true = refl
method_credit false false = refl

module _ (N : Names) (w : Switches) (l : Bool) (c : Ctx) (sl o k a n : ℕ) (i : Rows) where
  pub row_cost : (b : Bool) → Placed b sl → (K : Kind) → costs (act_of N w l c sl o K k a n i).op (act_of N w l c sl o K k a n i).one.slot ≤ own_of b K i + credit sl
  unfolding act_of own_of meet_cost leave_cost due
  row_cost b h this = if_le (λ (x : Op). meet_cost x + leave_cost x + 0) c.takes_this (name 1 c.this_at) (row k a n) _ (omega arith) (omega arith)
  row_cost b h super = if_le (λ (x : Op). meet_cost x + leave_cost x + 0) (eqb sl dropped) drop (row k a n) _ (omega arith) (omega arith)
  row_cost b h ident = if_le (λ (x : Op). meet_cost x + leave_cost x + 0) (async_only w && named_arguments N n && c.takes_arguments) (name 2 c.arguments_at) (row k a n) _ (omega arith) (omega arith)
  row_cost b h access = access_cost c.super_at n k a b c.takes_super (first_super i) (eqb sl of_target) (eqb sl dropped) (eqb sl callee) h
  row_cost b h Kind.call = omega (arith, call_cost c.takes_super (first_access i) (credit sl))
  row_cost b h assign = assign_cost c.takes_super (first_access (first_inside i)) c.super_at (first_name (first_inside i)) k a n (credit sl)
  row_cost b h arrow = if_le (λ (x : Op). meet_cost x + leave_cost x + 0) (to_function? w a) (row 17 0 0) (row k a n) _ (omega arith) (omega arith)
  row_cost b h function = omega arith
  row_cost b h keyed = omega (arith, method_credit (bit 1 a) (eqb k 21 || bit 2 a))
  row_cost b h field = omega arith
  row_cost b h static = omega arith
  row_cost b h target = target-cost (eqb sl dropped)
    where
      target-cost : (x : Bool) → costs (cond x drop (row k a n)) (cond x dropped of_target) ≤ 0 + credit sl
      target-cost true = omega arith
      target-cost false = omega arith
  row_cost b h other = omega arith
