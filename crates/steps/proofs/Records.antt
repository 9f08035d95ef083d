-- The list of bindings only grows, and every record is in range. Assumes nothing.
use mathlib.Core.Path.{◌≡◌, refl, sym, subst}
use mathlib.Core.List.{List, [], ◌∷◌, ◌++◌, append_assoc, append-nil}
use Prim.Native.Nat.{ℕ, zero, suc, ◌+◌, ◌≤◌, ◌<◌}
use mathlib.Core.Bool.{Bool, true, false, cond, ◌&&◌, ◌||◌, true≢false, false≢true}
use lib.Dec.{eqb, eqb→eq, T}
use native.Mathlib.Omega.{arith}
use Rattle.steps.specs.Paths.{Step, Step.along, Step.in_params, Step.in_body, Step.in_arrow, Step.in_value, Step.in_static}
use Rattle.steps.specs.Mode.{Switches, bit, async_only}
use Rattle.steps.specs.Naming.{Names, named_arguments}
use Rattle.steps.specs.Bindings.{Binding, Binding.bind, number, note, closes, params_of, closed, meet, leave}
use Rattle.steps.specs.Acts.{Ctx, Act, Op, Op.row, Op.drop, Op.name, Kind, Kind.this, Kind.super, Kind.ident, Kind.access, Kind.assign, Kind.arrow}
use Rattle.steps.specs.Acts.{Kind.function, Kind.keyed, Kind.field, Kind.static, Kind.target, Kind.other, kind_of, reads?, sets?, act_of, act}
use Rattle.steps.specs.Super.{first_name, first_inside, first_super, first_access}
use Rattle.steps.specs.ArrowToFunction.{to_function?}
use Rattle.steps.specs.Slots.{callee, dropped}
use Rattle.steps.specs.Context.{enter, start, Spot, spot, into, act_c, late_c, collect_c, made_c}
use Rattle.forest.specs.Forest.{Rows, Rows.none, Rows.node, size}
use Rattle.names.proofs.Bools.{and_left, and_right, pick, cond-le}

-- The list only grows.
pub record Grows (bs ds : List Binding) : Type 0 where
  pub added : List Binding
  pub grown : ds ≡ bs ++ added

same : (bs : List Binding) → Grows bs bs
same bs = record { added = []; grown = sym (append-nil bs) }

more : (bs cs : List Binding) → Grows bs (bs ++ cs)
more bs cs = record { added = cs; grown = refl }

then : {bs cs ds : List Binding} → Grows bs cs → Grows cs ds → Grows bs ds
then {bs} g h = record { added = g.added ++ h.added; grown = rw (h.grown, g.grown) (append_assoc bs g.added h.added) }

maybe : (x : Bool) (bs cs : List Binding) → Grows bs cs → Grows bs (cond x cs bs)
maybe true bs cs g = g
maybe false bs cs g = same bs

note_grows : (N : Names) (u f x : ℕ) (bs : List Binding) → Grows bs (note N u f x bs)
unfolding note
note_grows N u f x bs = maybe (eqb (number N bs u f x) 0) bs (bs ++ (bind u x f ∷ [])) (more bs (bind u x f ∷ []))

pub meet_grows : (N : Names) (x : Op) (bs : List Binding) → Grows bs (meet N x bs)
unfolding meet
meet_grows N (row k a n) bs = same bs
meet_grows N drop bs = same bs
meet_grows N (name u f) bs = note_grows N u f 0 bs
meet_grows N (Op.call u f x t) bs = note_grows N u f x bs

pub leave_grows : (N : Names) (c : Ctx) (x : Op) (bs : List Binding) → Grows bs (leave N c x bs)
unfolding leave
leave_grows N c (row k a n) bs = same bs
leave_grows N c drop bs = same bs
leave_grows N c (name u f) bs = same bs
leave_grows N c (Op.call u f x t) bs = maybe (t && c.takes_this) bs (note N 1 c.this_at 0 bs) (note_grows N 1 c.this_at 0 bs)

pub closed_grows : (y : Bool) (f : ℕ) (bs : List Binding) → Grows bs (closed y f bs)
unfolding closed
closed_grows y f bs = maybe y bs (bs ++ params_of f bs) (more bs (params_of f bs))

pub collect_grows : (N : Names) (w : Switches) (r : Rows) (q q' : Spot) (o : ℕ) (bs : List Binding) → Grows bs (collect_c N w q q' o r bs)
unfolding collect_c
collect_grows N w none q q' o bs = same bs
collect_grows N w (node k a n i s) q q' o bs =
    then (meet_grows N _ bs) (then (collect_grows N w i _ _ (o + 1) _) (then (leave_grows N _ _ _) (then (closed_grows _ _ _) (collect_grows N w s q' q' (o + 1 + size i) _))))

-- What every record has: use, property and frame in range, no property but an accessor's.
pub record Sound (M m u x f : ℕ) : Type 0 where
  pub low : 1 ≤ u
  pub high : u ≤ 6
  pub property : x ≤ M
  pub frame : f < m
  pub bare : (eqb u 3 || eqb u 4) ≡ false → x ≡ 0

unfoldable pub AllSound : ℕ → ℕ → List Binding → Type 0
AllSound M m [] = Unit {0}
AllSound M m (bind u x f ∷ bs) = Sound M m u x f × AllSound M m bs

sound-append : (M m : ℕ) (bs cs : List Binding) → AllSound M m bs → AllSound M m cs → AllSound M m (bs ++ cs)
unfolding AllSound
sound-append M m [] cs h k = k
sound-append M m (bind u x f ∷ bs) cs h k = (h.0, sound-append M m bs cs h.1 k)

pub sound-up : (M m m' : ℕ) → m ≤ m' → (bs : List Binding) → AllSound M m bs → AllSound M m' bs
unfolding AllSound
sound-up M m m' l [] h = tt
sound-up M m m' l (bind u x f ∷ bs) h =
    let s = h.0 in (record { low = s.low; high = s.high; property = s.property; frame = omega arith; bare = s.bare }, sound-up M m m' l bs h.1)

sound-cond : (M m : ℕ) (x : Bool) (bs cs : List Binding) → AllSound M m bs → AllSound M m cs → AllSound M m (cond x bs cs)
sound-cond M m true bs cs h k = h
sound-cond M m false bs cs h k = k

one-sound : (M m u x f : ℕ) → Sound M m u x f → AllSound M m (bind u x f ∷ [])
unfolding AllSound
one-sound M m u x f s = (s, tt)

none-sound : (M m : ℕ) → AllSound M m []
unfolding AllSound
none-sound M m = tt

note-sound : (N : Names) (M m u f x : ℕ) → Sound M m u x f → (bs : List Binding) → AllSound M m bs → AllSound M m (note N u f x bs)
unfolding note
note-sound N M m u f x s bs h = sound-cond M m (eqb (number N bs u f x) 0) (bs ++ (bind u x f ∷ [])) bs (sound-append M m bs (bind u x f ∷ []) h (one-sound M m u x f s)) h

params_sound : (M m f : ℕ) → f < m → (bs : List Binding) → AllSound M m (params_of f bs)
unfolding params_of AllSound
params_sound M m f l [] = tt
params_sound M m f l (bind u x f' ∷ bs) =
    let p : Sound M m 5 0 f = record { low = omega arith; high = omega arith; property = omega arith; frame = l; bare = λ e. refl } in
    let v : Sound M m 6 0 f = record { low = omega arith; high = omega arith; property = omega arith; frame = l; bare = λ e. refl } in
    let ps : List Binding = cond (eqb x 0) (bind 5 0 f ∷ []) [] in
    let vs : List Binding = cond (eqb u 4) (bind 6 0 f ∷ []) [] in
    sound-cond M m (eqb f' f && (eqb u 3 || eqb u 4)) (ps ++ (vs ++ params_of f bs)) (params_of f bs)
    (sound-append M m ps (vs ++ params_of f bs) (sound-cond M m (eqb x 0) (bind 5 0 f ∷ []) [] (one-sound M m 5 0 f p) (none-sound M m))
    (sound-append M m vs (params_of f bs) (sound-cond M m (eqb u 4) (bind 6 0 f ∷ []) [] (one-sound M m 6 0 f v) (none-sound M m)) (params_sound M m f l bs)))
    (params_sound M m f l bs)

closed-sound : (M m : ℕ) (y : Bool) (f : ℕ) → f < m → (bs : List Binding) → AllSound M m bs → AllSound M m (closed y f bs)
unfolding closed
closed-sound M m y f l bs h = sound-cond M m y (bs ++ params_of f bs) bs (sound-append M m bs (params_of f bs) h (params_sound M m f l bs)) h

-- the frames known on the way down stand at or above row o
pub record Low (o : ℕ) (c : Ctx) : Type 0 where
  pub this : c.this_at ≤ o
  pub super : c.super_at ≤ o
  pub arguments : c.arguments_at ≤ o

low_up : (o o' : ℕ) (c : Ctx) → o ≤ o' → Low o c → Low o' c
low_up o o' c l h = record { this = omega arith; super = omega arith; arguments = omega arith }

unfoldable pub StepLow : ℕ → Step → Type 0
StepLow o along = Unit {0}
StepLow o (in_params r a m) = r ≤ o
StepLow o (in_body r a m) = r ≤ o
StepLow o (in_arrow a) = Unit {0}
StepLow o (in_value r) = Unit {0}
StepLow o (in_static r) = r ≤ o

pub enter-low : (w : Switches) (o : ℕ) (c : Ctx) → Low o c → (s : Step) → StepLow o s → Low o (enter w s c)
unfolding enter StepLow
enter-low w o c h along t = h
enter-low w o c h (in_params r a m) t = record { this = t; super = cond-le m _ _ o t h.super; arguments = t }
enter-low w o c h (in_body r a m) t = record { this = t; super = cond-le m _ _ o t h.super; arguments = t }
enter-low w o c h (in_arrow a) t = record { this = h.this; super = h.super; arguments = h.arguments }
enter-low w o c h (in_value r) t = record { this = h.this; super = h.super; arguments = h.arguments }
enter-low w o c h (in_static r) t = record { this = t; super = t; arguments = h.arguments }

-- what an op may be, at row o
unfoldable pub Sane : ℕ → ℕ → Op → Type 0
Sane M o (row k a n) = Unit {0}
Sane M o drop = Unit {0}
Sane M o (name u f) = (1 ≤ u) × (u ≤ 2) × (f ≤ o)
Sane M o (Op.call u f x t) = (3 ≤ u) × (u ≤ 4) × (f ≤ o) × (x ≤ M) × (t ≡ true → u ≡ 3)

-- the names of accesses, all that the rules hand on, are among the M names; Other and Opaque hold any number
unfoldable pub NamedRow : ℕ → Kind → ℕ → Type 0
NamedRow M this n = Unit {0}
NamedRow M super n = Unit {0}
NamedRow M ident n = Unit {0}
NamedRow M access n = n ≤ M
NamedRow M Kind.call n = Unit {0}
NamedRow M assign n = Unit {0}
NamedRow M arrow n = Unit {0}
NamedRow M function n = Unit {0}
NamedRow M keyed n = Unit {0}
NamedRow M field n = Unit {0}
NamedRow M static n = Unit {0}
NamedRow M target n = Unit {0}
NamedRow M other n = Unit {0}

unfoldable pub Named : ℕ → Rows → Type 0
Named M none = Unit {0}
Named M (node k a n i s) = NamedRow M (kind_of k) n × Named M i × Named M s

eqb_is : (k m : ℕ) → eqb k m ≡ true → k ≡ m
eqb_is k m e = eqb→eq k m (subst T (sym e) tt)

access_kind : (k : ℕ) (x : Bool) → eqb k 12 ≡ x → (eqb k 12 || eqb k 13) ≡ true → kind_of k ≡ access
unfolding kind_of
access_kind k true e h = let q : k ≡ 12 = eqb_is k 12 e in rw q
access_kind k false e h = let q : k ≡ 13 = eqb_is k 13 (rw e at h) in rw q

first-name : (M : ℕ) (r : Rows) → Named M r → first_access r ≡ true → first_name r ≤ M
unfolding Named first_name first_access NamedRow
first-name M none h e = omega arith
first-name M (node k a n i s) h e = subst (λ (K : Kind). NamedRow M K n) (access_kind k (eqb k 12) refl (and_left _ (first_super i) e)) h.0

pick_if : (P : Op → Type 0) (x : Bool) (s t : Op) → (x ≡ true → P s) → P t → P (cond x s t)
pick_if P true s t h k = h refl
pick_if P false s t h k = k

first-inside : (M : ℕ) (r : Rows) → Named M r → Named M (first_inside r)
unfolding Named first_inside
first-inside M none h = tt
first-inside M (node k a n i s) h = h.1

module _ (N : Names) (w : Switches) (l : Bool) (c : Ctx) (sl o k a n : ℕ) (i : Rows) where
  op_sane : (M : ℕ) → Low o c → Named M i → (K : Kind) → NamedRow M K n → Sane M o (act_of N w l c sl o K k a n i).op
  unfolding act_of Sane NamedRow
  op_sane M h z this e = pick (Sane M o) c.takes_this (name 1 c.this_at) (row k a n) (omega arith, omega arith, h.this) tt
  op_sane M h z super e = pick (Sane M o) (eqb sl dropped) drop (row k a n) tt tt
  op_sane M h z ident e = pick (Sane M o) (async_only w && named_arguments N n && c.takes_arguments) (name 2 c.arguments_at) (row k a n) (omega arith, omega arith, h.arguments) tt
  op_sane M h z access e =
      let got : Op = Op.call 3 c.super_at n (eqb sl callee) in
      pick (Sane M o) (reads? c sl i) (cond (eqb sl dropped) drop got) (row k a n) (pick (Sane M o) (eqb sl dropped) drop got tt (omega arith, omega arith, h.super, e, λ t. refl)) tt
  op_sane M h z Kind.call e = tt
  op_sane M h z assign e = pick_if (Sane M o) (sets? c i) (Op.call 4 c.super_at (first_name (first_inside i)) false) (row k a n) (λ y. (
    omega arith,
    omega arith,
    h.super,
    first-name M _ (first-inside M i z)
        (and_right c.takes_super _ y),
    λ t. absurd (false≢true t),
  )) tt
  op_sane M h z arrow e = pick (Sane M o) (to_function? w a) (row 17 0 0) (row k a n) tt tt
  op_sane M h z function e = tt
  op_sane M h z keyed e = tt
  op_sane M h z field e = tt
  op_sane M h z static e = tt
  op_sane M h z target e = pick (Sane M o) (eqb sl dropped) drop (row k a n) tt tt
  op_sane M h z other e = tt

  field_low : (x : Bool) → StepLow o (cond x along (in_value o))
  unfolding StepLow
  field_low true = tt
  field_low false = tt

  one-low : (K : Kind) → StepLow o (act_of N w l c sl o K k a n i).one.step
  unfolding act_of StepLow
  one-low this = tt
  one-low super = tt
  one-low ident = tt
  one-low access = tt
  one-low Kind.call = tt
  one-low assign = tt
  one-low arrow = tt
  one-low function = omega arith
  one-low keyed = tt
  one-low field = field_low (bit 1 a)
  one-low static = omega arith
  one-low target = tt
  one-low other = tt

  more-low : (K : Kind) → StepLow o (act_of N w l c sl o K k a n i).more.step
  unfolding act_of StepLow
  more-low this = tt
  more-low super = tt
  more-low ident = tt
  more-low access = tt
  more-low Kind.call = tt
  more-low assign = tt
  more-low arrow = tt
  more-low function = omega arith
  more-low keyed = tt
  more-low field = tt
  more-low static = omega arith
  more-low target = tt
  more-low other = tt

accessor : (u : ℕ) → 3 ≤ u → u ≤ 4 → (eqb u 3 || eqb u 4) ≡ false → ⊥
accessor zero a b e = omega arith
accessor (suc zero) a b e = omega arith
accessor (suc (suc zero)) a b e = omega arith
accessor (suc (suc (suc zero))) a b e = true≢false e
accessor (suc (suc (suc (suc zero)))) a b e = true≢false e
accessor (suc (suc (suc (suc (suc u))))) a b e = omega arith

meet-sound : (N : Names) (M o : ℕ) (x : Op) → Sane M o x → (bs : List Binding) → AllSound M (o + 1) bs → AllSound M (o + 1) (meet N x bs)
unfolding meet Sane
meet-sound N M o (row k a n) s bs h = h
meet-sound N M o drop s bs h = h
meet-sound N M o (name u f) s bs h = note-sound N M (o + 1) u f 0 (record { low = s.0; high = omega arith; property = omega arith; frame = omega arith; bare = λ e. refl }) bs h
meet-sound N M o (Op.call u f x t) s bs h =
    note-sound N M (o + 1) u f x (record { low = omega arith; high = omega arith; property = s.3; frame = omega arith; bare = λ e. absurd (accessor u s.0 s.1 e) }) bs h

leave-sound : (N : Names) (M m : ℕ) (c : Ctx) → c.this_at < m → (x : Op) (bs : List Binding) → AllSound M m bs → AllSound M m (leave N c x bs)
unfolding leave
leave-sound N M m c l (row k a n) bs h = h
leave-sound N M m c l drop bs h = h
leave-sound N M m c l (name u f) bs h = h
leave-sound N M m c l (Op.call u f x t) bs h =
    sound-cond M m (t && c.takes_this) (note N 1 c.this_at 0 bs) bs (note-sound N M m 1 c.this_at 0 (record { low = omega arith; high = omega arith; property = omega arith; frame = l; bare = λ e. refl }) bs h) h

pub collect-sound : (N : Names) (w : Switches) (M : ℕ) (r : Rows) (q q' : Spot) (o : ℕ) (bs : List Binding) → Low o q.ctx → Low o q'.ctx → Named M r → AllSound M o bs → AllSound M (o + size r) (collect_c N w q q' o r bs)
unfolding collect_c Named size
collect-sound N w M none q q' o bs L L' z h = sound-up M o (o + 0) (omega arith) bs h
collect-sound N w M (node k a n i s) q q' o bs L L' z h =
    let y : Bool = late_c N w q o k a i in
    let A : Act = act_c N w q o k a n i in
    let L₁ : Low o (enter w A.one.step q.ctx) = enter-low w o _ L _ (unfold act_c act in one-low N w y q.ctx q.slot o k a n i (kind_of k)) in
    let L₂ : Low o (enter w A.more.step q.ctx) = enter-low w o _ L _ (unfold act_c act in more-low N w y q.ctx q.slot o k a n i (kind_of k)) in
    let S : Sane M o A.op = unfold act_c act in op_sane N w y q.ctx q.slot o k a n i M L z.1 (kind_of k) z.0 in
    let h₁ = meet-sound N M o A.op S bs (sound-up M o (o + 1) (omega arith) bs h) in
    let h₂ = collect-sound N w M i (into w q A.one) (into w q A.more) (o + 1) _ (low_up o (o + 1) _ (omega arith) L₁) (low_up o (o + 1) _ (omega arith) L₂) z.1 h₁ in
    let h₃ = leave-sound N M (o + 1 + size i) q.ctx (omega arith) A.op _ h₂ in
    let h₄ = closed-sound M (o + 1 + size i) (closes q.slot k) (enter w A.more.step q.ctx).this_at (omega arith) _ h₃ in
    let e : o + 1 + size i + size s ≡ o + (1 + size i + size s) = omega arith in
    rw e at (collect-sound N w M s q' q' (o + 1 + size i) _ (low_up o _ _ (omega arith) L') (low_up o _ _ (omega arith) L') z.2 h₄)

-- every record that is made passes the tests of refusal 11
pub made-sound : (N : Names) (w : Switches) (M : ℕ) (t : Rows) → Named M t → AllSound M (size t) (made_c N w t)
unfolding made_c AllSound
made-sound N w M t z =
    let L : Low 0 start = record { this = omega arith; super = omega arith; arguments = omega arith } in
    let e : 0 + size t ≡ size t = omega arith in
    rw e at (collect-sound N w M t (spot start 0) (spot start 0) 0 [] L L z tt)

-- the same between a row's children and after them
module _ (N : Names) (w : Switches) (M : ℕ) (q : Spot) (o k a n : ℕ) (i : Rows) (bs : List Binding) (L : Low o q.ctx) (e : NamedRow M (kind_of k) n) (z : Named M i) (h : AllSound M o bs) where
  pub one_known : Low (o + 1) (enter w (act_c N w q o k a n i).one.step q.ctx)
  unfolding act_c act
  one_known = low_up o (o + 1) _ (omega arith) (enter-low w o _ L _ (one-low N w (late_c N w q o k a i) q.ctx q.slot o k a n i (kind_of k)))

  more-here : Low o (enter w (act_c N w q o k a n i).more.step q.ctx)
  unfolding act_c act
  more-here = enter-low w o _ L _ (more-low N w (late_c N w q o k a i) q.ctx q.slot o k a n i (kind_of k))

  pub more-known : Low (o + 1) (enter w (act_c N w q o k a n i).more.step q.ctx)
  more-known = low_up o (o + 1) _ (omega arith) more-here

  pub met_sound : AllSound M (o + 1) (meet N (act_c N w q o k a n i).op bs)
  unfolding act_c act
  met_sound = meet-sound N M o _ (op_sane N w (late_c N w q o k a i) q.ctx q.slot o k a n i M L z (kind_of k) e) bs (sound-up M o (o + 1) (omega arith) bs h)

  pub left_sound : AllSound M (o + 1 + size i)
      (closed (closes q.slot k) (enter w (act_c N w q o k a n i).more.step q.ctx).this_at
      (leave N q.ctx (act_c N w q o k a n i).op
      (collect_c N w (into w q (act_c N w q o k a n i).one) (into w q (act_c N w q o k a n i).more) (o + 1) i (meet N (act_c N w q o k a n i).op bs))))
  left_sound =
      closed-sound M (o + 1 + size i) (closes q.slot k) (enter w (act_c N w q o k a n i).more.step q.ctx).this_at (let m = more-here in omega arith) _
      (leave-sound N M (o + 1 + size i) q.ctx (omega arith) (act_c N w q o k a n i).op _
      (collect-sound N w M i (into w q (act_c N w q o k a n i).one) (into w q (act_c N w q o k a n i).more) (o + 1) _ one_known more-known z met_sound))
