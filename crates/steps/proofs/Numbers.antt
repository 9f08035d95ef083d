-- The numbers of captured `this` bindings. Assumes nothing.
use mathlib.Core.Path.{◌≡◌, refl, ap, ◌∙◌, sym}
use mathlib.Core.List.{List, [], ◌∷◌, ◌++◌, append-nil}
use Prim.Native.Nat.{ℕ, ◌+◌, ◌≤◌}
use mathlib.Core.Bool.{Bool, true, false, cond, not, ◌||◌, false≢true}
use lib.Dec.{eqb}
use native.Mathlib.Omega.{arith}
use Rattle.steps.specs.Naming.{Names, same_as}
use Rattle.steps.specs.Bindings.{Binding, Binding.bind, is, number_from, number, note, closes, params_of, closed}
use Rattle.steps.specs.Acts.{Ctx}
use Rattle.steps.specs.TopInsertion.{param_numbers, arguments_decl, this_decl, accessor_decls, var_first, frame_top}
use Rattle.steps.specs.Context.{Spot, collect_c}
use Rattle.steps.proofs.Credit.{eqb-eq, eqb_no, eqb_yes}
use Rattle.steps.proofs.Fewer.{and_no}
use Rattle.steps.specs.Owners.{Home, record_at, use_is1, captured_this, arrows_on}
use Rattle.steps.proofs.Walks.{Ready, ready_in, ready_on, collect_shape}
use Rattle.steps.proofs.Shape.{meet_e}
use Rattle.forest.specs.Forest.{Rows, Rows.none, Rows.node, size}
use Rattle.names.proofs.Bools.{and_left, and_right}

-- is `this` of frame f among the bindings
unfoldable pub has : Names → ℕ → List Binding → Bool
has N f [] = false
has N f (b ∷ bs) = is N 1 f 0 b || has N f bs

or_right : (x y : Bool) → y ≡ true → (x || y) ≡ true
or_right true y e = refl
or_right false y e = e

or_mono : (x y z : Bool) → (y ≡ true → z ≡ true) → (x || y) ≡ true → (x || z) ≡ true
or_mono true y z h e = refl
or_mono false y z h e = h e

pub has-append : (N : Names) (f : ℕ) (bs cs : List Binding) → has N f bs ≡ true → has N f (bs ++ cs) ≡ true
unfolding has
has-append N f [] cs e = absurd (false≢true e)
has-append N f (b ∷ bs) cs e = or_mono (is N 1 f 0 b) _ _ (has-append N f bs cs) e

pub has_last : (N : Names) → same_as N 0 0 ≡ true → (f : ℕ) (bs : List Binding) → has N f (bs ++ (bind 1 0 f ∷ [])) ≡ true
unfolding has is
has_last N z f [] = rw (eqb_yes f, z)
has_last N z f (b ∷ bs) = or_right (is N 1 f 0 b) _ (has_last N z f bs)

number_step : (x y : Bool) (c m : ℕ) → 1 ≤ c → eqb m 0 ≡ not y → eqb (cond x c m) 0 ≡ not (x || y)
number_step true y c m h e = eqb_no c 0 (λ z. omega arith)
number_step false y c m h e = e

pub number-has : (N : Names) (f c : ℕ) (bs : List Binding) → 1 ≤ c → eqb (number_from N 1 f 0 c bs) 0 ≡ not (has N f bs)
unfolding number_from has
number-has N f c [] h = refl
number-has N f c (b ∷ bs) h = number_step (is N 1 f 0 b) (has N f bs) c _ h (number-has N f (c + 1) bs (omega arith))

pub number_nonzero : (N : Names) (f : ℕ) (bs : List Binding) (x : Bool) → has N f bs ≡ x → eqb (number N bs 1 f 0) 0 ≡ not x
unfolding number
number_nonzero N f bs x e = rw (number-has N f 1 bs (omega arith), e)

low_step : (x y : Bool) (c m : ℕ) → (y ≡ true → c + 1 ≤ m) → (x || y) ≡ true → c ≤ cond x c m
low_step true y c m h e = omega arith
low_step false y c m h e = omega (arith, h e)

pub number-low : (N : Names) (f c : ℕ) (bs : List Binding) → has N f bs ≡ true → c ≤ number_from N 1 f 0 c bs
unfolding number_from has
number-low N f c [] e = absurd (false≢true e)
number-low N f c (b ∷ bs) e = low_step (is N 1 f 0 b) (has N f bs) c _ (number-low N f (c + 1) bs) e

rec_step : (N : Names) (f c : ℕ) (b : Binding) (bs : List Binding) (x y : Bool) (m : ℕ) → is N 1 f 0 b ≡ x → (y ≡ true → c + 1 ≤ m) →
    (y ≡ true → is N 1 f 0 (record_at (c + 1) bs m) ≡ true) → (x || y) ≡ true → is N 1 f 0 (record_at c (b ∷ bs) (cond x c m)) ≡ true
unfolding record_at
rec_step N f c b bs true y m ex lo ih e = rw eqb_yes ex
rec_step N f c b bs false y m ex lo ih e = rw (eqb_no c m (λ z. omega (arith, lo e))) (ih e)

pub rec_is : (N : Names) (f c : ℕ) (bs : List Binding) → has N f bs ≡ true → is N 1 f 0 (record_at c bs (number_from N 1 f 0 c bs)) ≡ true
unfolding number_from has
rec_is N f c [] e = absurd (false≢true e)
rec_is N f c (b ∷ bs) e = rec_step N f c b bs (is N 1 f 0 b) (has N f bs) _ refl (number-low N f (c + 1) bs) (rec_is N f (c + 1) bs) e

unfoldable pub frame_of : Binding → ℕ
frame_of (bind u x f) = f

is_use : (N : Names) (f : ℕ) (b : Binding) → is N 1 f 0 b ≡ true → use_is1 b ≡ true
unfolding is use_is1
is_use N f (bind u x f') e = and_left _ _ (and_left _ _ e)

is_frame : (N : Names) (f : ℕ) (b : Binding) → is N 1 f 0 b ≡ true → frame_of b ≡ f
unfolding is frame_of
is_frame N f (bind u x f') e = eqb-eq f' f (and_right (eqb u 1) _ (and_left _ _ e))

pub number_use : (N : Names) (f : ℕ) (bs : List Binding) → has N f bs ≡ true → captured_this bs (number N bs 1 f 0) ≡ true
unfolding captured_this number
number_use N f bs e = is_use N f _ (rec_is N f 1 bs e)

pub number_inj : (N : Names) (f g : ℕ) (bs : List Binding) → has N f bs ≡ true → has N g bs ≡ true → number N bs 1 f 0 ≡ number N bs 1 g 0 → f ≡ g
unfolding number
number_inj N f g bs e e' p =
    sym (is_frame N f _ (rec_is N f 1 bs e)) ∙ (ap (λ (m : ℕ). frame_of (record_at 1 bs m)) p ∙ is_frame N g _ (rec_is N g 1 bs e'))

-- with arrows on and the async switches off every binding is a captured this
unfoldable pub AllThis : List Binding → Type 0
AllThis [] = Unit {0}
AllThis (bind u x f ∷ bs) = (u ≡ 1) × AllThis bs

pub all_append : (bs cs : List Binding) → AllThis bs → AllThis cs → AllThis (bs ++ cs)
unfolding AllThis
all_append [] cs h k = k
all_append (bind u x f ∷ bs) cs h k = (h.0, all_append bs cs h.1 k)

no_arguments : (N : Names) (f x c : ℕ) (bs : List Binding) → AllThis bs → number_from N 2 f x c bs ≡ 0
unfolding AllThis number_from is
no_arguments N f x c [] h = refl
no_arguments N f x c (bind u x' f' ∷ bs) h = rw h.0 (no_arguments N f x (c + 1) bs h.1)

no_accessors : (f c : ℕ) (ps : List ℕ) (bs : List Binding) (t : Rows) → AllThis bs → accessor_decls f c ps bs t ≡ t
unfolding AllThis accessor_decls
no_accessors f c ps [] t h = refl
no_accessors f c ps (bind u x' f' ∷ bs) t h = rw (h.0, and_no (eqb f' f)) (no_accessors f (c + 1) ps bs t h.1)

no_params : (f : ℕ) (bs : List Binding) → AllThis bs → params_of f bs ≡ []
unfolding AllThis params_of
no_params f [] h = refl
no_params f (bind u x' f' ∷ bs) h = rw (h.0, and_no (eqb f' f)) (no_params f bs h.1)

pub closed_id : (y : Bool) (f : ℕ) (bs : List Binding) → AllThis bs → closed y f bs ≡ bs
unfolding closed
closed_id true f bs h = rw no_params (append-nil bs)
closed_id false f bs h = refl

pub top_shape : (N : Names) (bs : List Binding) → AllThis bs → (r : ℕ) (g : Bool) (I : Rows) →
    frame_top N bs r g false I ≡ var_first (this_decl (number N bs 1 r 0) false) I
unfolding frame_top number arguments_decl
top_shape N bs h r g I = rw (no_arguments N r 0 1 bs h, no_accessors r 1 (param_numbers r 1 bs) bs (this_decl (number_from N 1 r 0 1 bs) false) h)

note_all : (x : Bool) (f : ℕ) (bs : List Binding) → AllThis bs → AllThis (cond x (bs ++ (bind 1 0 f ∷ [])) bs)
note_all true f bs h = all_append bs _ h (unfold AllThis in (refl, tt))
note_all false f bs h = h

note_keeps : (N : Names) (x : Bool) (g f : ℕ) (bs : List Binding) → has N g bs ≡ true → has N g (cond x (bs ++ (bind 1 0 f ∷ [])) bs) ≡ true
note_keeps N true g f bs h = has-append N g bs _ h
note_keeps N false g f bs h = h

note_adds : (N : Names) → same_as N 0 0 ≡ true → (x : Bool) (f : ℕ) (bs : List Binding) → has N f bs ≡ x → has N f (cond (not x) (bs ++ (bind 1 0 f ∷ [])) bs) ≡ true
note_adds N z true f bs h = h
note_adds N z false f bs h = has_last N z f bs

pub note-has : (N : Names) → same_as N 0 0 ≡ true → (f : ℕ) (bs : List Binding) → has N f (note N 1 f 0 bs) ≡ true
unfolding note
note-has N z f bs = rw (number_nonzero N f bs (has N f bs) refl) (note_adds N z (has N f bs) f bs refl)

meet_all : (N : Names) (x : Bool) (f : ℕ) (bs : List Binding) → AllThis bs → AllThis (cond x (note N 1 f 0 bs) bs)
unfolding note
meet_all N true f bs h = note_all (eqb (number N bs 1 f 0) 0) f bs h
meet_all N false f bs h = h

meet_keeps : (N : Names) (x : Bool) (g f : ℕ) (bs : List Binding) → has N g bs ≡ true → has N g (cond x (note N 1 f 0 bs) bs) ≡ true
unfolding note
meet_keeps N true g f bs h = note_keeps N (eqb (number N bs 1 f 0) 0) g f bs h
meet_keeps N false g f bs h = h

meet_e_all : (N : Names) (c : Ctx) (k : ℕ) (bs : List Binding) → AllThis bs → AllThis (meet_e N c k bs)
unfolding meet_e
meet_e_all N c k bs h = go (eqb k 9)
  where
    go : (x : Bool) → AllThis (cond x (cond c.takes_this (note N 1 c.this_at 0 bs) bs) bs)
    go true = meet_all N c.takes_this c.this_at bs h
    go false = h

pub meet_e_keeps : (N : Names) (c : Ctx) (g k : ℕ) (bs : List Binding) → has N g bs ≡ true → has N g (meet_e N c k bs) ≡ true
unfolding meet_e
meet_e_keeps N c g k bs h = go (eqb k 9)
  where
    go : (x : Bool) → has N g (cond x (cond c.takes_this (note N 1 c.this_at 0 bs) bs) bs) ≡ true
    go true = meet_keeps N c.takes_this g c.this_at bs h
    go false = h

pub closed_keeps : (N : Names) (g : ℕ) (y : Bool) (f : ℕ) (bs : List Binding) → has N g bs ≡ true → has N g (closed y f bs) ≡ true
unfolding closed
closed_keeps N g true f bs h = has-append N g bs _ h
closed_keeps N g false f bs h = h

pub collect_all : (N : Names) (r : Rows) (h v : Home) (b : Bool) (q q' : Spot) (o : ℕ) → Ready h v b q q' r → (bs : List Binding) → AllThis bs → AllThis (collect_c N arrows_on q q' o r bs)
unfolding collect_c
collect_all N none h v b q q' o R bs A = A
collect_all N (node k a n i s) h v b q q' o R bs A =
    let A1 = collect_all N i _ _ _ _ _ (o + 1) (ready_in N h v b q q' o k a n i s R) (meet_e N q.ctx k bs) (meet_e_all N q.ctx k bs A) in
    rw (collect_shape N h v b q q' o k a n i s R bs, closed_id _ _ _ A1)
    (collect_all N s v v b q' q' (o + 1 + size i) (ready_on N h v b q q' o k a n i s R) _ A1)

pub collect_keeps : (N : Names) (g : ℕ) (r : Rows) (h v : Home) (b : Bool) (q q' : Spot) (o : ℕ) → Ready h v b q q' r → (bs : List Binding) → has N g bs ≡ true → has N g (collect_c N arrows_on q q' o r bs) ≡ true
unfolding collect_c
collect_keeps N g none h v b q q' o R bs A = A
collect_keeps N g (node k a n i s) h v b q q' o R bs A =
    rw (collect_shape N h v b q q' o k a n i s R bs)
    (collect_keeps N g s v v b q' q' (o + 1 + size i) (ready_on N h v b q q' o k a n i s R) _
    (closed_keeps N g (closes q.slot k) _ _
    (collect_keeps N g i _ _ _ _ _ (o + 1) (ready_in N h v b q q' o k a n i s R) (meet_e N q.ctx k bs) (meet_e_keeps N q.ctx g k bs A))))
