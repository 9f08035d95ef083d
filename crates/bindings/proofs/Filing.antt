-- The buckets of accessors: what keeps them, and an accessor more. Assumes nothing.
use mathlib.Core.Path.{◌≡◌, refl, ap, sym, subst, ◌∙◌}
use mathlib.Core.List.{List, [], ◌∷◌, ◌++◌}
use Prim.Native.Nat.{ℕ, ◌+◌, ◌-◌, ◌*◌, ◌<◌, ◌≤◌}
use mathlib.Core.Bool.{Bool, true, false, cond, ◌&&◌, ◌||◌}
use native.Mathlib.Omega.{arith}
use borrow.Author.Tests.{eqb-true, ne_eqb, eq-eqb}
use lib.Dec.{eqb}
use lib.ListN.{length, drop, get_or, set, length-set, length-drop, get_or-append}
use lib.Seq.{get_or-set_same, get_or-set_other, get_or-append-add, get_or-drop, drop-set-lt, drop-set-add}
use Rattle.std.proofs.lemmas.List.{set-append_left, set-append_right}
use Rattle.steps.specs.Bindings.{Binding, Binding.bind, params_of, closed}
use Rattle.names.proofs.Bools.{and_right}
use Rattle.buckets.specs.Search.{last_where, first_where}
use Rattle.bindings.specs.Search.{capture_of, is_accessor, of_class, note_capture, one_param}
use Rattle.bindings.specs.Store.{bind_at, binds, Bare, Store, first_table, last_table, link_table, pushed, chained}
use Rattle.bindings.specs.Post.{Kept}
use Rattle.bindings.specs.Filed.{behind, bucket_of, in_bucket, Filed}
use Rattle.buckets.proofs.Filing.{Outside, filed_none}
use Rattle.buckets.proofs.Filing as buckets
use Rattle.bindings.proofs.Arrays.{binds-length, same-binds}
use Rattle.bindings.proofs.Storing.{first_range, last-range}
use Rattle.bindings.proofs.Closing.{AllParams, all_append, one_params}

-- what is written into the ten tables leaves what stands behind them
pub pushed-behind : (M : List ℕ) (cap b u x f : ℕ) → b < cap → behind cap (pushed M cap b u x f) ≡ behind cap M
pushed-behind M cap b u x f h =
    drop-set-lt (10 * cap) (set (set M b u) (cap + b) x) (2 * cap + b) f (omega arith)
    ∙ drop-set-lt (10 * cap) (set M b u) (cap + b) x (omega arith) ∙ drop-set-lt (10 * cap) M b u (omega arith)

pub captured-behind : (M : List ℕ) (cap b u f t : ℕ) → b < cap → t < 10 * cap → behind cap (set (pushed M cap b u 0 f) t b) ≡ behind cap M
captured-behind M cap b u f t h k = drop-set-lt (10 * cap) (pushed M cap b u 0 f) t b k ∙ pushed-behind M cap b u 0 f h

link_in : (param : Bool) (cap f l : ℕ) → f < cap → l < cap → link_table param cap f l < 10 * cap
link_in param cap f l h k = go (eqb l 0)
  where
    go : (t : Bool) → cond t (first_table param cap f) (3 * cap + l) < 10 * cap
    go true = (first_range param cap f h).1
    go false = omega arith

pub chained-behind : (M : List ℕ) (cap : ℕ) (param : Bool) (f b : ℕ) → f < cap → get_or M (last_table param cap f) 0 < cap → behind cap (chained M cap param f b) ≡ behind cap M
chained-behind M cap param f b h k =
    let l : ℕ = get_or M (last_table param cap f) 0 in
    drop-set-lt (10 * cap) (set M (link_table param cap f l) b) (last_table param cap f) b (last-range param cap f h).1
    ∙ drop-set-lt (10 * cap) M (link_table param cap f l) b (link_in param cap f l h k)

-- an accessor put into its bucket: the ten tables are as they were, and behind them two words are stored
pub filed_behind : (M : List ℕ) (cap h b v : ℕ) → behind cap (set (set M (10 * cap + (cap + b)) v) (10 * cap + h) b) ≡ set (set (behind cap M) (cap + b) v) h b
filed_behind M cap h b v =
    drop-set-add (10 * cap) (set M (10 * cap + (cap + b)) v) h b ∙ ap (λ (l : List ℕ). set l h b) (drop-set-add (10 * cap) M (cap + b) v)

pub filed_before : (M : List ℕ) (cap h b v j : ℕ) → j < 10 * cap → get_or (set (set M (10 * cap + (cap + b)) v) (10 * cap + h) b) j 0 ≡ get_or M j 0
filed_before M cap h b v j l =
    get_or-set_other (set M (10 * cap + (cap + b)) v) (10 * cap + h) j b 0 (λ q. omega arith) ∙ get_or-set_other M (10 * cap + (cap + b)) j v 0 (λ q. omega arith)

-- `file`: the array is the ten tables A, and the two tables L and B behind them
module _ (A L B : List ℕ) (cap h b : ℕ) (long : length A ≡ 10 * cap) (size : length L ≡ cap) (low : h < cap) where
  set_before : (v : ℕ) → set (A ++ (L ++ B)) (10 * cap + (cap + b)) v ≡ A ++ (L ++ set B b v)
  set_before v =
      let i : 10 * cap + (cap + b) - 10 * cap ≡ cap + b = omega arith in
      let j : cap + b - cap ≡ b = omega arith in
      set-append_right A (L ++ B) (10 * cap) (10 * cap + (cap + b)) v long (omega arith)
      ∙ ap (λ (m : ℕ). A ++ set (L ++ B) m v) i ∙ ap (λ (l : List ℕ). A ++ l) (set-append_right L B cap (cap + b) v size (omega arith) ∙ ap (λ (m : ℕ). L ++ set B m v) j)

  set_last : (B₁ : List ℕ) → set (A ++ (L ++ B₁)) (10 * cap + h) b ≡ A ++ (set L h b ++ B₁)
  set_last B₁ =
      let i : 10 * cap + h - 10 * cap ≡ h = omega arith in
      set-append_right A (L ++ B₁) (10 * cap) (10 * cap + h) b long (omega arith)
      ∙ ap (λ (m : ℕ). A ++ set (L ++ B₁) m b) i ∙ ap (λ (l : List ℕ). A ++ l) (set-append_left L B₁ h b (omega (arith, size)))

  pub filed_parts : {M D L' B' : List ℕ} → M ≡ A ++ D → D ≡ L ++ B → L' ≡ set L h b → B' ≡ set B b (get_or L h 0)
      → A ++ (L' ++ B') ≡ set (set M (10 * cap + (cap + b)) (get_or M (10 * cap + h) 0)) (10 * cap + h) b
  filed_parts {M} {D} {L'} {B'} qm qd ql qb =
      let q : M ≡ A ++ (L ++ B) = qm ∙ ap (λ (l : List ℕ). A ++ l) qd in
      let i : length A + h ≡ 10 * cap + h = omega (arith, long) in
      let g : get_or (A ++ (L ++ B)) (10 * cap + h) 0 ≡ get_or L h 0 =
      sym (ap (λ (m : ℕ). get_or (A ++ (L ++ B)) m 0) i) ∙ get_or-append-add A (L ++ B) h 0 ∙ get_or-append L B 0 h (omega (arith, size)) in
      rw (ql, qb, q, g, set_before (get_or L h 0), set_last (set B b (get_or L h 0)))

-- bindings that are no accessors are in no bucket
outside : (names text : List ℕ) (cap : ℕ) (ps : List Binding) → AllParams ps → Outside (in_bucket names text cap) ps
unfolding in_bucket
outside names text cap [] a = tt
outside names text cap (bind u x f ∷ ps) a = ((λ h. rw a.0), outside names text cap ps a.1)

-- so they change none
pub filed_more : {names text I : List ℕ} {cap : ℕ} {bs : List Binding} (ps : List Binding) → AllParams ps → Filed names text I cap bs → Filed names text I cap (bs ++ ps)
filed_more {names} {text} {I} {cap} ps a F = record { tables = buckets.filed_more F.tables ps (outside names text cap ps a) }

-- a capture is no accessor
low_use : (u : ℕ) → u ≤ 2 → is_accessor u ≡ false
low_use u l = rw (ne_eqb u 3 (λ z. omega arith), ne_eqb u 4 (λ z. omega arith))

pub filed_capture : {names text I : List ℕ} {cap : ℕ} {bs : List Binding} (u f : ℕ) → u ≤ 2 → Filed names text I cap bs → Filed names text I cap (note_capture u f bs)
unfolding note_capture
filed_capture {names} {text} {I} {cap} {bs} u f l F = go (eqb (first_where (capture_of u f) 1 bs) 0)
  where
    go : (t : Bool) → Filed names text I cap (cond t (bs ++ (bind u 0 f ∷ [])) bs)
    go true = filed_more (bind u 0 f ∷ []) (low_use u l, tt) F
    go false = F

-- nor are the parameters of accessors
params_quiet : (f : ℕ) (bs : List Binding) → AllParams (params_of f bs)
unfolding params_of
params_quiet f [] = tt
params_quiet f (bind u x f' ∷ bs) = go (eqb f' f && (eqb u 3 || eqb u 4)) (params_quiet f bs)
  where
    go : (t : Bool) → AllParams (params_of f bs) → AllParams (cond t (one_param (eqb x 0) 5 f ++ (one_param (eqb u 4) 6 f ++ params_of f bs)) (params_of f bs))
    go true a = all_append (one_param (eqb x 0) 5 f) (one_param (eqb u 4) 6 f ++ params_of f bs) (one_params (eqb x 0) 5 f refl) (all_append (one_param (eqb u 4) 6 f) (params_of f bs) (one_params (eqb u 4) 6 f refl) a)
    go false a = a

pub filed_closed : {names text I : List ℕ} {cap : ℕ} {bs : List Binding} (y : Bool) (f : ℕ) → Filed names text I cap bs → Filed names text I cap (closed y f bs)
unfolding closed
filed_closed {bs = bs} true f F = filed_more (params_of f bs) (params_quiet f bs) F
filed_closed false f F = F

-- one accessor more, in its bucket
module _ {names text I : List ℕ} {cap : ℕ} {bs : List Binding} (F : Filed names text I cap bs) (u f x : ℕ) (acc : is_accessor u ≡ true) (h b : ℕ) (at : h ≡ bucket_of names text cap u f x) (hl : h < cap) (bl : b < cap)
    (long : length I ≡ 2 * cap) (count : length bs + 1 ≡ b) where
  abbrev v : ℕ
  v = get_or I h 0

  abbrev I₁ : List ℕ
  I₁ = set I (cap + b) v

  abbrev r : Binding
  r = bind u x f

  long₁ : length I₁ ≡ 2 * cap
  long₁ = length-set I (cap + b) v ∙ long

  mine : in_bucket names text cap h r ≡ true
  unfolding in_bucket
  mine = rw acc (eq-eqb (bucket_of names text cap u f x) h (sym at))

  its : (g : ℕ) → in_bucket names text cap g r ≡ true → h ≡ g
  unfolding in_bucket
  its g e = at ∙ eqb-true (bucket_of names text cap u f x) g (and_right (is_accessor u) (eqb (bucket_of names text cap u f x) g) e)

  others : (g : ℕ) → g < cap → (h ≡ g → ⊥) → get_or (set I₁ h b) g 0 ≡ get_or I g 0
  others g l n = get_or-set_other I₁ h g b 0 (λ e. n (sym e)) ∙ get_or-set_other I (cap + b) g v 0 (λ e. omega arith)

  link : get_or (set I₁ h b) (cap + b) 0 ≡ get_or I h 0
  link = get_or-set_other I₁ h (cap + b) b 0 (λ z. omega arith) ∙ get_or-set_same I (cap + b) v 0 (omega (arith, long))

  old : (j : ℕ) → j ≤ length bs → get_or (set I₁ h b) (cap + j) 0 ≡ get_or I (cap + j) 0
  old j l = get_or-set_other I₁ h (cap + j) b 0 (λ z. omega arith) ∙ get_or-set_other I (cap + b) (cap + j) v 0 (λ z. omega (arith, count))

  pub filed_new : Filed names text (set I₁ h b) cap (bs ++ (r ∷ []))
  filed_new = record {
    tables = buckets.filed_new F.tables r h b count hl mine its (λ g. get_or (set I₁ h b) g 0) (λ j. get_or (set I₁ h b) (cap + j) 0) (get_or-set_same I₁ h b 0 (omega (arith, long₁))) others link old;
  }

-- tables of zeros hold no accessor
pub none_filed : (names text I : List ℕ) (cap : ℕ) → ((i : ℕ) → get_or I i 0 ≡ 0) → Filed names text I cap []
none_filed names text I cap z = record { tables = filed_none (λ h l. z h) }

-- the store says nothing of what stands behind its ten tables
module _ (M M' : List ℕ) (cap count : ℕ) (S : Store M cap count) (long : length M' ≡ 12 * cap) (same : (j : ℕ) → j < 10 * cap → get_or M' j 0 ≡ get_or M j 0) where
  pub binds_agrees : binds M' cap count ≡ binds M cap count
  binds_agrees = let l = S.room in same-binds M M' cap count l (λ j h. same j (omega arith))

  bind_agrees : (b : ℕ) → b < cap → bind_at M' cap b ≡ bind_at M cap b
  bind_agrees b h = rw (same b (omega arith), same (cap + b) (omega arith), same (2 * cap + b) (omega arith))

  pub store_agrees : Store M' cap count
  store_agrees = record {
    long = long;
    room = S.room;
    bare = subst Bare (sym binds_agrees) S.bare;
    this = λ f h. same (4 * cap + f) (omega arith) ∙ S.this f h ∙ sym (ap (first_where (capture_of 1 f) 1) binds_agrees);
    arguments = λ f h. same (5 * cap + f) (omega arith) ∙ S.arguments f h ∙ sym (ap (first_where (capture_of 2 f) 1) binds_agrees);
    firsts = λ param f h. same (first_table param cap f) (first_range param cap f h).1 ∙ S.firsts param f h ∙ sym (ap (first_where (of_class param f) 1) binds_agrees);
    lasts = λ param f h. same (last_table param cap f) (last-range param cap f h).1 ∙ S.lasts param f h ∙ sym (ap (last_where (of_class param f) 1) binds_agrees);
    nexts = λ param f b o l e.
        let k = S.room in
        same (3 * cap + b) (omega arith) ∙ S.nexts param f b o l (sym (ap (of_class param f) (bind_agrees b (omega arith))) ∙ e)
        ∙ sym (ap (λ (bs : List Binding). first_where (of_class param f) (b + 1) (drop b bs)) binds_agrees);
    fresh = λ b o h. same (3 * cap + b) (omega arith) ∙ S.fresh b o h;
  }

-- `Frame::note_super` where there was none: the array M has one accessor more as M₁, and it is put into its bucket as M₂
module _ (names text M : List ℕ) (cap count : ℕ) (F : Filed names text (behind cap M) cap (binds M cap count)) (u f x : ℕ) (acc : is_accessor u ≡ true) (M₁ : List ℕ) (b : ℕ)
    (K : Kept M₁ cap (binds M cap count ++ (bind u x f ∷ [])) b) (tail : behind cap M₁ ≡ behind cap M) (new : b ≡ count + 1) (h : ℕ) (at : h ≡ bucket_of names text cap u f x) (hl : h < cap)
    (M₂ : List ℕ) (stored : M₂ ≡ set (set M₁ (10 * cap + (cap + b)) (get_or M₁ (10 * cap + h) 0)) (10 * cap + h) b) (bs : List Binding) (noted : bs ≡ binds M cap count ++ (bind u x f ∷ [])) where
  at_ten : (j : ℕ) → j < 10 * cap → get_or M₂ j 0 ≡ get_or M₁ j 0
  at_ten j l = ap (λ (l : List ℕ). get_or l j 0) stored ∙ filed_before M₁ cap h b (get_or M₁ (10 * cap + h) 0) j l

  long₂ : length M₂ ≡ 12 * cap
  long₂ = ap length stored ∙ length-set (set M₁ (10 * cap + (cap + b)) (get_or M₁ (10 * cap + h) 0)) (10 * cap + h) b ∙ length-set M₁ (10 * cap + (cap + b)) (get_or M₁ (10 * cap + h) 0) ∙ K.store.long

  pub super_kept : Kept M₂ cap bs b
  super_kept = record { store = store_agrees M₁ M₂ cap b K.store long₂ at_ten; list = binds_agrees M₁ M₂ cap b K.store long₂ at_ten ∙ K.list ∙ sym noted }

  behind_now : behind cap M₂ ≡ set (set (behind cap M) (cap + b) (get_or (behind cap M) h 0)) h b
  behind_now =
      ap (behind cap) stored ∙ filed_behind M₁ cap h b (get_or M₁ (10 * cap + h) 0)
      ∙ ap (λ (v : ℕ). set (set (behind cap M₁) (cap + b) v) h b) (sym (get_or-drop (10 * cap) M₁ h 0))
      ∙ ap (λ (l : List ℕ). set (set l (cap + b) (get_or l h 0)) h b) tail

  long-behind : length (behind cap M) ≡ 2 * cap
  long-behind = ap length (sym tail) ∙ length-drop (10 * cap) M₁ ∙ (let l = K.store.long in omega arith)

  super_filed : Filed names text (behind cap M₂) cap bs
  super_filed =
      let r = K.store.room in
      subst (λ (l : List Binding). Filed names text (behind cap M₂) cap l) (sym noted)
      (subst (λ (l : List ℕ). Filed names text l cap (binds M cap count ++ (bind u x f ∷ []))) (sym behind_now)
      (filed_new F u f x acc h b at hl (omega arith) long-behind (omega (arith, new, binds-length M cap 1 count))))

  pub super_files : Filed names text (behind cap M₂) cap (binds M₂ cap b)
  super_files = subst (Filed names text (behind cap M₂) cap) (sym super_kept.list) super_filed
