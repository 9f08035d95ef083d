-- The parameters of a frame's accessors, by its chain. Assumes nothing.
use mathlib.Core.Path.{◌≡◌, refl, ap, sym, subst, ◌∙◌}
use mathlib.Core.List.{List, [], ◌∷◌, ◌++◌, append-nil, append_assoc}
use Prim.Native.Nat.{ℕ, suc, ◌+◌, ◌*◌, ◌-◌, ◌<◌, ◌≤◌}
use mathlib.Core.Bool.{Bool, true, false, cond, ◌&&◌, ◌||◌, and-false}
use native.Mathlib.Omega.{arith}
use borrow.Author.Tests.{eqb-true, ne_eqb}
use lib.Dec.{eqb}
use lib.ListN.{length, drop, get_or, length-append, length-drop, get_or-append}
use lib.Seq.{drop-cons, drop-drop, drop-append-le, get_or-drop}
use Rattle.steps.specs.Bindings.{Binding, Binding.bind, params_of}
use Rattle.buckets.specs.Search.{first_where}
use Rattle.bindings.specs.Search.{is_accessor, of_class, one_param, params_for}
use Rattle.bindings.specs.Store.{bind_at, binds, Store}
use Rattle.bindings.specs.Post.{Kept, Asked, Room}
use Rattle.buckets.proofs.Searches.{first-low, first-high, first_holds}
use Rattle.bindings.proofs.Arrays.{binds-length, binds-at}

-- what is left from the accessor n on, of a list counted from c
abbrev pub rest_at : (f c : ℕ) (bs : List Binding) (n : ℕ) → List Binding
rest_at f c bs n = cond (eqb n 0) [] (params_of f (drop (n - c) bs))

acc_class : (f u x f' : ℕ) → of_class false f (bind u x f') ≡ (eqb f' f && (eqb u 3 || eqb u 4))
unfolding of_class
acc_class f u x f' = refl

-- one binding further on
rest_past : (f c n : ℕ) (b : Binding) (bs : List Binding) → (eqb n 0 ≡ false → c + 1 ≤ n) → rest_at f (c + 1) bs n ≡ rest_at f c (b ∷ bs) n
rest_past f c n b bs h = go (eqb n 0) refl
  where
    go : (y : Bool) → eqb n 0 ≡ y → cond y [] (params_of f (drop (n - (c + 1)) bs)) ≡ cond y [] (params_of f (drop (n - c) (b ∷ bs)))
    go true q = refl
    go false q = let k = h q in let s : n - c ≡ suc (n - (c + 1)) = omega arith in rw s

-- nothing before the first accessor of the frame counts
first_cases : (f c u x f' : ℕ) (bs : List Binding) → 1 ≤ c → (t : Bool) → (eqb f' f && (eqb u 3 || eqb u 4)) ≡ t → params_of f bs ≡ rest_at f (c + 1) bs (first_where (of_class false f) (c + 1) bs)
    → cond t (cond (eqb x 0) (bind 5 0 f ∷ []) [] ++ (cond (eqb u 4) (bind 6 0 f ∷ []) [] ++ params_of f bs)) (params_of f bs) ≡ rest_at f c (bind u x f' ∷ bs) (cond t c (first_where (of_class false f) (c + 1) bs))
unfolding params_of
first_cases f c u x f' bs l true q ih =
    let z : c - c ≡ 0 = omega arith in
    let nz : eqb c 0 ≡ false = ne_eqb c 0 (λ w. omega arith) in
    rw (nz, z, q)
first_cases f c u x f' bs l false q ih = ih ∙ rest_past f c (first_where (of_class false f) (c + 1) bs) (bind u x f') bs (first-low (of_class false f) (c + 1) bs)

pub params_first : (f c : ℕ) (bs : List Binding) → 1 ≤ c → params_of f bs ≡ rest_at f c bs (first_where (of_class false f) c bs)
unfolding params_of first_where
params_first f c [] l = refl
params_first f c (bind u x f' ∷ bs) l = rw (acc_class f u x f') (first_cases f c u x f' bs l (eqb f' f && (eqb u 3 || eqb u 4)) refl (params_first f (c + 1) bs (omega arith)))

-- an accessor of the frame, and what is behind it
pub params_here : (f : ℕ) (bs : List Binding) (u x f' : ℕ) → of_class false f (bind u x f') ≡ true → params_of f (bind u x f' ∷ bs) ≡ params_for u x f ++ params_of f bs
unfolding params_of
params_here f bs u x f' e = rw (sym (acc_class f u x f') ∙ e) (sym (append_assoc (one_param (eqb x 0) 5 f) (one_param (eqb u 4) 6 f) (params_of f bs)))

-- parameters are no accessors
abbrev pub AllParams : List Binding → Type 0
AllParams [] = Unit {0}
AllParams (bind u x f ∷ bs) = (is_accessor u ≡ false) × AllParams bs

no_class : (f u x f' : ℕ) → is_accessor u ≡ false → of_class false f (bind u x f') ≡ false
unfolding of_class
no_class f u x f' e = rw e (and-false (eqb f' f))

none_of_params : (f c : ℕ) (ps : List Binding) → AllParams ps → first_where (of_class false f) c ps ≡ 0
unfolding first_where
none_of_params f c [] h = refl
none_of_params f c (bind u x f' ∷ ps) h = rw (no_class f u x f' h.0) (none_of_params f (c + 1) ps h.1)

-- so they change no search for accessors
pub first_params : (f c : ℕ) (bs ps : List Binding) → AllParams ps → first_where (of_class false f) c (bs ++ ps) ≡ first_where (of_class false f) c bs
unfolding first_where
first_params f c [] ps h = none_of_params f c ps h
first_params f c (b ∷ bs) ps h = ap (λ (m : ℕ). cond (of_class false f b) c m) (first_params f (c + 1) bs ps h)

pub all_append : (ps qs : List Binding) → AllParams ps → AllParams qs → AllParams (ps ++ qs)
all_append [] qs h k = k
all_append (bind u x f ∷ ps) qs h k = (h.0, all_append ps qs h.1 k)

pub one_params : (t : Bool) (u f : ℕ) → is_accessor u ≡ false → AllParams (one_param t u f)
one_params true u f e = (e, tt)
one_params false u f e = tt

pub for_params : (u x f : ℕ) → AllParams (params_for u x f)
for_params u x f = all_append (one_param (eqb x 0) 5 f) (one_param (eqb u 4) 6 f) (one_params (eqb x 0) 5 f refl) (one_params (eqb u 4) 6 f refl)

-- The loop over the accessors of frame f, at accessor b (0: none is left): what was added, and what is left, is all.
pub record Closing (M₀ : List ℕ) (cap count₀ f : ℕ) (M : List ℕ) (count b : ℕ) : Type 0 where
  pub store : Store M cap count
  pub added : List Binding
  pub quiet : AllParams added
  pub grown : binds M cap count ≡ binds M₀ cap count₀ ++ added
  pub rest : added ++ rest_at f 1 (binds M₀ cap count₀) b ≡ params_of f (binds M₀ cap count₀)
  pub low : b ≤ count₀
  pub class : eqb b 0 ≡ false → of_class false f (get_or (binds M₀ cap count₀) (b - 1) (bind 0 0 0)) ≡ true

-- the same rest, counted from the front
rest_front : (f b n : ℕ) (bs : List Binding) → (eqb n 0 ≡ false → b + 1 ≤ n) → rest_at f (b + 1) (drop b bs) n ≡ rest_at f 1 bs n
rest_front f b n bs h = go (eqb n 0) refl
  where
    go : (y : Bool) → eqb n 0 ≡ y → cond y [] (params_of f (drop (n - (b + 1)) (drop b bs))) ≡ cond y [] (params_of f (drop (n - 1) bs))
    go true q = refl
    go false q = let k = h q in let s : b + (n - (b + 1)) ≡ n - 1 = omega arith in ap (params_of f) (drop-drop (n - (b + 1)) b bs ∙ ap (λ (m : ℕ). drop m bs) s)

module _ (M₀ : List ℕ) (cap count₀ f : ℕ) where
  pub closing_start : Store M₀ cap count₀ → f < cap → (b : ℕ) → b ≡ get_or M₀ (6 * cap + f) 0 → Closing M₀ cap count₀ f M₀ count₀ b
  closing_start S h b q =
      let e : b ≡ first_where (of_class false f) 1 (binds M₀ cap count₀) = q ∙ S.firsts false f h in
      record {
        store = S;
        added = [];
        quiet = tt;
        grown = sym (append-nil (binds M₀ cap count₀));
        rest = ap (rest_at f 1 (binds M₀ cap count₀)) e ∙ sym (params_first f 1 (binds M₀ cap count₀) (omega arith));
        low = go (eqb b 0) refl e;
        class = λ n. ap (λ (m : ℕ). of_class false f (get_or (binds M₀ cap count₀) (m - 1) (bind 0 0 0))) e ∙ first_holds (of_class false f) 1 (binds M₀ cap count₀) (bind 0 0 0) (sym (ap (λ (m : ℕ). eqb m 0) e) ∙ n);
      }
    where
      go : (y : Bool) → eqb b 0 ≡ y → b ≡ first_where (of_class false f) 1 (binds M₀ cap count₀) → b ≤ count₀
      go true z e = let k = eqb-true b 0 z in omega arith
      go false z e = let k = first-high (of_class false f) 1 (binds M₀ cap count₀) (sym (ap (λ (m : ℕ). eqb m 0) e) ∙ z) in omega (arith, binds-length M₀ cap 1 count₀)

  module _ (M : List ℕ) (count b : ℕ) (C : Closing M₀ cap count₀ f M count b) where
    abbrev bs₀ : List Binding
    bs₀ = binds M₀ cap count₀

    len₀ : length bs₀ ≡ count₀
    len₀ = binds-length M₀ cap 1 count₀

    pub closing-done : b ≡ 0 → binds M cap count ≡ bs₀ ++ params_of f bs₀
    closing-done z =
        let r : rest_at f 1 bs₀ b ≡ [] = ap (rest_at f 1 bs₀) z in
        C.grown ∙ ap (λ (l : List Binding). bs₀ ++ l) (sym (append-nil C.added) ∙ ap (λ (l : List Binding). C.added ++ l) (sym r) ∙ C.rest)

    module _ (some : b ≡ 0 → ⊥) where
      nz : eqb b 0 ≡ false
      nz = ne_eqb b 0 some

      -- binding b, as any array has it whose bindings begin with these
      pub bind-b : (X : List ℕ) (n : ℕ) (tail : List Binding) → binds X cap n ≡ bs₀ ++ tail → bind_at X cap b ≡ get_or bs₀ (b - 1) (bind 0 0 0)
      bind-b X n tail g =
          let lo = C.low in
          let q : 1 + (b - 1) ≡ b = omega arith in
          let ln : n ≡ length bs₀ + length tail = sym (binds-length X cap 1 n) ∙ ap length g ∙ length-append bs₀ tail in
          let l0 = len₀ in
          sym (binds-at X cap 1 n (b - 1) (bind 0 0 0) (omega arith) ∙ ap (bind_at X cap) q)
          ∙ ap (λ (l : List Binding). get_or l (b - 1) (bind 0 0 0)) g
          ∙ get_or-append bs₀ tail (bind 0 0 0) (b - 1) (omega arith)

      pub class-b : of_class false f (bind_at M cap b) ≡ true
      class-b = ap (of_class false f) (bind-b M count C.added C.grown) ∙ C.class nz

      abbrev u : ℕ
      u = get_or M b 0

      abbrev x : ℕ
      x = get_or M (cap + b) 0

      split : rest_at f 1 bs₀ b ≡ params_for u x f ++ params_of f (drop b bs₀)
      split =
          let lo = C.low in
          let l0 = len₀ in
          let s : suc (b - 1) ≡ b = omega arith in
          ap (λ (y : Bool). cond y [] (params_of f (drop (b - 1) bs₀))) nz
          ∙ ap (params_of f) (drop-cons bs₀ (b - 1) (bind 0 0 0) (omega arith) ∙ ap (λ (m : ℕ). get_or bs₀ (b - 1) (bind 0 0 0) ∷ drop m bs₀) s ∙ ap (λ (r : Binding). r ∷ drop b bs₀) (sym (bind-b M count C.added C.grown)))
          ∙ params_here f (drop b bs₀) u x (get_or M (2 * cap + b) 0) class-b

      -- room for its parameters
      pub closing-room : length (bs₀ ++ params_of f bs₀) < cap → length (binds M cap count ++ params_for u x f) < cap
      closing-room room =
          let a = C.added in
          let p = params_for u x f in
          let t = params_of f (drop b bs₀) in
          let r : a ++ (p ++ t) ≡ params_of f bs₀ = ap (λ (l : List Binding). a ++ l) (sym split) ∙ C.rest in
          omega (arith, ap length C.grown, length-append bs₀ a, length-append (binds M cap count) p, length-append bs₀ (params_of f bs₀), ap length r, length-append a (p ++ t), length-append p t)

      module _ (M₁ : List ℕ) (count₁ : ℕ) (S₁ : Store M₁ cap count₁) (now : binds M₁ cap count₁ ≡ binds M cap count ++ params_for u x f) (b₁ : ℕ) (q : b₁ ≡ get_or M₁ (3 * cap + b) 0) where
        abbrev more : List Binding
        more = C.added ++ params_for u x f

        all : binds M₁ cap count₁ ≡ bs₀ ++ more
        all = now ∙ ap (λ (l : List Binding). l ++ params_for u x f) C.grown ∙ append_assoc bs₀ C.added (params_for u x f)

        count_low : count₀ ≤ count₁
        count_low = omega (arith, binds-length M₁ cap 1 count₁, ap length all, length-append bs₀ more, len₀)

        next-is : b₁ ≡ first_where (of_class false f) (b + 1) (drop b bs₀)
        next-is =
            let lo = C.low in
            let cl = count_low in
            q ∙ S₁.nexts false f b (omega arith) (omega arith) (ap (of_class false f) (bind-b M₁ count₁ more all) ∙ C.class nz)
            ∙ ap (λ (l : List Binding). first_where (of_class false f) (b + 1) (drop b l)) all
            ∙ ap (first_where (of_class false f) (b + 1)) (drop-append-le b bs₀ more (omega (arith, len₀)))
            ∙ first_params f (b + 1) (drop b bs₀) more (all_append C.added (params_for u x f) C.quiet (for_params u x f))

        low₁ : eqb b₁ 0 ≡ false → (b + 1 ≤ b₁) × (b₁ ≤ count₀)
        low₁ n =
            let lo = C.low in
            let e = sym (ap (λ (m : ℕ). eqb m 0) next-is) ∙ n in
            let k = first-low (of_class false f) (b + 1) (drop b bs₀) e in
            let h = first-high (of_class false f) (b + 1) (drop b bs₀) e in
            let i = next-is in
            (omega arith, omega (arith, length-drop b bs₀, len₀))

        pub closing-next : Closing M₀ cap count₀ f M₁ count₁ b₁
        closing-next = record {
          store = S₁;
          added = more;
          quiet = all_append C.added (params_for u x f) C.quiet (for_params u x f);
          grown = all;
          rest =
              append_assoc C.added (params_for u x f) (rest_at f 1 bs₀ b₁)
              ∙ ap (λ (l : List Binding). C.added ++ (params_for u x f ++ l)) (sym (rest_front f b b₁ bs₀ (λ n. (low₁ n).0)) ∙ ap (rest_at f (b + 1) (drop b bs₀)) next-is ∙ sym (params_first f (b + 1) (drop b bs₀) (omega arith)))
              ∙ ap (λ (l : List Binding). C.added ++ l) (sym split) ∙ C.rest;
          low = go (eqb b₁ 0) refl;
          class = λ n.
              let k = low₁ n in
              let s : b + (b₁ - (b + 1)) ≡ b₁ - 1 = omega arith in
              let e = sym (ap (λ (m : ℕ). eqb m 0) next-is) ∙ n in
              sym (ap (of_class false f) (get_or-drop b bs₀ (b₁ - (b + 1)) (bind 0 0 0) ∙ ap (λ (m : ℕ). get_or bs₀ m (bind 0 0 0)) s))
              ∙ ap (λ (m : ℕ). of_class false f (get_or (drop b bs₀) (m - (b + 1)) (bind 0 0 0))) next-is
              ∙ first_holds (of_class false f) (b + 1) (drop b bs₀) (bind 0 0 0) e;
        }
          where
            go : (y : Bool) → eqb b₁ 0 ≡ y → b₁ ≤ count₀
            go true z = let k = eqb-true b₁ 0 z in omega arith
            go false z = (low₁ z).1

        -- the loop ends
        pub closing-less : cond (eqb b₁ 0) 0 (count₀ + 1 - b₁) < cond (eqb b 0) 0 (count₀ + 1 - b)
        closing-less = rw nz (go (eqb b₁ 0) refl)
          where
            go : (y : Bool) → eqb b₁ 0 ≡ y → cond y 0 (count₀ + 1 - b₁) < count₀ + 1 - b
            go true z = let lo = C.low in omega arith
            go false z = let k = low₁ z in let lo = C.low in omega arith

-- one parameter, where it is wanted
module _ (M : List ℕ) (cap count : ℕ) (t : Bool) (u f : ℕ) (A : Asked M cap f count (binds M cap count ++ one_param t u f)) where
  pub one-room : t ≡ true → Room M cap f count
  one-room q = record {
    store = A.store;
    row_low = A.row_low;
    cap_low = A.cap_low;
    more =
        let r : length (binds M cap count ++ one_param true u f) < cap = subst (λ (y : Bool). length (binds M cap count ++ one_param y u f) < cap) q A.room in
        omega (arith, length-append (binds M cap count) (bind u 0 f ∷ []), binds-length M cap 1 count);
  }

  pub one_kept : (M' : List ℕ) (r : ℕ) → t ≡ true → Kept M' cap (binds M cap count ++ (bind u 0 f ∷ [])) r → Kept M' cap (binds M cap count ++ one_param t u f) r
  one_kept M' r q k = subst (λ (y : Bool). Kept M' cap (binds M cap count ++ one_param y u f) r) (sym q) k

  pub one_none : t ≡ false → Kept M cap (binds M cap count ++ one_param t u f) count
  one_none q = subst (λ (y : Bool). Kept M cap (binds M cap count ++ one_param y u f) count) (sym q) (record { store = A.store; list = sym (append-nil (binds M cap count)) })

-- two of them
module _ (M : List ℕ) (cap count u x f : ℕ) (A : Asked M cap f count (binds M cap count ++ params_for u x f)) where
  pub two-first : Asked M cap f count (binds M cap count ++ one_param (eqb x 0) 5 f)
  two-first = record {
    store = A.store;
    row_low = A.row_low;
    cap_low = A.cap_low;
    room = let l = A.room in omega (arith, length-append (binds M cap count) (one_param (eqb x 0) 5 f), length-append (binds M cap count) (params_for u x f), length-append (one_param (eqb x 0) 5 f) (one_param (eqb u 4) 6 f));
  }

  module _ (M₁ : List ℕ) (count₁ : ℕ) (K : Kept M₁ cap (binds M cap count ++ one_param (eqb x 0) 5 f) count₁) where
    whole : binds M₁ cap count₁ ++ one_param (eqb u 4) 6 f ≡ binds M cap count ++ params_for u x f
    whole = ap (λ (l : List Binding). l ++ one_param (eqb u 4) 6 f) K.list ∙ append_assoc (binds M cap count) (one_param (eqb x 0) 5 f) (one_param (eqb u 4) 6 f)

    pub two-second : Asked M₁ cap f count₁ (binds M₁ cap count₁ ++ one_param (eqb u 4) 6 f)
    two-second = record { store = K.store; row_low = A.row_low; cap_low = A.cap_low; room = subst (λ (l : List Binding). length l < cap) (sym whole) A.room }

    pub two-kept : (M₂ : List ℕ) (count₂ : ℕ) → Kept M₂ cap (binds M₁ cap count₁ ++ one_param (eqb u 4) 6 f) count₂ → Kept M₂ cap (binds M cap count ++ params_for u x f) count₂
    two-kept M₂ count₂ k = record { store = k.store; list = k.list ∙ whole }
