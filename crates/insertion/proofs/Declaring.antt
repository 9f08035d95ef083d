-- The Declarators of a frame's Var, by its chains. Assumes nothing.
use mathlib.Core.Path.{◌≡◌, refl, ap, sym, subst, ◌∙◌}
use mathlib.Core.List.{List, [], ◌∷◌}
use Prim.Native.Nat.{ℕ, ◌+◌, ◌*◌, ◌-◌, ◌^◌, ◌<◌}
use mathlib.Core.Bool.{Bool, true, false, cond}
use native.Mathlib.Omega.{arith}
use borrow.Author.Tests.{eqb-true, eqb-false, ne_eqb}
use lib.Dec.{eqb}
use lib.ListN.{drop, get_or}
use Rattle.grammar.specs.Kinds.{Declarator}
use Rattle.forest.specs.Forest.{Rows, Rows.none, Rows.node, size}
use Rattle.steps.specs.Joining.{join}
use Rattle.steps.specs.Bindings.{Binding, Binding.bind}
use Rattle.steps.specs.TopInsertion.{head_n, tail_n, param_numbers, past_prop, past, accessor, accessor_decls}
use Rattle.output.specs.Output.{Done}
use Rattle.inserted.specs.Insertions.{accessor_of, accessor_decl}
use Rattle.output.proofs.Loops.{Left, all_left, turn, room_left, none_left}
use Rattle.inserted.proofs.Shapes.{accessor-heads}
use Rattle.bindings.specs.Search.{of_class}
use Rattle.bindings.specs.Store.{bind_at, binds, Store}
use Rattle.insertion.specs.Declarations.{Held, frame_accessors, param_after}
use Rattle.insertion.proofs.Links.{Link, from, Passes, link-first, all_from, here-from, link-next, rest_from, link-less}

-- numbers of params, and Declarators of accessors, pass over all other bindings
numbers_pass : (f : ℕ) → Passes (param_numbers f) [] (of_class true f)
unfolding param_numbers
numbers_pass f = record { end = λ c. refl; over = over }
  where
    over : (c : ℕ) (b : Binding) (bs : List Binding) → of_class true f b ≡ false → param_numbers f c (b ∷ bs) ≡ param_numbers f (c + 1) bs
    over c (bind u x f') bs e = unfold of_class param_numbers in rw e

-- the Declarators of the accessors, where the params ps are left
abbrev pub Decls : (f : ℕ) (ps : List ℕ) → ℕ → List Binding → Rows
Decls f ps c bs = accessor_decls f c ps bs none

decls_pass : (f : ℕ) (ps : List ℕ) → Passes (Decls f ps) none (of_class false f)
unfolding accessor_decls
decls_pass f ps = record { end = λ c. refl; over = over }
  where
    over : (c : ℕ) (b : Binding) (bs : List Binding) → of_class false f b ≡ false → Decls f ps c (b ∷ bs) ≡ Decls f ps (c + 1) bs
    over c (bind u x f') bs e = unfold of_class accessor_decls in rw e

-- one of them
numbers_here : (f c u x f' : ℕ) (bs : List Binding) → of_class true f (bind u x f') ≡ true → param_numbers f c (bind u x f' ∷ bs) ≡ c ∷ param_numbers f (c + 1) bs
unfolding of_class param_numbers
numbers_here f c u x f' bs e = rw e

decls_here : (f : ℕ) (ps : List ℕ) (c u x f' : ℕ) (bs : List Binding) → of_class false f (bind u x f') ≡ true → Decls f ps c (bind u x f' ∷ bs) ≡ node Declarator 1 c (accessor u x ps) (Decls f (past u x ps) (c + 1) bs)
unfolding of_class accessor_decls
decls_here f ps c u x f' bs e = rw e

-- heads and tails
head-none : head_n [] ≡ 0
unfolding head_n
head-none = refl

head-some : (p : ℕ) (ps : List ℕ) → head_n (p ∷ ps) ≡ p
unfolding head_n
head-some p ps = refl

tail_none : tail_n [] ≡ []
unfolding tail_n
tail_none = refl

tail-some : (p : ℕ) (ps : List ℕ) → tail_n (p ∷ ps) ≡ ps
unfolding tail_n
tail-some p ps = refl

module _ (M : List ℕ) (cap count : ℕ) (f : ℕ) where
  abbrev bs : List Binding
  bs = binds M cap count

  -- the numbers of the params from p on
  abbrev pub numbers_from : ℕ → List ℕ
  numbers_from p = from (param_numbers f) [] bs p

  -- the Declarators of the accessors from b on, where the params from p on are left
  abbrev pub decls_from : ℕ → ℕ → Rows
  decls_from b p = from (Decls f (numbers_from p)) none bs b

  module _ (S : Store M cap count) where
    -- the param p, and those behind it
    module _ (p : ℕ) (L : Link M cap count true f p) where
      numbers-next : (p ≡ 0 → ⊥) → (p₁ : ℕ) → p₁ ≡ get_or M (3 * cap + p) 0 → numbers_from p ≡ p ∷ numbers_from p₁
      numbers-next some p₁ q =
          here-from M cap count S true f p L some (param_numbers f) []
          ∙ numbers_here f p (get_or M p 0) (get_or M (cap + p) 0) (get_or M (2 * cap + p) 0) (drop p bs) (L.class (ne_eqb p 0 some))
          ∙ ap (λ (l : List ℕ). p ∷ l) (rest_from M cap count S true f p L some p₁ q (param_numbers f) [] (numbers_pass f))

      head-from : head_n (numbers_from p) ≡ p
      head-from = go (eqb p 0) refl
        where
          go : (y : Bool) → eqb p 0 ≡ y → head_n (numbers_from p) ≡ p
          go true z = ap (λ (y : Bool). head_n (cond y [] (param_numbers f p (drop (p - 1) bs)))) z ∙ head-none ∙ sym (eqb-true p 0 z)
          go false z = ap head_n (numbers-next (eqb-false p 0 z) (get_or M (3 * cap + p) 0) refl) ∙ head-some p _

      -- the param behind p, where p is taken
      module _ (taken : Bool) (p₁ : ℕ) (q : p₁ ≡ param_after M cap p taken) where
        pub numbers_after : cond taken (tail_n (numbers_from p)) (numbers_from p) ≡ numbers_from p₁
        numbers_after = go taken (eqb p 0) refl refl
          where
            go : (t y : Bool) → taken ≡ t → eqb p 0 ≡ y → cond t (tail_n (numbers_from p)) (numbers_from p) ≡ numbers_from p₁
            go false y h z = ap numbers_from (sym (q ∙ ap (param_after M cap p) h))
            go true true h z =
                let e : p₁ ≡ 0 = q ∙ ap (param_after M cap p) h ∙ ap (λ (w : Bool). cond w 0 (get_or M (3 * cap + p) 0)) z in
                ap (λ (y : Bool). tail_n (cond y [] (param_numbers f p (drop (p - 1) bs)))) z ∙ tail_none ∙ sym (ap numbers_from e)
            go true false h z =
                let e : p₁ ≡ get_or M (3 * cap + p) 0 = q ∙ ap (param_after M cap p) h ∙ ap (λ (w : Bool). cond w 0 (get_or M (3 * cap + p) 0)) z in
                ap tail_n (numbers-next (eqb-false p 0 z) p₁ e) ∙ tail-some p (numbers_from p₁)

        pub link-after : Link M cap count true f p₁
        link-after = go taken (eqb p 0) refl refl
          where
            go : (t y : Bool) → taken ≡ t → eqb p 0 ≡ y → Link M cap count true f p₁
            go false y h z = subst (Link M cap count true f) (sym (q ∙ ap (param_after M cap p) h)) L
            go true true h z =
                let e : p₁ ≡ 0 = q ∙ ap (param_after M cap p) h ∙ ap (λ (w : Bool). cond w 0 (get_or M (3 * cap + p) 0)) z in
                subst (Link M cap count true f) (eqb-true p 0 z ∙ sym e) L
            go true false h z =
                let e : p₁ ≡ get_or M (3 * cap + p) 0 = q ∙ ap (param_after M cap p) h ∙ ap (λ (w : Bool). cond w 0 (get_or M (3 * cap + p) 0)) z in
                link-next M cap count S true f p L (eqb-false p 0 z) p₁ e

    -- all of them
    pub decls-all : f < cap → (b p : ℕ) → b ≡ get_or M (6 * cap + f) 0 → p ≡ get_or M (8 * cap + f) 0 → frame_accessors M cap count f none ≡ decls_from b p
    decls-all h b p qb qp =
        ap (λ (ps : List ℕ). Decls f ps 1 bs) (all_from M cap count S true f h p qp (param_numbers f) [] (numbers_pass f))
        ∙ all_from M cap count S false f h b qb (Decls f (numbers_from p)) none (decls_pass f (numbers_from p))

    -- accessor b, of use u and property x: v is the param after its prop, p₁ the one after its value
    module _ (b p : ℕ) (B : Link M cap count false f b) (P : Link M cap count true f p) (some : b ≡ 0 → ⊥)
        (u x : ℕ) (qu : u ≡ get_or M b 0) (qx : x ≡ get_or M (cap + b) 0) (v : ℕ) (qv : v ≡ param_after M cap p (eqb x 0)) where
      link-value : Link M cap count true f v
      link-value = link-after p P (eqb x 0) v qv

      past-prop : past_prop x (numbers_from p) ≡ numbers_from v
      past-prop = numbers_after p P (eqb x 0) v qv

      its-accessor : accessor u x (numbers_from p) ≡ accessor_of u x p v
      its-accessor =
          accessor-heads u x (numbers_from p)
          ∙ ap (λ (n : ℕ). accessor_of u x n (head_n (past_prop x (numbers_from p)))) (head-from p P)
          ∙ ap (accessor_of u x p) (ap head_n past-prop ∙ head-from v link-value)

      its-class : of_class false f (bind u x (get_or M (2 * cap + b) 0)) ≡ true
      its-class = rw (qu, qx) (B.class (ne_eqb b 0 some))

      module _ (b₁ p₁ : ℕ) (qb : b₁ ≡ get_or M (3 * cap + b) 0) (qp : p₁ ≡ param_after M cap v (eqb u 4)) where
        its-past : past u x (numbers_from p) ≡ numbers_from p₁
        its-past = ap (λ (l : List ℕ). cond (eqb u 4) (tail_n l) l) past-prop ∙ numbers_after v link-value (eqb u 4) p₁ qp

        its-bind : bind_at M cap b ≡ bind u x (get_or M (2 * cap + b) 0)
        its-bind = rw (qu, qx)

        decls-step : decls_from b p ≡ node Declarator 1 b (accessor_of u x p v) (decls_from b₁ p₁)
        decls-step =
            here-from M cap count S false f b B some (Decls f (numbers_from p)) none
            ∙ ap (λ (r : Binding). Decls f (numbers_from p) b (r ∷ drop b bs)) its-bind
            ∙ decls_here f (numbers_from p) b u x (get_or M (2 * cap + b) 0) (drop b bs) its-class
            ∙ ap (λ (r : Rows). node Declarator 1 b r (Decls f (past u x (numbers_from p)) (b + 1) (drop b bs))) its-accessor
            ∙ ap (λ (l : List ℕ). node Declarator 1 b (accessor_of u x p v) (Decls f l (b + 1) (drop b bs))) its-past
            ∙ ap (node Declarator 1 b (accessor_of u x p v)) (rest_from M cap count S false f b B some b₁ qb (Decls f (numbers_from p₁)) none (decls_pass f (numbers_from p₁)))

        pub decls-next : decls_from b p ≡ join (accessor_decl b u x p v) (decls_from b₁ p₁)
        unfolding join
        decls-next = decls-step

-- The loop over the accessors of frame f, at accessor b and param p (0: none is left): what was written, and what is left, is all.
pub record Going (before : List ℕ) (at : ℕ) (M : List ℕ) (cap count f : ℕ) (out : List ℕ) (w b p : ℕ) : Type 0 where
  pub left : Left before at (frame_accessors M cap count f none) out w (decls_from M cap count f b p)
  pub accessors : Link M cap count false f b
  pub params : Link M cap count true f p

module _ {before : List ℕ} {at : ℕ} {M : List ℕ} {cap count f : ℕ} (H : Held M cap count f) where
  pub going_start : {b p : ℕ} → b ≡ get_or M (6 * cap + f) 0 → p ≡ get_or M (8 * cap + f) 0 → Going before at M cap count f before at b p
  going_start {b} {p} qb qp = record {
    left = subst (Left before at (frame_accessors M cap count f none) before at) (decls-all M cap count f H.store H.frame_low b p qb qp) (all_left before at (frame_accessors M cap count f none));
    accessors = link-first M cap count H.store false f H.frame_low b qb;
    params = link-first M cap count H.store true f H.frame_low p qp;
  }

  module _ {out : List ℕ} {w b p : ℕ} (G : Going before at M cap count f out w b p) where
    pub going_done : b ≡ 0 → Done before at (frame_accessors M cap count f none) w out
    going_done z = none_left G.left (ap (λ (n : ℕ). decls_from M cap count f n p) z)

    -- accessor b and param p are in the array
    pub going-low : (b < cap) × (p < cap)
    going-low =
        let r = H.store.room in
        let k = G.accessors.low in
        let l = G.params.low in
        (omega arith, omega arith)

    -- and the next of the chain is behind it
    pub going_less : {b₁ : ℕ} → (b ≡ 0 → ⊥) → b₁ ≡ get_or M (3 * cap + b) 0 → cond (eqb b₁ 0) 0 (count + 1 - b₁) < cond (eqb b 0) 0 (count + 1 - b)
    going_less {b₁} some qb = link-less M cap count H.store false f b G.accessors some b₁ qb

    -- accessor b, of use u and property x; v is the number of its value, if it has one
    module _ (some : b ≡ 0 → ⊥) {u x v : ℕ} (qu : u ≡ get_or M b 0) (qx : x ≡ get_or M (cap + b) 0) (qv : v ≡ param_after M cap p (eqb x 0)) where
      value-link : Link M cap count true f v
      value-link = link-after M cap count f H.store p G.params (eqb x 0) v qv

      pub going-value : v < cap
      going-value = let r = H.store.room in let l = value-link.low in omega arith

      -- room for its Declarator
      pub going-room : at + size (frame_accessors M cap count f none) < 2 ^ 32 → w + size (accessor_decl b u x p v) < 2 ^ 32
      going-room h =
          let rest = decls_from M cap count f (get_or M (3 * cap + b) 0) (param_after M cap v (eqb u 4)) in
          let k = room_left (accessor_decl b u x p v) rest G.left (decls-next M cap count f H.store b p G.accessors G.params some u x qu qx v qv (get_or M (3 * cap + b) 0) (param_after M cap v (eqb u 4)) refl refl) h in
          omega arith

      pub going_next : {b₁ p₁ w₁ : ℕ} {out₁ : List ℕ} → b₁ ≡ get_or M (3 * cap + b) 0 → p₁ ≡ param_after M cap v (eqb u 4) → Done out w (accessor_decl b u x p v) w₁ out₁ → Going before at M cap count f out₁ w₁ b₁ p₁
      going_next {b₁} {p₁} {w₁} {out₁} qb qp d = record {
        left = turn G.left (decls-next M cap count f H.store b p G.accessors G.params some u x qu qx v qv b₁ p₁ qb qp) d;
        accessors = link-next M cap count H.store false f b G.accessors some b₁ qb;
        params = link-after M cap count f H.store v value-link (eqb u 4) p₁ qp;
      }
