-- An accessor, looked for along its bucket from the last to the first. Assumes nothing.
use mathlib.Core.Path.{◌≡◌, refl, ap, sym, ◌∙◌}
use mathlib.Core.List.{List, [], ◌∷◌, ◌++◌}
use Prim.Native.Nat.{ℕ, ◌+◌, ◌*◌, ◌-◌, ◌<◌, ◌≤◌}
use mathlib.Core.Bool.{Bool, true, false, cond, ◌&&◌, ◌||◌, true≢false}
use native.Mathlib.Omega.{arith}
use borrow.Author.Tests.{eqb-true, ne_eqb, eq-eqb}
use lib.Dec.{eqb}
use lib.ListN.{length, drop, get_or, length-append}
use lib.Seq.{get_or-drop}
use Rattle.names.specs.Names.{same_name}
use Rattle.spelling.proofs.Hashing.{same-bytes_of}
use Rattle.steps.specs.Bindings.{Binding, Binding.bind, is, number, note}
use Rattle.steps.specs.Naming.{Names, same_as}
use Rattle.steps.specs.Outcome.{names_of}
use Rattle.buckets.specs.Along.{members, Each, Last}
use Rattle.buckets.proofs.Walking.{each_member, last_member}
use Rattle.bindings.specs.Search.{is_accessor}
use Rattle.bindings.specs.Store.{bind_at, binds}
use Rattle.bindings.specs.Filed.{behind, bucket_of, in_bucket, Filed}
use Rattle.bindings.proofs.Numbered.{number_where}
use Rattle.bindings.proofs.Arrays.{binds-length, binds-at}

-- an accessor that is looked for is in its bucket
module _ (names text : List ℕ) (cap u f x : ℕ) (acc : is_accessor u ≡ true) where
  in_its : (u' x' f' : ℕ) → u' ≡ u → f' ≡ f → same_name names text x' x ≡ true → in_bucket names text cap (bucket_of names text cap u f x) (bind u' x' f') ≡ true
  unfolding in_bucket
  in_its u' x' f' qu qf s = rw (qu, qf, acc, same-bytes_of names text x' x s) (eq-eqb (bucket_of names text cap u f x) (bucket_of names text cap u f x) refl)

  pub out_of_it : (b : Binding) → in_bucket names text cap (bucket_of names text cap u f x) b ≡ false → is (names_of names text) u f x b ≡ false
  unfolding is same_as
  out_of_it (bind u' x' f') e = go (eqb u' u) (eqb f' f) (same_name names text x' x) refl refl refl
    where
      go : (s t y : Bool) → eqb u' u ≡ s → eqb f' f ≡ t → same_name names text x' x ≡ y → (s && t && y) ≡ false
      go false t y a b c = refl
      go true false y a b c = refl
      go true true false a b c = refl
      go true true true a b c = absurd (true≢false (sym (in_its u' x' f' (eqb-true u' u a) (eqb-true f' f b) c) ∙ e))

-- binding b, from 1, in the list
pub at-list : (M : List ℕ) (cap count b : ℕ) → (b ≡ 0 → ⊥) → b ≤ count → get_or (binds M cap count) (b - 1) (bind 0 0 0) ≡ bind_at M cap b
at-list M cap count b n l =
    let q : 1 + (b - 1) ≡ b = omega arith in
    binds-at M cap 1 count (b - 1) (bind 0 0 0) (omega arith) ∙ ap (bind_at M cap) q

-- `Frame::accessor`, over the two tables L and B that stand behind the ten, along its bucket h
module _ (names text M : List ℕ) (cap count u f x : ℕ) (F : Filed names text (behind cap M) cap (binds M cap count)) (h : ℕ) (at : h ≡ bucket_of names text cap u f x) (low : h < cap)
    (L B : List ℕ) (ql : L ≡ drop (10 * cap) M) (qb : B ≡ drop (11 * cap) M) where
  last_in : get_or L h 0 ≡ get_or (behind cap M) h 0
  last_in = ap (λ (l : List ℕ). get_or l h 0) ql

  before : (b : ℕ) → get_or B b 0 ≡ get_or (behind cap M) (cap + b) 0
  before b =
      let q : 11 * cap + b ≡ 10 * cap + (cap + b) = omega arith in
      ap (λ (l : List ℕ). get_or l b 0) qb ∙ get_or-drop (11 * cap) M b 0 ∙ ap (λ (m : ℕ). get_or M m 0) q ∙ sym (get_or-drop (10 * cap) M (cap + b) 0)

  -- the accessors of a bucket are among the bindings
  pub in_bucket_each : (P : ℕ → Type 0) → ((b : ℕ) → b ≤ count → get_or B b 0 < b → P b) → Each P (members L B h)
  in_bucket_each P p = each_member F.tables h low L B last_in before P (λ b n l k. p b (omega (arith, binds-length M cap 1 count)) k)

  -- what is found along the bucket is the number of the steps
  pub found_number : is_accessor u ≡ true → (Answers : ℕ → Bool → Type 0) → ((b : ℕ) (t : Bool) → b ≤ count → Answers b t → t ≡ is (names_of names text) u f x (bind_at M cap b))
      → (r : ℕ) → Last Answers (members L B h) 0 r → (r ≡ number (names_of names text) (binds M cap count) u f x) × (r ≤ count)
  unfolding number
  found_number acc Answers p r q =
      let k = last_member F.tables h low L B last_in before (is (names_of names text) u f x) (λ b z. out_of_it names text cap u f x acc b (ap (λ (m : ℕ). in_bucket names text cap m b) (sym at) ∙ z)) Answers
      (λ b t n l a. let i : b ≤ count = omega (arith, binds-length M cap 1 count) in
      p b t i a ∙ sym (ap (is (names_of names text) u f x) (at-list M cap count b (λ z. omega arith) i))) r q in
      (k.0 ∙ sym (number_where (names_of names text) u f x 1 (binds M cap count)), omega (arith, k.1, binds-length M cap 1 count))

-- "when first met": noted before, or not
pub note-some : (N : Names) (u f x : ℕ) (bs : List Binding) (m : ℕ) → m ≡ number N bs u f x → (m ≡ 0 → ⊥) → note N u f x bs ≡ bs
unfolding note
note-some N u f x bs m q n = ap (λ (y : Bool). cond y (bs ++ (bind u x f ∷ [])) bs) (ne_eqb (number N bs u f x) 0 (λ z. n (q ∙ z)))

pub note_new : (N : Names) (u f x : ℕ) (bs : List Binding) (m : ℕ) → m ≡ number N bs u f x → m ≡ 0 → note N u f x bs ≡ bs ++ (bind u x f ∷ [])
unfolding note
note_new N u f x bs m q z = ap (λ (y : Bool). cond y (bs ++ (bind u x f ∷ [])) bs) (eq-eqb (number N bs u f x) 0 (sym q ∙ z))

-- room for one more
pub one_more : (M : List ℕ) (cap count : ℕ) (r : Binding) → length (binds M cap count ++ (r ∷ [])) < cap → count + 1 < cap
one_more M cap count r h = omega (arith, length-append (binds M cap count) (r ∷ []), binds-length M cap 1 count)

-- what a binding is told by: its frame, its use, then its property
module _ (N : Names) (u f x u' x' f' : ℕ) where
  pub other_frame : (f' ≡ f → ⊥) → false ≡ is N u f x (bind u' x' f')
  unfolding is
  other_frame n = sym (rw (ne_eqb f' f n) (go (eqb u' u)))
    where
      go : (y : Bool) → (y && false && same_as N x' x) ≡ false
      go true = refl
      go false = refl

  pub other_use : (u' ≡ u → ⊥) → false ≡ is N u f x (bind u' x' f')
  unfolding is
  other_use n = sym (rw (ne_eqb u' u n))

  pub same_frame_use : f' ≡ f → u' ≡ u → same_as N x' x ≡ is N u f x (bind u' x' f')
  unfolding is
  same_frame_use e g = sym (rw (eq-eqb f' f e, eq-eqb u' u g))
