-- What a row becomes keeps what is counted. Assumes nothing.
use mathlib.Core.Path.{◌≡◌, refl, ap, ap₂, ◌∙◌, sym}
use mathlib.Core.List.{List, [], ◌∷◌, ◌++◌, append-nil, append_assoc}
use Prim.Native.Nat.{ℕ, ◌+◌}
use mathlib.Core.Bool.{Bool, true, false, cond, true≢false}
use lib.Dec.{eqb}
use native.Mathlib.Omega.{arith}
use native.Mathlib.Nat.{add-zero}
use Rattle.steps.specs.Joining.{join}
use Rattle.steps.specs.Mode.{bit}
use Rattle.steps.specs.Naming.{Names}
use Rattle.steps.specs.Bindings.{Binding, number, closes}
use Rattle.steps.specs.Acts.{Ctx}
use Rattle.steps.specs.ArrowToFunction.{dress}
use Rattle.steps.specs.TopInsertion.{this_decl, var_first, top}
use Rattle.steps.specs.Slots.{late_body, wrapped}
use Rattle.steps.specs.Context.{Spot, emit_c}
use Rattle.steps.proofs.Credit.{eqb-eq, eqb_no, eqb_yes}
use Rattle.steps.specs.Owners.{ranked, count, own_one, own_more, here, omitted, reads, Init, Init.this_by, init_kind, init_of, decl_here, declared, arrow_here, arrows_of, Home, captured_this, arrows_on}
use Rattle.steps.proofs.Shape.{at, Usual, new_kind, new_attr}
use Rattle.steps.proofs.Walks.{Ready, ready_in, ready_on, one, more, row_e, inside_e, emit_shape}
use Rattle.steps.proofs.Numbers.{AllThis, top_shape, has, number_nonzero, number_use, number_inj}
use Rattle.forest.specs.Forest.{Rows, Rows.none, Rows.node, size}

abbrev wrap : Bool → (Rows → Rows) → Rows → Rows
wrap y t s = cond y (node 19 0 0 (node 4 0 0 (t none) none) s) (t s)

pub dress-count : (sl k a n : ℕ) (I t : Rows) → count (dress sl (node k a n I) t) ≡ ranked k + count I + count t
unfolding dress count ranked
dress-count sl k a n I t = go (eqb sl wrapped)
  where
    go : (y : Bool) → count (wrap y (node k a n I) t) ≡ ranked k + count I + count t
    go true = omega arith
    go false = refl

sum : (c x y : ℕ) → c + 0 + (0 + (x + y + 0) + 0) ≡ c + x + y
sum c x y = omega arith

pub dress_arrows : (t : ℕ → Bool) (c sl k a n : ℕ) (I s : Rows) → arrows_of t c (dress sl (node k a n I) s) ≡ arrow_here t c k a ++ (arrows_of t (c + ranked k) I ++ arrows_of t (c + ranked k + count I) s)
unfolding dress arrows_of count ranked arrow_here
dress_arrows t c sl k a n I s = go (eqb sl wrapped)
  where
    go : (y : Bool) → arrows_of t c (wrap y (node k a n I) s) ≡ arrow_here t c k a ++ (arrows_of t (c + ranked k) I ++ arrows_of t (c + ranked k + count I) s)
    go true = rw sum (simp (add-zero, append-nil, append_assoc))
    go false = refl

pub dress-reads : (md : ℕ → Bool) (w v c sl k a n : ℕ) (I s : Rows) → reads md w v c (dress sl (node k a n I) s) ≡ here md w k a n ++ (cond (omitted md k a n I) [] (reads md (own_one k a w c) (own_more k a w c)
    (c + ranked k) I) ++ reads md v v (c + ranked k + count I) s)
unfolding dress reads count ranked here omitted own_one own_more
dress-reads md w v c sl k a n I s = go (eqb sl wrapped)
  where
    go : (y : Bool) → reads md w v c (wrap y (node k a n I) s) ≡ here md w k a n ++ (cond (omitted md k a n I) [] (reads md (own_one k a w c) (own_more k a w c) (c + ranked k) I) ++ reads md v v (c + ranked k + count I) s)
    go true = rw sum (simp (add-zero, append-nil, append_assoc))
    go false = refl

pub dress-declared : (b w v c sl k a n : ℕ) (I s : Rows) → declared b w v c (dress sl (node k a n I) s) ≡ decl_here b w k a n I ++ (declared b (own_one k a w c) (own_more k a w c) (c + ranked k) I ++ declared b v v (c + ranked k + count I) s)
unfolding dress declared count ranked decl_here own_one own_more
dress-declared b w v c sl k a n I s = go (eqb sl wrapped)
  where
    go : (y : Bool) → declared b w v c (wrap y (node k a n I) s) ≡ decl_here b w k a n I ++ (declared b (own_one k a w c) (own_more k a w c) (c + ranked k) I ++ declared b v v (c + ranked k + count I) s)
    go true = rw sum (simp (add-zero, append-nil, append_assoc))
    go false = refl

-- the Declarator of a frame's captured this
abbrev pub this_var : Bool → ℕ → Rows → Rows
this_var x b I = var_first (cond x none (node 3 1 b (node 9 0 0 none none) none)) I

var_count : (x : Bool) (b : ℕ) (I : Rows) → count (this_var x b I) ≡ count I
unfolding count ranked var_first join
var_count true b I = refl
var_count false b I = omega arith

var_arrows : (t : ℕ → Bool) (c : ℕ) (x : Bool) (b : ℕ) (I : Rows) → arrows_of t c (this_var x b I) ≡ arrows_of t c I
unfolding count ranked var_first join arrows_of arrow_here
var_arrows t c true b I = refl
var_arrows t c false b I = simp add-zero

var_reads : (md : ℕ → Bool) (w c : ℕ) (x : Bool) (b : ℕ) (I : Rows) → (x ≡ false → md b ≡ true) → reads md w w c (this_var x b I) ≡ reads md w w c I
unfolding count ranked var_first join reads here omitted own_one own_more
var_reads md w c true b I h = refl
var_reads md w c false b I h = rw (h refl) (simp add-zero)

var_declared : (m w c b : ℕ) (I : Rows) → declared m w w c (this_var false b I) ≡ cond (eqb b m) (this_by w ∷ []) [] ++ declared m w w c I
unfolding count ranked var_first join declared decl_here init_of init_kind own_one own_more
var_declared m w c b I = simp (add-zero, append-nil)

-- which frame's Declarator this is
unfoldable pub at_top_of : ℕ → Bool → ℕ → ℕ → List Init
at_top_of f y r w = cond y (cond (eqb r f) (this_by w ∷ []) []) []

eqb-number : (N : Names) (f r : ℕ) (bs : List Binding) → has N f bs ≡ true → has N r bs ≡ true → eqb (number N bs 1 r 0) (number N bs 1 f 0) ≡ eqb r f
eqb-number N f r bs hf hr = go (eqb r f) refl
  where
    go : (x : Bool) → eqb r f ≡ x → eqb (number N bs 1 r 0) (number N bs 1 f 0) ≡ x
    go true e = rw (eqb-eq r f e) (eqb_yes (number N bs 1 f 0))
    go false e = eqb_no _ _ (λ p. true≢false (sym (eqb_yes f) ∙ (ap (λ (z : ℕ). eqb z f) (sym (number_inj N r f bs hr hf p)) ∙ e)))

top_declared_has : (N : Names) (bs : List Binding) (f w c r : ℕ) (I : Rows) → has N f bs ≡ true → (y : Bool) → has N r bs ≡ y →
    declared (number N bs 1 f 0) w w c (var_first (this_decl (number N bs 1 r 0) false) I) ≡ cond (eqb r f) (this_by w ∷ []) [] ++ declared (number N bs 1 f 0) w w c I
unfolding this_decl var_first join
top_declared_has N bs f w c r I hf true e = rw (number_nonzero N r bs true e, ← eqb-number N f r bs hf e) (var_declared (number N bs 1 f 0) w c (number N bs 1 r 0) I)
top_declared_has N bs f w c r I hf false e = rw (number_nonzero N r bs false e, eqb_no r f (λ p. true≢false (sym hf ∙ (ap (λ (z : ℕ). has N z bs) (sym p) ∙ e))))

module _ (N : Names) (bs : List Binding) (A : AllThis bs) (sl k r : ℕ) (L : eqb sl late_body ≡ false) (I : Rows) where
  pub top-is : top N bs sl k r I ≡ cond (closes sl k) (var_first (this_decl (number N bs 1 r 0) false) I) I
  unfolding top
  top-is = rw (L, top_shape N bs A r (eqb k 0) I)

  pub top_count : count (top N bs sl k r I) ≡ count I
  unfolding this_decl
  top_count = rw top-is (go (closes sl k))
    where
      go : (y : Bool) → count (cond y (this_var (eqb (number N bs 1 r 0) 0) (number N bs 1 r 0) I) I) ≡ count I
      go true = var_count (eqb (number N bs 1 r 0) 0) (number N bs 1 r 0) I
      go false = refl

  pub top_arrows : (t : ℕ → Bool) (c : ℕ) → arrows_of t c (top N bs sl k r I) ≡ arrows_of t c I
  unfolding this_decl
  top_arrows t c = rw top-is (go (closes sl k))
    where
      go : (y : Bool) → arrows_of t c (cond y (this_var (eqb (number N bs 1 r 0) 0) (number N bs 1 r 0) I) I) ≡ arrows_of t c I
      go true = var_arrows t c (eqb (number N bs 1 r 0) 0) (number N bs 1 r 0) I
      go false = refl

  captures : (y : Bool) → has N r bs ≡ y → eqb (number N bs 1 r 0) 0 ≡ false → captured_this bs (number N bs 1 r 0) ≡ true
  captures true h p = number_use N r bs h
  captures false h p = absurd (true≢false (sym (number_nonzero N r bs false h) ∙ p))

  pub top-reads : (w c : ℕ) → reads (captured_this bs) w w c (top N bs sl k r I) ≡ reads (captured_this bs) w w c I
  unfolding this_decl
  top-reads w c = rw top-is (go (closes sl k))
    where
      go : (y : Bool) → reads (captured_this bs) w w c (cond y (this_var (eqb (number N bs 1 r 0) 0) (number N bs 1 r 0) I) I) ≡ reads (captured_this bs) w w c I
      go true = var_reads (captured_this bs) w c (eqb (number N bs 1 r 0) 0) (number N bs 1 r 0) I (captures (has N r bs) refl)
      go false = refl

  pub top-declared : (f w c : ℕ) → has N f bs ≡ true →
      declared (number N bs 1 f 0) w w c (top N bs sl k r I) ≡ at_top_of f (closes sl k) r w ++ declared (number N bs 1 f 0) w w c I
  unfolding at_top_of
  top-declared f w c hf = rw top-is (go (closes sl k))
    where
      go : (y : Bool) → declared (number N bs 1 f 0) w w c (cond y (var_first (this_decl (number N bs 1 r 0) false) I) I) ≡ cond y (cond (eqb r f) (this_by w ∷ []) []) [] ++ declared (number N bs 1 f 0) w w c I
      go true = top_declared_has N bs f w c r I hf (has N r bs) refl
      go false = refl

-- what a row becomes keeps what is counted
pub two : (P : ℕ → Type 0) → P 9 → P 16 → ((k : ℕ) → eqb k 9 ≡ false → eqb k 16 ≡ false → P k) → (k : ℕ) → P k
two P t r d k = at P 9 k t (λ e. at P 16 k r (λ f. d k e f))

ranked_this : (x : Bool) → ranked (cond x 11 9) ≡ 0
unfolding ranked
ranked_this true = refl
ranked_this false = refl

ranked_arrow : (x : Bool) → ranked (cond x 16 17) ≡ 1
unfolding ranked
ranked_arrow true = refl
ranked_arrow false = refl

pub ranked-same : (c : Ctx) (k a : ℕ) → ranked (new_kind c k a) ≡ ranked k
unfolding new_kind
ranked-same c k a = two (λ (k : ℕ). ranked (cond (eqb k 9) (cond c.takes_this 11 9) (cond (eqb k 16) (cond (bit 1 a) 16 17) k)) ≡ ranked k) (unfold ranked in ranked_this c.takes_this) (unfold ranked in ranked_arrow (bit 1 a)) (λ k e f. rw (e, f)) k

arrow_this : (x : Bool) (c a : ℕ) → arrow_here (λ a. true) c (cond x 11 9) a ≡ []
unfolding arrow_here
arrow_this true c a = refl
arrow_this false c a = refl

arrow_arrow : (x : Bool) (c a : ℕ) → arrow_here (λ a. true) c (cond x 16 17) (cond x a 0) ≡ cond x (c ∷ []) []
unfolding arrow_here
arrow_arrow true c a = refl
arrow_arrow false c a = refl

arrow_same : (p : Ctx) (c k a : ℕ) → arrow_here (λ a. true) c (new_kind p k a) (new_attr p k a) ≡ arrow_here (bit 1) c k a
unfolding new_kind new_attr arrow_here
arrow_same p c k a = two (λ (k : ℕ). arrow_here (λ a. true) c (new_kind p k a) (new_attr p k a) ≡ arrow_here (bit 1) c k a) (arrow_this p.takes_this c (new_attr p 9 a)) (arrow_arrow (bit 1 a) c a) (λ k e f. rw (e, f, f)) k

module _ (N : Names) (bs : List Binding) (A : AllThis bs) where
  row_count : (sl : ℕ) (q : Spot) (o k a n : ℕ) (i t : Rows) → count (dress sl (row_e N bs q o k a n i) t) ≡ ranked k + count (inside_e N bs q o k a n i) + count t
  unfolding row_e
  row_count sl q o k a n i t = dress-count sl _ _ _ _ t ∙ rw ranked-same

  row_arrows : (c sl : ℕ) (q : Spot) (o k a n : ℕ) (i t : Rows) → arrows_of (λ a. true) c (dress sl (row_e N bs q o k a n i) t)
      ≡ arrow_here (bit 1) c k a ++ (arrows_of (λ a. true) (c + ranked k) (inside_e N bs q o k a n i) ++ arrows_of (λ a. true) (c + ranked k + count (inside_e N bs q o k a n i)) t)
  unfolding row_e
  row_arrows c sl q o k a n i t = dress_arrows _ c sl _ _ _ _ t ∙ rw (ranked-same, arrow_same)

  in_count : (q : Spot) → Usual q → (o k a n : ℕ) (i : Rows) → count (inside_e N bs q o k a n i) ≡ count (emit_c N arrows_on bs (one N q o k a n i) (more N q o k a n i) (o + 1) i)
  unfolding inside_e
  in_count q u o k a n i = top_count N bs A q.slot k _ u.on_time _

  in_arrows : (t : ℕ → Bool) (c : ℕ) (q : Spot) → Usual q → (o k a n : ℕ) (i : Rows) → arrows_of t c (inside_e N bs q o k a n i) ≡ arrows_of t c (emit_c N arrows_on bs (one N q o k a n i) (more N q o k a n i) (o + 1) i)
  unfolding inside_e
  in_arrows t c q u o k a n i = top_arrows N bs A q.slot k _ u.on_time _ t c

  pub count_same : (r : Rows) (h v : Home) (b : Bool) (q q' : Spot) (o : ℕ) → Ready h v b q q' r → count (emit_c N arrows_on bs q q' o r) ≡ count r
  unfolding emit_c count
  count_same none h v b q q' o R = refl
  count_same (node k a n i s) h v b q q' o R =
      rw (emit_shape N bs h v b q q' o k a n i s R, row_count)
      (ap₂ (λ x y. ranked k + x + y)
      (in_count q R.usual o k a n i ∙ count_same i _ _ _ _ _ (o + 1) (ready_in N h v b q q' o k a n i s R))
      (count_same s v v b q' q' (o + 1 + size i) (ready_on N h v b q q' o k a n i s R)))

  pub inside_count : (h v : Home) (b : Bool) (q q' : Spot) (o k a n : ℕ) (i s : Rows) → Ready h v b q q' (node k a n i s) → count (inside_e N bs q o k a n i) ≡ count i
  inside_count h v b q q' o k a n i s R = in_count q R.usual o k a n i ∙ count_same i _ _ _ _ _ (o + 1) (ready_in N h v b q q' o k a n i s R)

  pub arrows_same : (r : Rows) (h v : Home) (b : Bool) (q q' : Spot) (o c : ℕ) → Ready h v b q q' r → arrows_of (λ a. true) c (emit_c N arrows_on bs q q' o r) ≡ arrows_of (bit 1) c r
  unfolding emit_c arrows_of
  arrows_same none h v b q q' o c R = refl
  arrows_same (node k a n i s) h v b q q' o c R =
      rw (emit_shape N bs h v b q q' o k a n i s R, row_arrows, inside_count h v b q q' o k a n i s R)
      (ap₂ (λ x y. arrow_here (bit 1) c k a ++ (x ++ y))
      (in_arrows _ _ q R.usual o k a n i ∙ arrows_same i _ _ _ _ _ (o + 1) (c + ranked k) (ready_in N h v b q q' o k a n i s R))
      (arrows_same s v v b q' q' (o + 1 + size i) (c + ranked k + count i) (ready_on N h v b q q' o k a n i s R)))
