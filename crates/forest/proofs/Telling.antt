-- Whatever goes from parents to children: what a walk over a row's children leaves in an array, and what a row has been told by the time it is met. Assumes nothing.
use Rattle.std.specs.Prelude.{Option, Some, None}
use mathlib.Core.Path.{◌≡◌, refl, ap, sym, subst, ◌∙◌}
use mathlib.Core.Bool.{Bool, true, false, cond, ◌&&◌}
use mathlib.Core.List.{List, [], ◌∷◌}
use Prim.Native.Nat.{ℕ, zero, suc, ◌+◌, ◌-◌, ◌<◌, ◌≤◌}
use native.Mathlib.Omega.{arith}
use native.Mathlib.Numerals.{add-one}
use native.Mathlib.Nat.{zero-add, add-zero}
use borrow.Author.Tests.{lt-ltb, ltb-true, eqb-true, eqb-false, ne_eqb, eq-eqb}
use lib.Dec.{eqb, ltb, leb, eqb-suc-zero}
use lib.ListN.{get_or, length, set, length-set, replicate, length-replicate}
use lib.Seq.{get_or-set_same, get_or-set_other}
use Rattle.names.specs.Words.{words, end_at}
use Rattle.names.proofs.Bools.{cond-le}
use Rattle.names.proofs.Zeros.{zeros}
use Rattle.forest.specs.Faults.{end_good, kids, faulty_kid, kids_of}
use Rattle.forest.specs.Children.{ChildAt, NoChild}
use Rattle.forest.specs.Told.{told_in, told_by, deeper, Fresh, first_then, to_all}
use Rattle.forest.proofs.Children.{good-past, kids-good, kids-bad, kids_done, faulty-good, faulty-bad, faulty_done}

module _ {A : Type 0} (ws : List ℕ) (say : ℕ → ℕ → A) (e : ℕ) where
  skip : (pos c : ℕ) (K : List ℕ) (j : ℕ) (v : A) (b g : Bool) → (b ≡ true → eqb j c ≡ false) → (g ≡ true → told_in say (pos + 1) K j v ≡ v)
      → told_in say pos (cond b (cond g (c ∷ K) (c ∷ [])) []) j v ≡ v
  unfolding told_in
  skip pos c K j v false g n h = refl
  skip pos c K j v true false n h = rw (n refl)
  skip pos c K j v true true n h = rw (n refl) (h refl)

  -- the children from c on are told nothing below c
  pub told_below : (f pos c j : ℕ) (v : A) → j < c → told_in say pos (kids ws f c e) j v ≡ v
  unfolding kids told_in
  told_below zero pos c j v h = refl
  told_below (suc f) pos c j v h =
      skip pos c (kids ws f (end_at ws c) e) j v (ltb c e) (end_good ws c e) (λ b. ne_eqb j c (λ q. omega arith))
      (λ g. told_below f (pos + 1) (end_at ws c) j v (omega (arith, good-past ws c e g)))

  -- and nothing from the end e on
  pub told-above : (f pos c j : ℕ) (v : A) → e ≤ j → told_in say pos (kids ws f c e) j v ≡ v
  unfolding kids told_in
  told-above zero pos c j v h = refl
  told-above (suc f) pos c j v h =
      skip pos c (kids ws f (end_at ws c) e) j v (ltb c e) (end_good ws c e)
      (λ t. let lt : c < e = ltb-true c e t in ne_eqb j c (λ q. omega arith))
      (λ g. told-above f (pos + 1) (end_at ws c) j v h)

  -- the first of the children has the position that the count starts with
  head_kid : (pos c : ℕ) (K : List ℕ) (v : A) (g : Bool) → told_in say pos (cond g (c ∷ K) (c ∷ [])) c v ≡ say pos c
  unfolding told_in
  head_kid pos c K v true = rw (eq-eqb c c refl)
  head_kid pos c K v false = rw (eq-eqb c c refl)

  pub told-head : (f pos c : ℕ) (v : A) → c < e → told_in say pos (kids ws (suc f) c e) c v ≡ say pos c
  unfolding kids
  told-head f pos c v h = rw (lt-ltb c e h) (head_kid pos c (kids ws f (end_at ws c) e) v (end_good ws c e))

  -- a later row is not the child that was passed
  pub told-next : (pos c f j : ℕ) (v : A) → c < e → end_good ws c e ≡ true → c < j → told_in say pos (kids ws (suc f) c e) j v ≡ told_in say (pos + 1) (kids ws f (end_at ws c) e) j v
  unfolding told_in
  told-next pos c f j v ce g h = rw (kids-good ws f c e ce g, ne_eqb j c (λ q. omega arith))

  -- one child more is told
  one : (K : List ℕ) (R : List A) (d : A) (pos c j : ℕ) (r : A) (t : Bool) → eqb j c ≡ t → c < length R → (j ≤ c → (v : A) → told_in say (pos + 1) K j v ≡ v)
      → say pos c ≡ r → told_in say pos (c ∷ K) j (get_or R j d) ≡ told_in say (pos + 1) K j (get_or (set R c r) j d)
  unfolding told_in
  one K R d pos c j r true q l b m =
      let jc : j ≡ c = eqb-true j c q in
      rw q (m ∙ sym (b (omega arith) (get_or (set R c r) j d) ∙ ap (λ (x : ℕ). get_or (set R c r) x d) jc ∙ get_or-set_same R c r d l))
  one K R d pos c j r false q l b m =
      rw q (ap (λ (x : A). told_in say (pos + 1) K j x) (sym (get_or-set_other R c j r d (eqb-false j c q))))

  -- The walk over the children at child c, which has position pos: what is still to be told and counted, on top of what has been, gives the whole.
  pub record Telling (size c0 : ℕ) (R₀ R : List A) (c pos : ℕ) : Type 0 where
    pub fuel : ℕ
    pub room : e ≤ c + fuel
    pub long : length R ≡ size
    pub many : length (kids ws e c0 e) ≡ pos + length (kids ws fuel c e)
    pub fault : faulty_kid ws e c0 e ≡ faulty_kid ws fuel c e
    pub rest : (d : A) (j : ℕ) → told_in say 0 (kids ws e c0 e) j (get_or R₀ j d) ≡ told_in say pos (kids ws fuel c e) j (get_or R j d)

  pub tell_start : (size c0 : ℕ) (R : List A) → length R ≡ size → Telling size c0 R R c0 0
  tell_start size c0 R l = record { fuel = e; room = omega arith; long = l; many = sym (zero-add _); fault = refl; rest = λ d j. refl }

  -- what the walk leaves: the array, how many children there are, and the one that is at fault
  pub record Told (size c0 : ℕ) (R₀ R : List A) (r : ℕ) (x : Option ℕ) : Type 0 where
    pub long : length R ≡ size
    pub many : r ≡ length (kids ws e c0 e)
    pub fault : x ≡ faulty_kid ws e c0 e
    pub each : (d : A) (j : ℕ) → get_or R j d ≡ told_in say 0 (kids ws e c0 e) j (get_or R₀ j d)

  module _ (size c0 : ℕ) (R₀ R : List A) (c pos : ℕ) (t : Telling size c0 R₀ R c pos) (h : c < e) (s : e ≤ size) (r : A) (z : say pos c ≡ r) where
    next-at : (f : ℕ) → t.fuel ≡ f → (x : ℕ) → x ≡ end_at ws c → end_good ws c e ≡ true → Telling size c0 R₀ (set R c r) x (pos + 1)
    next-at zero q x w g = absurd (omega (arith, t.room))
    next-at (suc f) q x w g =
        let past : c < end_at ws c = good-past ws c e g in
        let ks : kids ws t.fuel c e ≡ c ∷ kids ws f (end_at ws c) e = ap (λ (n : ℕ). kids ws n c e) q ∙ kids-good ws f c e h g in
        subst (λ (y : ℕ). Telling size c0 R₀ (set R c r) y (pos + 1)) (sym w)
        (record {
          fuel = f;
          room = omega (arith, t.room);
          long = length-set R c r ∙ t.long;
          many = t.many ∙ ap (λ (l : List ℕ). pos + length l) ks ∙ omega arith;
          fault = t.fault ∙ ap (λ (n : ℕ). faulty_kid ws n c e) q ∙ faulty-good ws f c e h g;
          rest = λ d j. t.rest d j ∙ ap (λ (l : List ℕ). told_in say pos l j (get_or R j d)) ks
              ∙ one (kids ws f (end_at ws c) e) R d pos c j r (eqb j c) refl (omega (arith, t.long)) (λ b v. told_below f (pos + 1) (end_at ws c) j v (omega arith)) z;
        })

    pub tell-next : (x : ℕ) → x ≡ end_at ws c → (ltb c x && leb x e) ≡ true → Telling size c0 R₀ (set R c r) x (pos + 1)
    tell-next x w g = next-at t.fuel refl x w (subst (λ (y : ℕ). (ltb c y && leb y e) ≡ true) w g)

    last-at : (f : ℕ) → t.fuel ≡ f → end_good ws c e ≡ false → Told size c0 R₀ (set R c r) (pos + 1) (Some c)
    unfolding told_in
    last-at zero q g = absurd (omega (arith, t.room))
    last-at (suc f) q g =
        let ks : kids ws t.fuel c e ≡ c ∷ [] = ap (λ (n : ℕ). kids ws n c e) q ∙ kids-bad ws f c e h g in
        record {
          long = length-set R c r ∙ t.long;
          many = sym (t.many ∙ ap (λ (l : List ℕ). pos + length l) ks ∙ omega arith);
          fault = sym (t.fault ∙ ap (λ (n : ℕ). faulty_kid ws n c e) q ∙ faulty-bad ws f c e h g);
          each = λ d j. sym (t.rest d j ∙ ap (λ (l : List ℕ). told_in say pos l j (get_or R j d)) ks ∙ one [] R d pos c j r (eqb j c) refl (omega (arith, t.long)) (λ b v. refl) z);
        }

    pub tell-last : (x : ℕ) → x ≡ end_at ws c → (ltb c x && leb x e) ≡ false → Told size c0 R₀ (set R c r) (pos + 1) (Some c)
    tell-last x w g = last-at t.fuel refl (subst (λ (y : ℕ). (ltb c y && leb y e) ≡ false) w g)

  pub tell_done : (size c0 : ℕ) (R₀ R : List A) (c pos : ℕ) → Telling size c0 R₀ R c pos → e ≤ c → Told size c0 R₀ R pos None
  unfolding told_in
  tell_done size c0 R₀ R c pos t h =
      let ks : kids ws t.fuel c e ≡ [] = kids_done ws t.fuel c e h in
      record {
        long = t.long;
        many = sym (t.many ∙ ap (λ (l : List ℕ). pos + length l) ks ∙ add-zero pos);
        fault = sym (t.fault ∙ faulty_done ws t.fuel c e h);
        each = λ d j. sym (t.rest d j ∙ ap (λ (l : List ℕ). told_in say pos l j (get_or R j d)) ks);
      }

-- A step of the walk by what `Children` gives, whose rows and end are those of the walk.
pub good-same : (ws : List ℕ) (e c b : ℕ) (rows s : List ℕ) → ws ≡ words s → rows ≡ s → b ≡ e → end_good (words rows) c b ≡ end_good ws c e
good-same ws e c b rows s w q f = ap (λ (x : List ℕ). end_good x c b) (ap words q ∙ sym w) ∙ ap (end_good ws c) f

-- the child that stands next is told r
pub tell-child : {A : Type 0} (ws : List ℕ) (say : ℕ → ℕ → A) (e size c0 : ℕ) (R₀ R : List A) {c c' pos b row : ℕ} {r : A} {rows s : List ℕ}
    → Telling ws say e size c0 R₀ R c pos → e ≤ size → ws ≡ words s → rows ≡ s → b ≡ e → ChildAt (words rows) b c row c' → say pos c ≡ r
    → Telling ws say e size c0 R₀ (set R row r) c' (pos + 1)
tell-child ws say e size c0 R₀ R {c} {c'} {pos} {b} {row} {r} {rows} {s} t l w q f x d =
    let past : c' ≡ end_at ws c = x.behind ∙ ap (λ (m : List ℕ). end_at m c) (ap words q ∙ sym w) in
    let good : end_good ws c e ≡ true = sym (good-same ws e c b rows s w q f) ∙ x.ends in
    rw (x.row_is) (tell-next ws say e size c0 R₀ R c pos t (omega (arith, x.below)) l r d c' past (subst (λ (y : ℕ). (ltb c y && leb y e) ≡ true) (sym past) good))

-- or one whose `end` is at fault, which is the last
pub tell-fault : {A : Type 0} (ws : List ℕ) (say : ℕ → ℕ → A) (e size c0 : ℕ) (R₀ R : List A) {c c' pos b : ℕ} {r : A} {rows s : List ℕ}
    → Telling ws say e size c0 R₀ R c pos → e ≤ size → ws ≡ words s → rows ≡ s → b ≡ e → NoChild (words rows) b c c' → c' < e → say pos c ≡ r
    → Told ws say e size c0 R₀ (set R c' r) (pos + 1) (Some c')
tell-fault ws say e size c0 R₀ R {c} {c'} {pos} {b} {r} {rows} {s} t l w q f x h d =
    let low : c < e = omega (arith, x.stays) in
    let bad : end_good ws c e ≡ false = sym (good-same ws e c b rows s w q f) ∙ x.faulty (omega arith) in
    rw (x.stays) (tell-last ws say e size c0 R₀ R c pos t low l r d (end_at ws c) refl bad)

-- behind a child, the next stands further on
pub goes-on : (ws : List ℕ) (b c row c' : ℕ) → ChildAt ws b c row c' → c < c'
goes-on ws b c row c' x = let past = good-past ws c b x.ends in omega (arith, x.behind)

-- a later child's value
pub then-more : {A : Type 0} (one more : A) (pos c : ℕ) → first_then one more (pos + 1) c ≡ more
then-more one more pos c = rw (ne_eqb (pos + 1) 0 (λ e. omega arith))

-- who says the same tells the same
pub told-same : (say said : ℕ → ℕ → ℕ) → ((p c : ℕ) → say p c ≡ said p c) → (pos : ℕ) (K : List ℕ) (j v : ℕ) → told_in say pos K j v ≡ told_in said pos K j v
unfolding told_in
told-same say said h pos [] j v = refl
told-same say said h pos (c ∷ K) j v = rw (h pos c, told-same say said h (pos + 1) K j v)

-- one value for the first child and the same for the later ones is one for all
both-same : (b : Bool) (d : ℕ) → cond b d d ≡ d
both-same true d = refl
both-same false d = refl

pub told-all : (d pos : ℕ) (K : List ℕ) (j v : ℕ) → told_in (first_then d d) pos K j v ≡ told_in (to_all d) pos K j v
told-all d pos K j v = told-same (first_then d d) (to_all d) (λ p c. both-same (eqb p 0) d) pos K j v

-- what is told is no more than what is said, and what stood there
told_in-le : (say : ℕ → ℕ → ℕ) (m pos : ℕ) (K : List ℕ) (j v : ℕ) → ((p c : ℕ) → say p c ≤ m) → v ≤ m → told_in say pos K j v ≤ m
unfolding told_in
told_in-le say m pos [] j v h l = l
told_in-le say m pos (c ∷ K) j v h l = cond-le (eqb j c) (say pos c) (told_in say (pos + 1) K j v) m (h pos c) (told_in-le say m (pos + 1) K j v h l)

-- no row has been told a depth above the number of rows before it
pub deep-le : (ws : List ℕ) (i j : ℕ) → told_by ws deeper 0 i j ≤ i
unfolding told_by
deep-le ws zero j = cond-le (eqb j 0) 0 0 0 (omega arith) (omega arith)
deep-le ws (suc p) j =
    told_in-le (deeper (told_by ws deeper 0 p p) p) (suc p) 0 (kids_of ws p) j (told_by ws deeper 0 p j) (λ q c. omega (arith, deep-le ws p p)) (omega (arith, deep-le ws p j))

-- The visit of the rows in order, with what each has been told in an array R.
cond-zero : (b : Bool) → ◌≡◌ {A = ℕ} 0 (cond b 0 0)
cond-zero true = refl
cond-zero false = refl

-- zeros are an array in which no row has been told anything, whatever their number
pub zeros-fresh : (size n : ℕ) → n ≤ size → Fresh (replicate size 0) n
zeros-fresh size n l = (subst (λ (x : ℕ). n ≤ x) (sym (length-replicate size 0)) l, zeros size)

-- an array that is all 0 is what the visit starts with where row 0 starts with 0
pub told_fresh : (ws : List ℕ) (tell : ℕ → ℕ → ℕ → ℕ → ℕ) (R : List ℕ) → ((j : ℕ) → get_or R j 0 ≡ 0) → (j : ℕ) → get_or R j 0 ≡ told_by ws tell 0 0 j
unfolding told_by
told_fresh ws tell R z j = z j ∙ cond-zero (eqb j 0)

-- and so are n zeros
pub told-zero : (ws : List ℕ) (tell : ℕ → ℕ → ℕ → ℕ → ℕ) (n j : ℕ) → get_or (replicate n 0) j 0 ≡ told_by ws tell 0 0 j
told-zero ws tell n = told_fresh ws tell (replicate n 0) (zeros n)

module _ (ws : List ℕ) (tell : ℕ → ℕ → ℕ → ℕ → ℕ) (r : ℕ) where
  -- an array that is all 0, with r written at row 0, is what the visit starts with where row 0 starts with r
  pub told-start : (R : List ℕ) → 0 < length R → ((j : ℕ) → get_or R j 0 ≡ 0) → (j : ℕ) → get_or (set R 0 r) j 0 ≡ told_by ws tell r 0 j
  unfolding told_by
  told-start R l z zero = get_or-set_same R 0 r 0 l
  told-start R l z (suc j) =
      get_or-set_other R 0 (suc j) r 0 (λ q. omega arith) ∙ z (suc j) ∙ sym (ap (λ (b : Bool). cond b r 0) (eqb-suc-zero j))

  pub told-on : (i v e : ℕ) (say : ℕ → ℕ → ℕ) (R R' : List ℕ) → ((j : ℕ) → get_or R j 0 ≡ told_by ws tell r i j) → v ≡ get_or R i 0 → e ≡ end_at ws i → tell v i ≡ say
      → ((j : ℕ) → get_or R' j 0 ≡ told_in say 0 (kids ws e (i + 1) e) j (get_or R j 0)) → (j : ℕ) → get_or R' j 0 ≡ told_by ws tell r (i + 1) j
  unfolding told_by kids_of
  told-on i v e say R R' h qv qe qs k j =
      k j
      ∙ ap (λ (f : ℕ → ℕ → ℕ). told_in f 0 (kids ws e (i + 1) e) j (get_or R j 0)) (sym qs)
      ∙ ap (λ (x : ℕ). told_in (tell x i) 0 (kids ws e (i + 1) e) j (get_or R j 0)) (qv ∙ h i)
      ∙ ap (λ (x : ℕ). told_in (tell (told_by ws tell r i i) i) 0 (kids ws x (i + 1) x) j (get_or R j 0)) qe
      ∙ ap (λ (x : ℕ). told_in (tell (told_by ws tell r i i) i) 0 (kids ws (end_at ws i) (i + 1) (end_at ws i)) j x) (h j)
      ∙ ap (λ (x : ℕ). told_by ws tell r x j) (sym (add-one i))

  -- what row i has been told when it is met
  abbrev pub heard : ℕ → ℕ
  heard i = told_by ws tell r i i

  -- rows whose subtrees end by j tell row j nothing
  told-one : (q j : ℕ) → end_at ws q ≤ j → told_by ws tell r (suc q) j ≡ told_by ws tell r q j
  unfolding told_by kids_of
  told-one q j h = told-above ws (tell (heard q) q) (end_at ws q) (end_at ws q) 0 (q + 1) j (told_by ws tell r q j) h

  told-past : (p j d : ℕ) → ((q : ℕ) → p ≤ q → q < p + d → end_at ws q ≤ j) → told_by ws tell r (p + d) j ≡ told_by ws tell r p j
  told-past p j zero h = ap (λ (x : ℕ). told_by ws tell r x j) (add-zero p)
  told-past p j (suc d) h =
      let step : p + suc d ≡ suc (p + d) = omega arith in
      ap (λ (x : ℕ). told_by ws tell r x j) step
      ∙ told-one (p + d) j (h (p + d) (omega arith) (omega arith))
      ∙ told-past p j d (λ q a b. h q a (omega arith))

  -- what row p tells its children from c on, of which the first has position pos
  abbrev pub Tells : ℕ → ℕ → ℕ → ℕ → Type 0
  Tells p c pos f = (j v : ℕ) → c ≤ j → told_in (tell (heard p) p) 0 (kids_of ws p) j v ≡ told_in (tell (heard p) p) pos (kids ws f c (end_at ws p)) j v

  -- what a child c has been told by the time it is met
  pub told_child : (p c pos f : ℕ) → p < c → c < end_at ws p → ((q : ℕ) → p < q → q < c → end_at ws q ≤ c) → Tells p c pos (suc f) → heard c ≡ tell (heard p) p pos c
  unfolding told_by
  told_child p c pos f pc ce before tells =
      let d : c ≡ suc p + (c - suc p) = omega arith in
      ap (λ (x : ℕ). told_by ws tell r x c) d
      ∙ told-past (suc p) c (c - suc p) (λ q h l. before q h (omega arith))
      ∙ tells c (told_by ws tell r p c) (omega arith)
      ∙ told-head ws (tell (heard p) p) (end_at ws p) f pos c (told_by ws tell r p c) ce

  pub tells_next : (p c pos f : ℕ) → Tells p c pos (suc f) → c < end_at ws p → end_good ws c (end_at ws p) ≡ true → Tells p (end_at ws c) (pos + 1) f
  tells_next p c pos f tells ce g j v l =
      let past : c < end_at ws c = good-past ws c (end_at ws p) g in
      tells j v (omega arith) ∙ told-next ws (tell (heard p) p) (end_at ws p) pos c f j v ce g (omega arith)
