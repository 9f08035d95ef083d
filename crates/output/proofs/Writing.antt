-- The laws of writing rows, and the steps by which a walker shows that it wrote a forest. Assumes nothing.
use mathlib.Core.Path.{◌≡◌, refl, ap, ◌∙◌}
use mathlib.Core.Bool.{Bool, true, false, cond}
use mathlib.Core.List.{List, []}
use Prim.Native.Nat.{ℕ, ◌+◌, ◌*◌, ◌≤◌, ◌<◌}
use native.Mathlib.Omega.{arith}
use lib.ListN.{length}
use lib.Seq.{sets, length-sets}
use lib.Dec.{leb}
use borrow.Author.Tests.{le-leb, lt-leb}
use Rattle.names.specs.Bytes.{le32}
use Rattle.forest.specs.Forest.{Rows, Rows.none, Rows.node, size}
use Rattle.steps.specs.Joining.{join}
use Rattle.output.specs.Output.{with_row, put, set_end, emit_rows, Appended, Done}
use Rattle.output.proofs.Stores.{words-apart, word_over}
use Rattle.steps.proofs.Sizes.{size-join}

-- what `put` and `set_end` are, by the test
put-at : (o : List ℕ) (r k a n e : ℕ) (b : Bool) → leb (r * 16 + 16) (length o) ≡ b → put o r k a n e ≡ cond b (with_row o r k a n e) o
unfolding put
put-at o r k a n e b q = rw q

end-at : (o : List ℕ) (r e : ℕ) (b : Bool) → leb (r * 16 + 16) (length o) ≡ b → set_end o r e ≡ cond b (sets o (r * 16 + 12) (le32 e)) o
unfolding set_end
end-at o r e b q = rw q

pub put_in : (o : List ℕ) (r k a n e : ℕ) → r * 16 + 16 ≤ length o → put o r k a n e ≡ with_row o r k a n e
put_in o r k a n e h = put-at o r k a n e true (le-leb _ _ h)

pub put_out : (o : List ℕ) (r k a n e : ℕ) → length o < r * 16 + 16 → put o r k a n e ≡ o
put_out o r k a n e h = put-at o r k a n e false (lt-leb _ _ h)

pub end_in : (o : List ℕ) (r e : ℕ) → r * 16 + 16 ≤ length o → set_end o r e ≡ sets o (r * 16 + 12) (le32 e)
end_in o r e h = end-at o r e true (le-leb _ _ h)

pub end_out : (o : List ℕ) (r e : ℕ) → length o < r * 16 + 16 → set_end o r e ≡ o
end_out o r e h = end-at o r e false (lt-leb _ _ h)

-- nothing changes the length
pub length_end : (o : List ℕ) (r e : ℕ) → length (set_end o r e) ≡ length o
length_end o r e = go (leb (r * 16 + 16) (length o)) refl
  where
    go : (b : Bool) → leb (r * 16 + 16) (length o) ≡ b → length (set_end o r e) ≡ length o
    go true q = rw (end-at o r e true q) (length-sets o (r * 16 + 12) (le32 e))
    go false q = rw (end-at o r e false q)

pub length-put : (o : List ℕ) (r k a n e : ℕ) → length (put o r k a n e) ≡ length o
length-put o r k a n e = go (leb (r * 16 + 16) (length o)) refl
  where
    go : (b : Bool) → leb (r * 16 + 16) (length o) ≡ b → length (put o r k a n e) ≡ length o
    go true q = rw (put-at o r k a n e true q) (simp length-sets)
    go false q = rw (put-at o r k a n e false q)

pub length-emit : (f : Rows) (o : List ℕ) (r : ℕ) → length (emit_rows o r f) ≡ length o
unfolding emit_rows
length-emit none o r = refl
length-emit (node k a n i s) o r = length-emit s _ _ ∙ length-emit i _ _ ∙ length-put o r k a n (r + 1 + size i)

-- the end of a row that was just put
end_put : (o : List ℕ) (r k a n x e : ℕ) → set_end (put o r k a n x) r e ≡ put o r k a n e
end_put o r k a n x e = go (leb (r * 16 + 16) (length o)) refl
  where
    go : (b : Bool) → leb (r * 16 + 16) (length o) ≡ b → set_end (put o r k a n x) r e ≡ put o r k a n e
    go true q =
        rw (end-at (put o r k a n x) r e true (rw length-put q), put-at o r k a n x true q, put-at o r k a n e true q)
        (word_over _ _ x e)
    go false q = rw (end-at (put o r k a n x) r e false (rw length-put q), put-at o r k a n x false q, put-at o r k a n e false q)

row_later : (o : List ℕ) (r q k a n x e : ℕ) → r < q
    → sets (with_row o q k a n x) (r * 16 + 12) (le32 e) ≡ with_row (sets o (r * 16 + 12) (le32 e)) q k a n x
row_later o r q k a n x e h =
    words-apart _ _ _ e x (omega arith)
    ∙ ap (λ (m : List ℕ). sets m (q * 16 + 12) (le32 x))
    (words-apart _ _ _ e n (omega arith)
    ∙ ap (λ (m : List ℕ). sets m (q * 16 + 8) (le32 n))
    (words-apart _ _ _ e a (omega arith) ∙ ap (λ (m : List ℕ). sets m (q * 16 + 4) (le32 a)) (words-apart _ _ _ e k (omega arith))))

-- the end of a row before one that was put
end_put_later : (o : List ℕ) (r q k a n x e : ℕ) → r < q → set_end (put o q k a n x) r e ≡ put (set_end o r e) q k a n x
end_put_later o r q k a n x e h = go (leb (r * 16 + 16) (length o)) (leb (q * 16 + 16) (length o)) refl refl
  where
    by : (b c : Bool) → leb (r * 16 + 16) (length o) ≡ b → leb (q * 16 + 16) (length o) ≡ c
        → cond b (sets (cond c (with_row o q k a n x) o) (r * 16 + 12) (le32 e)) (cond c (with_row o q k a n x) o)
        ≡ cond c (with_row (cond b (sets o (r * 16 + 12) (le32 e)) o) q k a n x) (cond b (sets o (r * 16 + 12) (le32 e)) o)
        → set_end (put o q k a n x) r e ≡ put (set_end o r e) q k a n x
    by b c u v t =
        rw (
          end-at (put o q k a n x) r e b (rw length-put u),
          put-at (set_end o r e) q k a n x c (rw length_end v),
          put-at o q k a n x c v,
          end-at o r e b u,
        ) t

    go : (b c : Bool) → leb (r * 16 + 16) (length o) ≡ b → leb (q * 16 + 16) (length o) ≡ c
        → set_end (put o q k a n x) r e ≡ put (set_end o r e) q k a n x
    go true true u v = by true true u v (row_later o r q k a n x e h)
    go true false u v = by true false u v refl
    go false true u v = by false true u v refl
    go false false u v = by false false u v refl

end_emit : (f : Rows) (o : List ℕ) (r q e : ℕ) → r < q → set_end (emit_rows o q f) r e ≡ emit_rows (set_end o r e) q f
unfolding emit_rows
end_emit none o r q e h = refl
end_emit (node k a n i s) o r q e h =
    end_emit s _ r _ e (omega arith)
    ∙ ap (λ (m : List ℕ). emit_rows m (q + 1 + size i) s)
    (end_emit i _ r _ e (omega arith)
    ∙ ap (λ (m : List ℕ). emit_rows m (q + 1) i) (end_put_later o r q k a n (q + 1 + size i) e h))

-- a row put with any end, its inside, and its end set last
pub put_node : (f : Rows) (o : List ℕ) (r k a n x : ℕ)
    → set_end (emit_rows (put o r k a n x) (r + 1) f) r (r + 1 + size f) ≡ emit_rows o r (node k a n f none)
unfolding emit_rows
put_node f o r k a n x =
    end_emit f _ r (r + 1) _ (omega arith)
    ∙ ap (λ (m : List ℕ). emit_rows m (r + 1) f) (end_put o r k a n x (r + 1 + size f))

-- forests side by side
pub emit-join : (f g : Rows) (o : List ℕ) (r : ℕ) → emit_rows o r (join f g) ≡ emit_rows (emit_rows o r f) (r + size f) g
unfolding emit_rows join size
emit-join none g o r = let e : r + 0 ≡ r = omega arith in rw e
emit-join (node k a n i s) g o r =
    let e : r + (1 + size i + size s) ≡ r + 1 + size i + size s = omega arith in
    rw e (emit-join s g _ _)

-- where not one row fits, nothing changes
pub emit_out : (f : Rows) (o : List ℕ) (r : ℕ) → length o < r * 16 + 16 → emit_rows o r f ≡ o
unfolding emit_rows
emit_out none o r h = refl
emit_out (node k a n i s) o r h =
    rw (put_out o r k a n (r + 1 + size i) h, emit_out i o (r + 1) (omega arith)) (emit_out s o (r + 1 + size i) (omega arith))

pub emit_empty : (f : Rows) (r : ℕ) → emit_rows [] r f ≡ []
emit_empty f r = emit_out f [] r (omega arith)

-- sizes
pub size_none : size none ≡ 0
unfolding size
size_none = refl

pub size_node : (k a n : ℕ) (f g : Rows) → size (node k a n f g) ≡ 1 + size f + size g
unfolding size
size_node k a n f g = refl

pub size-leaf : (k a n : ℕ) → size (node k a n none none) ≡ 1
unfolding size
size-leaf k a n = refl

pub size-one : (k a n : ℕ) (f : Rows) → size (node k a n f none) ≡ 1 + size f
unfolding size
size-one k a n f = omega arith

-- The steps: a walker's `returns` is a term of these that looks like its code. Nothing is written:
pub nothing : (o : List ℕ) (at : ℕ) → Done o at none at o
unfolding size emit_rows
nothing o at = record { next = omega arith; wrote = refl }

-- a row with nothing inside
pub leaf : {o o' : List ℕ} {at k a n r : ℕ} → Appended o at k a n (at + 1) r o' → Done o at (node k a n none none) r o'
unfolding size emit_rows
leaf {o} {o'} {at} {k} {a} {n} {r} p = record {
  next = omega arith;
  wrote = let z : at + 1 + 0 ≡ at + 1 = omega arith in rw z p.wrote;
}

-- a row, its inside, and its end last
pub nest : {o o1 o2 o3 : List ℕ} {at k a n x first next : ℕ} {f : Rows}
    → Appended o at k a n x first o1 → Done o1 first f next o2 → o3 ≡ set_end o2 at next → Done o at (node k a n f none) next o3
nest {o} {o1} {o2} {o3} {at} {k} {a} {n} {x} {first} {next} {f} p q e = record {
  next = omega (arith, size-one k a n f, p.next, q.next);
  wrote =
      let u : next ≡ at + 1 + size f = omega (arith, p.next, q.next) in
      e ∙ ap (λ (m : List ℕ). set_end m at next) q.wrote
      ∙ rw (u, p.wrote, p.next) (put_node f o at k a n x);
}

-- one forest, then another
pub then : {o o1 o2 : List ℕ} {at mid next : ℕ} {f g : Rows} → Done o at f mid o1 → Done o1 mid g next o2 → Done o at (join f g) next o2
then {o} {o1} {o2} {at} {mid} {next} {f} {g} p q = record {
  next = omega (arith, size-join f g, p.next, q.next);
  wrote = rw (emit-join f g o at, ← p.wrote, ← p.next) q.wrote;
}

-- one row with its inside, then the rows after it
pub beside : {o o1 o2 : List ℕ} {at mid next k a n : ℕ} {f g : Rows}
    → Done o at (node k a n f none) mid o1 → Done o1 mid g next o2 → Done o at (node k a n f g) next o2
unfolding join
beside {o} {o1} {o2} {at} {mid} {next} {k} {a} {n} {f} {g} p q = then p q

-- the same under another name
pub named : {o o' : List ℕ} {at r : ℕ} {f g : Rows} → g ≡ f → Done o at f r o' → Done o at g r o'
named {o} {o'} {at} {r} {f} {g} q d = rw q d

-- a writer keeps the length
pub kept : {o o' : List ℕ} {at r : ℕ} {f : Rows} → Done o at f r o' → length o' ≡ length o
kept {o} {o'} {at} {r} {f} d = ap length d.wrote ∙ length-emit f o at

-- the size of what is one row, and of what is two forests
pub size_as : {f g : Rows} {k a n : ℕ} → f ≡ node k a n g none → size f ≡ 1 + size g
size_as {f} {g} {k} {a} {n} q = ap size q ∙ size-one k a n g

pub size-both : {f : Rows} (g h : Rows) → f ≡ join g h → size f ≡ size g + size h
size-both {f} g h q = ap size q ∙ size-join g h
