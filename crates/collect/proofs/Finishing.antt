-- What is left to do after a row's children. Assumes nothing.
use mathlib.Core.Path.{◌≡◌, refl, ap, sym, subst, ◌∙◌}
use mathlib.Core.Bool.{Bool, true, false, cond, not, true≢false}
use mathlib.Core.List.{List, ◌++◌}
use Prim.Native.Nat.{ℕ, ◌+◌, ◌<◌}
use native.Mathlib.Omega.{arith}
use lib.ListN.{length, length-append}
use Rattle.steps.specs.Acts.{Ctx, Op}
use Rattle.steps.specs.Bindings.{Binding, params_of, closed}
use Rattle.steps.proofs.Records.{Grows, closed_grows}
use Rattle.bindings.specs.Store.{binds}
use Rattle.bindings.specs.Post.{Kept, Asked}
use Rattle.collect.specs.Collecting.{Finishes, leave_capture}

-- room for a list is room for each that it grew from
pub shorter : (bs ds : List Binding) (cap : ℕ) → Grows bs ds → length ds < cap → length bs < cap
shorter bs ds cap g h = let e : length ds ≡ length bs + length g.added = ap length g.grown ∙ length-append bs g.added in omega arith

module _ (M : List ℕ) (cap count : ℕ) (c : Ctx) (op : Op) (closing : Bool) (frame : ℕ) where
  abbrev left : List Binding
  left = leave_capture c op (binds M cap count)

  module _ (F : Finishes M cap count c.this_at frame (closed closing frame left)) where
    pub leave-asks : Asked M cap c.this_at count left
    leave-asks = record { store = F.store; row_low = F.this_low; cap_low = F.cap_low; room = shorter left (closed closing frame left) cap (closed_grows closing frame left) F.room }

    module _ (M' : List ℕ) (l : ℕ) (k : Kept M' cap left l) where
      pub stays_open : not closing ≡ true → Kept M' cap (closed closing frame left) l
      unfolding closed
      stays_open e = record { store = k.store; list = k.list ∙ go closing e }
        where
          go : (x : Bool) → not x ≡ true → left ≡ cond x (left ++ params_of frame left) left
          go true h = absurd (true≢false (sym h))
          go false h = refl

      -- the maker has its size still, under another name
      module _ (e : not closing ≡ false) {cap' : ℕ} (same : cap' ≡ cap) where
        closes-it : binds M' cap' l ++ params_of frame (binds M' cap' l) ≡ closed closing frame left
        unfolding closed
        closes-it = ap (λ (n : ℕ). binds M' n l ++ params_of frame (binds M' n l)) same ∙ ap (λ (bs : List Binding). bs ++ params_of frame bs) k.list ∙ go closing e
          where
            go : (x : Bool) → not x ≡ false → left ++ params_of frame left ≡ cond x (left ++ params_of frame left) left
            go true h = refl
            go false h = absurd (true≢false h)

        pub close-asks : Asked M' cap' frame l (binds M' cap' l ++ params_of frame (binds M' cap' l))
        close-asks = subst (λ (n : ℕ). Asked M' n frame l (binds M' cap' l ++ params_of frame (binds M' cap' l))) (sym same)
            (record { store = k.store; row_low = F.frame_low; cap_low = F.cap_low; room = subst (λ (bs : List Binding). length bs < cap) (sym closes-it) F.room })

        pub is-closed : (M'' : List ℕ) (r : ℕ) → Kept M'' cap' (binds M' cap' l ++ params_of frame (binds M' cap' l)) r → Kept M'' cap (closed closing frame left) r
        is-closed M'' r h = subst (λ (n : ℕ). Kept M'' n (closed closing frame left) r) same (subst (λ (bs : List Binding). Kept M'' cap' bs r) closes-it h)
