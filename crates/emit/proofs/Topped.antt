-- What stands inside of a row that may close a frame. Assumes nothing.
use Prim.Native.Nat.{ℕ, ◌+◌}
use mathlib.Core.Path.{◌≡◌, ap, sym, ◌∙◌}
use mathlib.Core.Bool.{false}
use Rattle.grammar.specs.Codes.{listed}
use Rattle.forest.specs.Forest.{Rows, Rows.none, Rows.node, size}
use Rattle.plan.specs.Placing.{place_of}
use Rattle.emit_plan.specs.declared.Inner.{Inner}
use Rattle.emit_plan.specs.declared.Head.{Head}
use Rattle.emit_plan.specs.Walkers.{is_function}
use Rattle.emit_plan.specs.Inside.{rows_of, topped_rows}
use Rattle.emit_plan.specs.Top.{top_rows}
use Rattle.emit_plan.proofs.Written.{top_told, top-size, kept_inside}

module _ (n : Inner) (sl k : ℕ) where
  -- of a row that closes none, the siblings
  pub kept_rows : (h : Head) → is_function k ≡ false → node h.kind h.attr h.name (topped_rows n sl k) none ≡ node h.kind h.attr h.name (rows_of n) none
  kept_rows h e =
      let v = n.walk.now in
      ap (λ (t : Rows). node h.kind h.attr h.name t none) (kept_inside v.rows.now v.names.pairs.now v.names.text.now v sl k n.siblings e)

  pub kept_size : is_function k ≡ false → size (topped_rows n sl k) ≡ size (rows_of n)
  kept_size e = let v = n.walk.now in ap size (kept_inside v.rows.now v.names.pairs.now v.names.text.now v sl k n.siblings e)

  -- the Var, by what a Frame and a Kind tell, and the siblings
  pub topped_size : (k' r : ℕ) → k' ≡ listed k → r ≡ (place_of n.siblings.more).ctx.this_at
      → size (topped_rows n sl k) ≡ size (top_rows n.walk.now.bindings sl k' r) + size (rows_of n)
  topped_size k' r p q =
      let v = n.walk.now in
      top-size v.rows.now v.names.pairs.now v.names.text.now v sl k n.siblings v.bindings.store n.known.later.this
      ∙ ap (λ (t : Rows). size t + size (rows_of n)) (sym (top_told v.bindings sl k _ k' r p q))
