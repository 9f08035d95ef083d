-- `names::bad_name` meets its contract. Assumes nothing.
use Prim.Native.Nat.{ℕ, ◌-◌, ◌+◌}
use mathlib.Core.Path.{◌≡◌, ap, ◌∙◌}
use mathlib.Core.Bool.{not}
use lib.ListN.{take, drop}
use borrow.Author.Tests.{lt-ltb, le-ltb}
use Rattle.names.specs.Utf8.{utf8}
use Rattle.names.specs.Names.{bad_name}
use native.Mathlib.Omega.{arith}
use Rattle.names.proofs.bad_name.Goals as goal

pub returns-then-text-end : goal.returns-then-text-end
unfolding bad_name
returns-then-text-end c = rw (← c.pair_at-start.ensures.start.0, ← c.pair_at-start.ensures.len.0, lt-ltb _ _ c.if-text-end.true)

pub returns-then-n : goal.returns-then-n
unfolding bad_name
returns-then-n c = rw (← c.pair_at-start.ensures.start.0, ← c.pair_at-start.ensures.len.0, le-ltb _ _ c.if-text-end.false, c.if-n.true)

pub returns : goal.returns
unfolding bad_name
returns c =
    let start = c.pair_at-start.result.0 in
    let long = c.pair_at-start.result.1 in
    let cut : start + long - start ≡ long = omega arith in
    rw (← c.pair_at-start.ensures.start.0, ← c.pair_at-start.ensures.len.0, le-ltb _ _ c.if-text-end.false, c.if-n.false)
    (ap not (c.is_utf8.ensures ∙ ap (λ (n : ℕ). utf8 (take n (drop start c.args.text.now))) cut))
