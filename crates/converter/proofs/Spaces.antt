-- An array of zeros holds no binding, and no accessor in a bucket. Assumes nothing.
use mathlib.Core.Path.{◌≡◌, ◌∙◌}
use mathlib.Core.Bool.{true, ◌||◌}
use mathlib.Core.List.{List, []}
use Prim.Native.Nat.{ℕ, ◌+◌, ◌*◌, ◌<◌, ◌≤◌}
use lib.ListN.{replicate, length-replicate}
use lib.Seq.{get_or-drop}
use Rattle.names.specs.Words.{rows_in}
use Rattle.names.proofs.Zeros.{zeros}
use Rattle.steps.specs.Mode.{Switches, enabled, async_only}
use Rattle.bindings.specs.Store.{Store}
use Rattle.walks.specs.Ready.{Ready}
use Rattle.bindings.specs.Filed.{Filed, behind}
use Rattle.bindings.proofs.Numbered.{no_bindings}
use Rattle.bindings.proofs.Filing.{none_filed}

pub zero_store : (n cap : ℕ) → n ≡ 12 * cap → 0 < cap → Store (replicate n 0) cap 0
zero_store n cap q l = no_bindings (replicate n 0) cap (rw q (length-replicate (12 * cap) 0)) l (zeros n)

pub zero_filed : (names text : List ℕ) (n cap : ℕ) → Filed names text (behind cap (replicate n 0)) cap []
zero_filed names text n cap = none_filed names text (behind cap (replicate n 0)) cap (λ i. get_or-drop (10 * cap) (replicate n 0) i 0 ∙ zeros n (10 * cap + i))

-- a table of at most cap rows, over an array of 12 words for each: what `write_result` requires
pub over_zeros : {w : Switches} {rows names text : List ℕ} (n cap : ℕ) → n ≡ 12 * cap → 0 < cap → cap ≤ 16384
    → ((enabled w || async_only w) ≡ true) × (rows_in rows ≤ cap) → Ready w rows names text (replicate n 0) cap
over_zeros {names = names} {text = text} n cap q l m h =
    record { on = h.0; empty = zero_store n cap q l; unfiled = zero_filed names text n cap; low = m; fits = h.1 }
