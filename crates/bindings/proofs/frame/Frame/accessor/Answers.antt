-- `bindings::frame::Frame::accessor` meets its contract. Assumes nothing.
use native.Mathlib.Omega.{arith}
use mathlib.Core.Path.{ap, ◌∙◌}
use Prim.Native.Nat.{◌*◌, ◌<◌}
use lib.ListN.{length, length-drop}
use Rattle.std.proofs.Common.{rules}
use Rattle.uses.specs.Uses.{access_number}
use Rattle.bindings.proofs.Uses.{is-access}
use Rattle.bindings.proofs.Finding.{in_bucket_each, found_number}
use Rattle.bindings.proofs.frame.Frame.accessor.Goals as goal

pub bucket-h-requires : goal.bucket-h-requires
bucket-h-requires c = let all = c.args.self.bindings in let low = c.args.self.low in let small = all.small in (omega arith, omega arith)

pub first_in-requires-clause-bucket : goal.first_in-requires-clause-bucket
first_in-requires-clause-bucket c =
    let all = c.args.self.bindings in
    let l = c.bucket-h.ensures.1 in
    omega (arith, ap length c.table.ensures ∙ length-drop (10 * all.cap) all.made.now, all.store.long)

pub first_in-requires-clause-falls : goal.first_in-requires-clause-falls
first_in-requires-clause-falls c =
    let a = c.args in
    let all = a.self.bindings in
    in_bucket_each a.names.now.pairs.now a.names.now.text.now all.made.now all.cap all.count (access_number a.access) a.self.row a.x c.requires.filed c.bucket-h.result c.bucket-h.ensures.0 c.bucket-h.ensures.1
    _ _ c.table.ensures c.table-2.ensures _ (λ b l k. (omega (arith, ap length c.table-2.ensures ∙ length-drop (11 * all.cap) all.made.now, all.store.long, all.store.room), k))

pub first_in-requires-clause-callable : goal.first_in-requires-clause-callable
first_in-requires-clause-callable c =
    let a = c.args in
    let all = a.self.bindings in
    let room = all.store.room in
    in_bucket_each a.names.now.pairs.now a.names.now.text.now all.made.now all.cap all.count (access_number a.access) a.self.row a.x c.requires.filed c.bucket-h.result c.bucket-h.ensures.0 c.bucket-h.ensures.1
    _ _ c.table.ensures c.table-2.ensures _ (λ b l k. let low : b < all.cap = omega arith in search rules)

pub returns : goal.returns
returns c =
    let a = c.args in
    let all = a.self.bindings in
    let room = all.store.room in
    let f = found_number a.names.now.pairs.now a.names.now.text.now all.made.now all.cap all.count (access_number a.access) a.self.row a.x c.requires.filed c.bucket-h.result c.bucket-h.ensures.0 c.bucket-h.ensures.1
    _ _ c.table.ensures c.table-2.ensures (is-access a.access) _ (λ b t l p. search rules) c.first_in.result c.first_in.ensures in
    (f.0, omega (arith, f.1))
