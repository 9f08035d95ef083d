-- `insertion::accessor_declarators` meets its contract. Assumes nothing.
use mathlib.Core.Path.{◌≡◌, refl, ap, sym, ◌∙◌}
use mathlib.Core.Bool.{Bool, cond}
use mathlib.Core.List.{List}
use Prim.Native.Nat.{ℕ}
use native.Mathlib.Omega.{arith}
use denote.Enum.Bare.{sameb}
use lib.Dec.{eqb}
use Rattle.uses.specs.Uses.{access_number}
use Rattle.uses.specs.declared.Access.{Access}
use Rattle.uses.specs.declared.Access.TheVariants.{Set}
use Rattle.uses.specs.contracts.Access.{the_type}
use Rattle.forest.specs.Forest.{size}
use Rattle.output.proofs.Writing.{named}
use Rattle.inserted.specs.Insertions.{accessor_decl}
use Rattle.inserted.proofs.Shapes.{is-set, sets_by, declared_by}
use Rattle.insertion.specs.Declarations.{param_after}
use Rattle.insertion.proofs.Declaring.{going_start, going-low, going-room, going-value, going_next, going_less, going_done}
use Rattle.insertion.proofs.Tops.{held}
use Rattle.insertion.proofs.accessor_declarators.Goals as goal

-- the parameter behind, where the accessor sets
of_set : (M : List ℕ) (cap v n : ℕ) (a : Access) {y : Bool} {r : ℕ} → access_number a ≡ cond (eqb n 4) 4 3 → y ≡ sameb the_type a Set → r ≡ param_after M cap v y → r ≡ param_after M cap v (eqb n 4)
of_set M cap v n a q t e = e ∙ ap (param_after M cap v) (t ∙ is-set a ∙ ap (λ (u : ℕ). eqb u 4) q ∙ sets_by n)

-- its Declarator, by the number of its use
by_use : (b n : ℕ) (a : Access) (x p v : ℕ) → access_number a ≡ cond (eqb n 4) 4 3 → accessor_decl b (access_number a) x p v ≡ accessor_decl b n x p v
by_use b n a x p v q = ap (λ (u : ℕ). accessor_decl b u x p v) q ∙ declared_by b n x p v

pub loop-b-init : goal.loop-b-init
loop-b-init c = (going_start (held c.args.frame) c.first_accessor-b.ensures c.first_param-p.ensures, refl)

pub record-record-requires : goal.record-record-requires
record-record-requires c = (going-low (held c.args.frame) c.loop-b.invariant.0).0

pub after-v-requires : goal.after-v-requires
after-v-requires c = (going-low (held c.args.frame) c.loop-b.invariant.0).1

pub declarator-requires : goal.declarator-requires
declarator-requires c =
    let room = going-room (held c.args.frame) c.loop-b.invariant.0 c.loop-b-test.true c.record-record.ensures.usage c.record-record.ensures.property c.after-v.ensures c.requires in
    let one = ap size (by_use c.loop-b.b c.record-record.result.usage c.from-access.result c.record-record.result.property c.loop-b.p c.after-v.result c.from-access.ensures) in
    omega arith

pub after-p-requires : goal.after-p-requires
after-p-requires c = going-value (held c.args.frame) c.loop-b.invariant.0 c.loop-b-test.true c.record-record.ensures.usage c.record-record.ensures.property c.after-v.ensures

pub next-b-requires : goal.next-b-requires
next-b-requires c = (going-low (held c.args.frame) c.loop-b.invariant.0).0

pub loop-b-smaller : goal.loop-b-smaller
loop-b-smaller c = going_less (held c.args.frame) c.loop-b.invariant.0 c.loop-b-test.true c.next-b.ensures

pub loop-b-preserved : goal.loop-b-preserved
loop-b-preserved c =
    let all = c.args.frame.bindings in
    let past = of_set all.made.now all.cap c.after-v.result c.record-record.result.usage c.from-access.result c.from-access.ensures c.eq.ensures c.after-p.ensures in
    let put = named (sym (by_use _ _ _ _ _ _ c.from-access.ensures)) c.declarator.ensures.rows in (
      going_next (held c.args.frame) c.loop-b.invariant.0 c.loop-b-test.true c.record-record.ensures.usage c.record-record.ensures.property c.after-v.ensures c.next-b.ensures past put,
      c.declarator.ensures.same_reference ∙ c.loop-b.invariant.1,
    )

pub returns : goal.returns
returns c = record {
  same_reference = c.loop-b.invariant.1;
  rows = going_done (held c.args.frame) c.loop-b.invariant.0 c.loop-b-test.false;
}
