-- `emit_plan::plans::plan_at` meets its contract. Assumes nothing.
use mathlib.Core.Path.{◌≡◌, ap, sym, subst, ◌∙◌}
use mathlib.Core.Bool.{Bool}
use mathlib.Core.List.{List}
use Prim.Native.Nat.{ℕ, ◌<◌}
use native.Mathlib.Omega.{arith}
use Rattle.names.specs.Words.{words, kind_at, attr_at, name_at}
use Rattle.steps.specs.Mode.{Switches}
use Rattle.steps.specs.Naming.{Names}
use Rattle.steps.specs.Acts.{act}
use Rattle.steps.specs.Context.{late_c, act_c}
use Rattle.steps.specs.Outcome.{names_of}
use Rattle.bindings.specs.Store.{this_at}
use Rattle.below.specs.Below.{children}
use Rattle.steps.specs.Fused.{pass_of}
use Rattle.passes.specs.View.{slot_number, state_number, op_of, Says}
use Rattle.passes.proofs.Kinded.{pass_listed}
use Rattle.acts.specs.View.{switches_of}
use Rattle.acts.specs.declared.act.Act.{Act}
use Rattle.plan.specs.declared.place.Place.{Place}
use Rattle.plan.specs.Frames.{FramesBelow, Small}
use Rattle.plan.specs.Taking.{Takes, ActLow}
use Rattle.plan.specs.Placing.{place_of}
use Rattle.plan.proofs.Acted.{acted_late}
use Rattle.plan.proofs.Frames.{row_act_low}
use Rattle.emit_plan.specs.declared.Walk.{Walk}
use Rattle.emit_plan.proofs.Planning.{plan_is}
use Rattle.emit_plan.proofs.plans.plan_at.Goals as goal

-- the act of row i is the steps' act, and its frames are those of the array
module _ (v : Walk) (q : Place) (i : ℕ) where
  abbrev N : Names
  N = names_of v.names.pairs.now v.names.text.now

  abbrev w : Switches
  w = switches_of v.switches

  abbrev ws : List ℕ
  ws = words v.rows.now

  decided : {late : Bool} (r : Act Place) → i < v.bindings.cap → FramesBelow v.bindings.cap (place_of q).ctx → Small ws i
      → late ≡ late_c N w (place_of q) i (kind_at ws i) (attr_at ws i) (children ws i)
      → Takes w (place_of q).ctx (act N w late (place_of q).ctx (place_of q).slot i (kind_at ws i) (attr_at ws i) (name_at ws i) (children ws i)) r
      → Takes w (place_of q).ctx (act_c N w (place_of q) i (kind_at ws i) (attr_at ws i) (name_at ws i) (children ws i)) r × ActLow v.bindings.cap r
  decided r within below small late takes =
      let d = acted_late N w (place_of q) i (kind_at ws i) (attr_at ws i) (name_at ws i) (children ws i) late takes in
      (d, row_act_low N w (place_of q) ws i v.bindings.cap within below small r d)

pub invariant_of-node : goal.invariant_of-node
invariant_of-node c = record { known = c.requires.at }

pub invariant_of-opened : goal.invariant_of-opened
invariant_of-opened c =
    let v = c.args.walk.now in
    let within : c.args.i < v.bindings.cap = (let r = c.requires.at.row in let h = c.requires.holds.rows_low in omega arith) in
    let both = decided v c.args.q c.args.i c.act_at-act.result within c.requires.frames_below.0 c.act_at-act.ensures.small c.is_late-late.ensures c.act_at-act.ensures.takes in
    record { low = subst (λ (f : ℕ). f < v.bindings.cap) (sym c.this_at.ensures.value) both.1.more.this }

pub returns : goal.returns
returns c =
    let v = c.args.walk.now in
    let within : c.args.i < v.bindings.cap = (let r = c.requires.at.row in let h = c.requires.holds.rows_low in omega arith) in
    let both = decided v c.args.q c.args.i c.act_at-act.result within c.requires.frames_below.0 c.act_at-act.ensures.small c.is_late-late.ensures c.act_at-act.ensures.takes in
    let all = plan_is v.rows.now v.names.pairs.now v.names.text.now v c.args.bind (state_number c.args.state) c.args.q c.args.i c.slot-slot.result
    c.head_at-head.result.kind c.head_at-head.result.attr c.head_at-head.result.name c.end_at-end.result c.this_of-m.result c.over_super-sup.result
    c.super_call-called.result c.act_at-act.result c.pass_of-pass.result c.requires.at v.names.given c.requires.holds c.requires.frames_below.0
    c.requires.frames_below.1 c.slot-slot.ensures c.head_at-head.ensures.kind c.head_at-head.ensures.attr c.head_at-head.ensures.name
    c.end_at-end.ensures.0 both.0 c.act_at-act.ensures.small both.1.more.this (c.this_of-m.ensures ∙ ap (this_at v.bindings.made.now
    v.bindings.cap) c.this_at.ensures.value) c.over_super-sup.ensures c.super_call-called.ensures
    (subst (Says c.pass_of-pass.result) (ap (λ (k : ℕ). pass_of c.args.bind (state_number c.args.state) (slot_number c.slot-slot.result) k c.this_of-m.result c.over_super-sup.result
    c.super_call-called.result (op_of c.act_at-act.result.op)) c.from-kind.ensures ∙ pass_listed _ _ _ _ _ _ _ _) c.pass_of-pass.ensures) in
    record {
      planned = all.0;
      row_pre = all.1;
    }
