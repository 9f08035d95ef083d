-- `collect::leave` meets its contract. Assumes nothing.
use Prim.Native.Nat.{◌<◌}
use mathlib.Core.Path.{refl, ap, sym, subst, ◌∙◌}
use mathlib.Core.Bool.{not}
use mathlib.Core.List.{List}
use lib.ListN.{length}
use Rattle.steps.specs.Bindings.{Binding}
use Rattle.bindings.specs.Store.{binds}
use Rattle.passes.specs.View.{op_of}
use Rattle.acts.specs.View.{context_of}
use Rattle.collect.proofs.Meeting.{leave_none, leave-some}
use Rattle.collect.proofs.leave.Goals as goal

pub returns-else-is_called-context : goal.returns-else-is_called-context
returns-else-is_called-context c =
    record {
      same_reference = refl;
      cap_value = refl;
      kept = record {
        store = c.requires.store;
        list = sym (leave_none (context_of c.args.context) (op_of c.args.op)
            (binds c.args.maker.now.made.now c.args.maker.now.cap c.args.maker.now.count) c.is_called.result c.is_called.ensures (ap not c.if-is_called-context.false));
      };
      made_unchanged = refl;
    }

pub capture-requires : goal.capture-requires
capture-requires c = record {
  store = c.requires.store;
  row_low = c.requires.row_low;
  cap_low = c.requires.cap_low;
  room = subst (λ
      (l : List Binding). length l < c.args.maker.now.cap) (leave-some (context_of c.args.context) (op_of c.args.op)
      (binds c.args.maker.now.made.now c.args.maker.now.cap c.args.maker.now.count) c.is_called.result c.is_called.ensures (ap not c.if-is_called-context.true)) c.requires.room;
}

pub returns-then-is_called-context : goal.returns-then-is_called-context
returns-then-is_called-context c =
    record {
      same_reference = c.capture.ensures.same_reference;
      cap_value = c.capture.ensures.cap_value;
      kept = record {
        store = c.capture.ensures.kept.store;
        list = c.capture.ensures.kept.list ∙ sym (leave-some (context_of c.args.context)
            (op_of c.args.op) (binds c.args.maker.now.made.now c.args.maker.now.cap c.args.maker.now.count) c.is_called.result c.is_called.ensures (ap not c.if-is_called-context.true));
      };
      made_unchanged = c.capture.ensures.made_unchanged;
    }
