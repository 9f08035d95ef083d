-- `collect::meet` meets its contract. Assumes nothing.
use mathlib.Core.Path.{refl}
use Rattle.steps.specs.Outcome.{names_of}
use Rattle.collect.proofs.Meeting.{filed_now, name-filed, row_meets, drop_meets, name-asks, name_meets, property-small, call_asks, call-meets}
use native.Mathlib.Omega.{arith}
use Rattle.collect.proofs.meet.Goals as goal

pub capture-requires : goal.capture-requires
capture-requires c =
    name-asks (names_of c.args.names.now.pairs.now c.args.names.now.text.now) c.args.maker.now.made.now c.args.maker.now.cap c.args.maker.now.count c.args.op c.in-Name.usage _ c.in-Name.is c.requires.meets

pub overflow_cast-property : goal.overflow_cast-property
overflow_cast-property c =
    let s = property-small (names_of c.args.names.now.pairs.now c.args.names.now.text.now) c.args.maker.now.made.now c.args.maker.now.cap c.args.maker.now.count c.args.op c.in-Call.usage _ _ _ c.in-Call.is c.requires.meets in
    omega arith

pub note_super-requires : goal.note_super-requires
note_super-requires c =
    let a = call_asks (names_of c.args.names.now.pairs.now c.args.names.now.text.now) c.args.maker.now.made.now c.args.maker.now.cap c.args.maker.now.count c.args.op c.in-Call.usage _ _ _ c.in-Call.is c.requires.meets in record {
      asked = a;
      filed = c.requires.filed;
    }

pub returns-in-Row : goal.returns-in-Row
returns-in-Row c = record {
  same_reference = refl;
  cap_value = refl;
  kept = row_meets (names_of c.args.names.now.pairs.now c.args.names.now.text.now) c.args.maker.now.made.now c.args.maker.now.cap c.args.maker.now.count c.args.op _ _ _ c.in-Row.is c.requires.meets;
  filed_2 = c.requires.filed;
}

pub returns-in-Drop : goal.returns-in-Drop
returns-in-Drop c = record {
  same_reference = refl;
  cap_value = refl;
  kept = drop_meets (names_of c.args.names.now.pairs.now c.args.names.now.text.now) c.args.maker.now.made.now c.args.maker.now.cap c.args.maker.now.count c.args.op c.in-Drop.is c.requires.meets;
  filed_2 = c.requires.filed;
}

pub returns-in-Name : goal.returns-in-Name
returns-in-Name c =
    let names = c.args.names.now in
    let maker = c.args.maker.now in
    let E = c.capture.ensures in
    let kept = name_meets (names_of names.pairs.now names.text.now) maker.made.now maker.cap maker.count c.args.op c.in-Name.usage _ c.in-Name.is c.requires.meets _ _ E.kept in
    let filed = name-filed (names_of names.pairs.now names.text.now) maker.made.now maker.cap maker.count c.args.op c.in-Name.usage _ c.in-Name.is c.requires.meets _ E.cap_value c.requires.filed E.made_unchanged in
    record {
      same_reference = E.same_reference;
      cap_value = E.cap_value;
      kept = kept;
      filed_2 = filed_now filed kept E.cap_value;
    }

pub returns-in-Call : goal.returns-in-Call
returns-in-Call c =
    let names = c.args.names.now in
    let maker = c.args.maker.now in
    record {
      same_reference = c.note_super.ensures.same_reference;
      cap_value = c.note_super.ensures.cap_value;
      kept = call-meets (names_of names.pairs.now names.text.now) maker.made.now maker.cap maker.count c.args.op c.in-Call.usage _ _ _ c.in-Call.is c.requires.meets _ _ c.note_super.ensures.kept;
      filed_2 = c.note_super.ensures.filed_2;
    }
