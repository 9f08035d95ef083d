-- `bindings::maker::FrameState::note_super` meets its contract. Assumes nothing.
use Prim.Native.Nat.{◌<◌}
use mathlib.Core.Path.{sym, subst}
use mathlib.Core.List.{List}
use lib.ListN.{length}
use Rattle.uses.specs.Uses.{access_number}
use Rattle.steps.specs.Bindings.{Binding}
use Rattle.steps.specs.Outcome.{names_of}
use Rattle.bindings.specs.Store.{binds}
use Rattle.bindings.proofs.Finding.{note-some, note_new, one_more}
use Rattle.bindings.proofs.Uses.{is-access, noted}
use Rattle.bindings.proofs.Filing.{super_kept, super_files}
use Rattle.bindings.proofs.maker.FrameState.note_super.Goals as goal

pub returns-then-accessor-ne0-clause-kept : goal.returns-then-accessor-ne0-clause-kept
returns-then-accessor-ne0-clause-kept c =
    let a = c.args in
    let names = names_of a.names.now.pairs.now a.names.now.text.now in
    record {
      store = c.requires.asked.store;
      list = sym (note-some names (access_number a.access) a.self.row a.x (binds a.made.now a.cap a.self.count) _ c.accessor.ensures.0 c.if-accessor-ne0.true);
    }

pub add-b-requires-clause-room : goal.add-b-requires-clause-room
add-b-requires-clause-room c =
    let A = c.requires.asked in
    let a = c.args in
    let made = a.made.now in
    let fresh = note_new (names_of a.names.now.pairs.now a.names.now.text.now) (access_number a.access) a.self.row a.x (binds made a.cap a.self.count) _ c.accessor.ensures.0 c.if-accessor-ne0.false in
    let more = subst (λ (l : List Binding). length l < a.cap) fresh A.room in
    record { store = A.store; row_low = A.row_low; cap_low = A.cap_low; more = one_more made a.cap a.self.count _ more }

pub returns-clause-kept : goal.returns-clause-kept
returns-clause-kept c =
    let a = c.args in
    let names = a.names.now.pairs.now in
    let text = a.names.now.text.now in
    let made = a.made.now in
    let e = c.add-b.ensures in
    let h = c.bucket-h in
    let fresh = note_new (names_of names text) (access_number a.access) a.self.row a.x (binds made a.cap a.self.count) _ c.accessor.ensures.0 c.if-accessor-ne0.false in
    super_kept names text made a.cap a.self.count c.requires.filed (access_number a.access) a.self.row a.x (is-access a.access)
    _ c.add-b.result (noted _ _ _ c.from.ensures e.kept) e.made_unchanged e.value h.result h.ensures.0 h.ensures.1 _ c.file.ensures _ fresh

pub returns-clause-filed_2 : goal.returns-clause-filed_2
returns-clause-filed_2 c =
    let a = c.args in
    let names = a.names.now.pairs.now in
    let text = a.names.now.text.now in
    let made = a.made.now in
    let e = c.add-b.ensures in
    let kept = noted _ _ _ c.from.ensures e.kept in
    let h = c.bucket-h in
    let fresh = note_new (names_of names text) (access_number a.access) a.self.row a.x (binds made a.cap a.self.count) _ c.accessor.ensures.0 c.if-accessor-ne0.false in
    super_files names text made a.cap a.self.count c.requires.filed (access_number a.access) a.self.row a.x (is-access a.access)
    _ c.add-b.result kept e.made_unchanged e.value h.result h.ensures.0 h.ensures.1 _ c.file.ensures _ fresh
