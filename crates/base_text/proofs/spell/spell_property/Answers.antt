-- `base_text::spell::spell_property` meets its contract. Assumes nothing.
use Prim.Native.Nat.{◌≤◌, ◌-◌}
use mathlib.Core.Path.{◌≡◌, ap, sym, ◌∙◌}
use native.Mathlib.Omega.{arith}
use borrow.Author.Rules.{rules}
use lib.ListN.{length, take, drop}
use Rattle.std.specs.Prelude.{Some, None, Err, is_some}
use Rattle.letters.specs.Characters.{first_width}
use Rattle.base_text.specs.declared.Refusal.TheVariants.{UnknownLetter}
use Rattle.base_text.proofs.FirstCharacter.{width_fits}
use Rattle.base_text.proofs.Pieces.{rest_of}
use Rattle.base_text.proofs.Telling.{letter, capitalized}
use Rattle.base_text.proofs.spell.spell_property.Goals as goal

pub returns-in_err-head : goal.returns-in_err-head
returns-in_err-head c =
    let none : c.head_of.result ≡ None = grind arith in
    let e : c.from_residual.result ≡ Err (UnknownLetter c.args.number) = grind arith in
    rw e (letter _ _ _ _ (sym c.head_of.ensures.told ∙ ap is_some none))

pub slice_bounds-write-count : goal.slice_bounds-write-count
slice_bounds-write-count c =
    let some : c.head_of.result ≡ Some c.in_ok-head.head = grind arith in
    rw (c.head_of.ensures.holds _ some).0 (width_fits c.args.s.now c.requires.1)

pub slice_bounds-write-start : goal.slice_bounds-write-start
slice_bounds-write-start c =
    let some : c.head_of.result ≡ Some c.in_ok-head.head = grind arith in
    let fits : c.in_ok-head.head.width ≤ length c.args.s.now = rw (c.head_of.ensures.holds _ some).0 (width_fits c.args.s.now c.requires.1) in
    search rules

pub returns : goal.returns
returns c =
    let s = c.args.s.now in
    let some : c.head_of.result ≡ Some c.in_ok-head.head = grind arith in
    let h = c.head_of.ensures.holds _ some in
    let rest : take (length s - c.in_ok-head.head.width) (drop c.in_ok-head.head.width s) ≡ drop (first_width s) s = rest_of _ s ∙ rw h.0 in
    capitalized _ _ _ _ _ _ _ _ (sym c.head_of.ensures.told ∙ ap is_some some) (c.bytes.ensures ∙ h.1) rest c.write.ensures
