-- `numbers::Tables::enter_names` meets its contract. Assumes nothing.
use native.Mathlib.Omega.{arith}
use Prim.Native.Nat.{ℕ, ◌+◌}
use mathlib.Core.Path.{ap, ◌∙◌}
use mathlib.Core.List.{List}
use Rattle.names.specs.Names.{bytes_of}
use Rattle.numbers.specs.Lent.{put}
use Rattle.numbers.proofs.Making.{filing_start, filing_next, entering_done}
use Rattle.numbers.proofs.Tables.enter_names.Goals as goal

pub loop-k-init : goal.loop-k-init
loop-k-init c = filing_start c.requires.found

pub enter-requires : goal.enter-requires
enter-requires c =
    let S = c.loop-k.invariant.same in
    let F = c.requires.fits in
    record { some = omega (arith, S.long.0, F.some); inside = omega (arith, S.long.1, F.inside, c.named-count.ensures); low = omega (arith, F.low, c.named-count.ensures) }

pub loop-k-preserved : goal.loop-k-preserved
loop-k-preserved c =
    let k = c.loop-k.k + 1 in
    let n = c.names-names.ensures in
    let spelled = c.bytes_of-name.ensures ∙ ap (λ (l : List ℕ). bytes_of l c.names-names.result.text.now k) n.0 ∙ ap (λ (l : List ℕ). bytes_of c.args.self.now.checked.script.names.now l k) n.1 in
    filing_next c.loop-k.invariant (omega (arith, c.loop-k-test.true, c.named-count.ensures)) c.requires.fits (c.enter.ensures ∙ ap (λ (x : List ℕ). put c.loop-k.self x k) spelled)

pub returns : goal.returns
returns c =
    let I = c.loop-k.invariant in
    record { same = I.same; found_2 = entering_done _ _ I.entering (omega (arith, c.loop-k-test.false, c.named-count.ensures)); rest = (I.reached, I.numbers) }
