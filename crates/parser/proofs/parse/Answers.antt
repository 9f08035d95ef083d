-- `parser::parse` meets its contract. Assumes nothing.
use mathlib.Core.Path.{refl}
use native.Mathlib.Omega.{arith}
use Rattle.acts.specs.View.{switches_of}
use lib.ListN.{length}
use Rattle.parser.proofs.Sheets.{within, handed, fault, names-fault, rows-fault, sheet_read}
use Rattle.parser.proofs.parse.Goals as goal

pub returns-in_err-switches : goal.returns-in_err-switches
returns-in_err-switches c = rw (handed _ _ c.from_residual.ensures.1) (within (length c.args.s.now) 131072 c.requires.0 (fault _ c.in_err-switches.ensures.0 (omega (arith, c.in_err-switches.ensures.1))))

pub returns-in_err-names : goal.returns-in_err-names
returns-in_err-names c =
    let h = c.in_ok-switches.ensures in
    rw (handed _ _ c.from_residual-in_err-names.ensures.1) (within (length c.args.s.now) 131072 c.requires.0 (names-fault c.args.s.now (switches_of c.in_ok-switches.switches) _ h.0 h.1 c.in_err-names.ensures))

pub returns-in_err-n : goal.returns-in_err-n
returns-in_err-n c =
    let h = c.in_ok-switches.ensures in
    let r = c.in_err-n.ensures in
    rw (handed _ _ c.from_residual-in_err-n.ensures.1) (within (length c.args.s.now) 131072 c.requires.0 (rows-fault c.args.s.now (switches_of c.in_ok-switches.switches) h.0 h.1 c.in_ok-names.ensures _ r.0 r.1))

pub returns : goal.returns
returns c =
    let h = c.in_ok-switches.ensures in
    let r = c.in_ok-n.ensures in
    within (length c.args.s.now) 131072 c.requires.0 (sheet_read c.args.s.now _ h.0 h.1 c.in_ok-names.ensures _ r.0 r.1 _ refl)
