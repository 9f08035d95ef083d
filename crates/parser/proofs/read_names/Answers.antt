-- `parser::read_names` meets its contract. Assumes nothing.
use mathlib.Core.Path.{refl, sym, ◌∙◌}
use Rattle.parser.proofs.Reading.{naming_start, naming_none, naming-ends, naming-next}
use Rattle.parser.proofs.read_names.Goals as goal

pub loop-name-init : goal.loop-name-init
loop-name-init c = naming_start _ _ _

pub returns-then-is_row_header : goal.returns-then-is_row_header
returns-then-is_row_header c = naming-ends c.loop-name.invariant c.in-Some.ensures _ refl (sym c.if-is_row_header.true ∙ c.is_row_header.ensures)

pub loop-name-preserved : goal.loop-name-preserved
loop-name-preserved c =
    naming-next c.loop-name.invariant c.in-Some.ensures _ _ _ (sym c.if-is_row_header.false ∙ c.is_row_header.ensures) c.put_pair.ensures c.put_pair.auto.out c.put_bytes-t.ensures c.put_bytes-t.auto.out

pub returns : goal.returns
returns c = naming_none c.loop-name.invariant c.in_default.ensures
