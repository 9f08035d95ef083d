-- `form::Form::end_line` meets its contract. Assumes nothing.
use mathlib.Core.Path.{refl, ap, ◌∙◌}
use mathlib.Core.Bool.{not}
use native.Mathlib.Omega.{arith}
use Rattle.form.proofs.Ending.{is_faulty, is_rows, moved-on, byte_low}
use Rattle.form.proofs.Form.end_line.Goals as goal

pub returns : goal.returns
returns c =
    let f = c.args.self.now in (
      moved-on _ _ f.line f.rows (c.ne-goes_on.ensures ∙ ap not (is_faulty c.after-next.result)) (c.eq-is_row.ensures ∙ is_rows f.part) c.from.ensures c.from-2.ensures ∙ c.after-next.ensures.ends f.line,
      refl,
      omega (arith, byte_low c.ne-goes_on.result, c.from.ensures),
      omega (arith, c.from.ensures),
    )
