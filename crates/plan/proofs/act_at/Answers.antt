-- `plan::act_at` meets its contract. Assumes nothing.
use mathlib.Core.Path.{ap, ◌∙◌}
use Rattle.passes.specs.View.{op_of}
use Rattle.plan.proofs.act_at.Goals as goal

pub returns : goal.returns
returns c = record {
  takes = record {
    becomes = ap op_of c.part_by_part.ensures ∙ c.row_act-act.ensures.takes.becomes;
    first = c.row_act-act.ensures.takes.first;
    later = c.row_act-act.ensures.takes.later;
  };
  small = c.row_act-act.ensures.small;
}
