-- `form::Form::take_piece` meets its contract. Assumes nothing.
use Rattle.std.proofs.Common.{◌≡◌, ◌+◌, ◌≤◌, drop}
use Rattle.form.specs.Form.{scan, point_of}
use Rattle.form.proofs.Form.take_piece.Given as goal

abbrev pub invariant-loop-c : goal.invariant-loop-c
invariant-loop-c l = record {
  same : scan (point_of l.self) (drop l.c-index l.piece) ≡ scan (point_of l.initial.self) l.piece;
  near : l.self.line ≤ l.initial.self.line + l.c-index;
  on : l.initial.self.line ≤ l.self.line;
}
