use Rattle.std.proofs.Common.{◌≡◌, length}
use Rattle.flow_acts.specs.Actless.{AreActless}
use Rattle.flow_acts.proofs.call_rows.actless_marks.Given as goal

abbrev pub invariant-nodes : goal.invariant-nodes
invariant-nodes l = (length l.marks.items ≡ l.i) × AreActless l.rows l.marks.items
