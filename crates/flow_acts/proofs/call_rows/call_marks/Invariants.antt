use Rattle.std.proofs.Common.{◌≡◌, length}
use Rattle.flow_acts.proofs.Calls.{IsMarked}
use Rattle.flow_acts.proofs.call_rows.call_marks.Given as goal

abbrev pub invariant-nodes : goal.invariant-nodes
invariant-nodes l = (length l.marks.items ≡ l.i) × IsMarked l.rows l.marks.items l.i
