use Rattle.std.proofs.Common.{◌≤◌, length, arith}
use Rattle.flow_acts.proofs.Calls.{marks_all}
use Rattle.flow_acts.proofs.call_rows.call_marks.Goals as goal

pub returns : goal.returns
returns c =
    let all : length c.args.rows.now.0 ≤ c.nodes.i = grind (arith, c.nodes-test.false, c.len-i-end.ensures) in
    marks_all c.args.rows.now c.nodes.marks.items c.nodes.i c.nodes.invariant.0 all c.nodes.invariant.1
