-- The subprograms and points that code has, as those of the definitions: names and expressions
-- stand in rows of nodes there.
use Rattle.std.specs.Prelude.{map}
use Rattle.typed_tree.specs.Nodes.{TypedNodes, typed_at, typed_code_at}
use Rattle.flow_paths.specs.declared.point.Point.{Point}
use Rattle.flow_paths.specs.declared.point.LaidSub.{LaidSub}
use Rattle.flow_paths.specs.Instructions.{instruction_of}
use Rattle.flow_paths.specs.Points.{FlowPoint}
use Rattle.flow_paths.specs.Laid.{FlowSub}

abbrev pub flow_point_of : TypedNodes → Point → FlowPoint
flow_point_of rows p = record {
  pos = p.pos;
  acts = p.acts;
  leaks = p.leaks;
  instr = instruction_of (typed_at rows) (typed_code_at rows) p.instr;
  next = p.next;
}

abbrev pub flow_sub_of : TypedNodes → LaidSub → FlowSub
flow_sub_of rows sub = record {
  pos = sub.pos;
  words = sub.object_words;
  formals = sub.formals;
  result = sub.result;
  points = map (flow_point_of rows) sub.points;
  facts = sub.facts;
}
