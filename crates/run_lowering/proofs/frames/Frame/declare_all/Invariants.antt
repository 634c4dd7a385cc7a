use Rattle.std.proofs.Common.{◌≡◌, map, drop}
use Rattle.typed_tree.specs.Nodes.{TypedNodes}
use Rattle.flow_paths.specs.Stands.{flow_point_of}
use Rattle.program_typing.specs.Typings.{typing}
use Rattle.run_codes.specs.Programs.{rooms_of}
use Rattle.run_lowering.specs.Offsets.{kept_in}
use Rattle.run_lowering.specs.Frames.{IsFrame}
use Rattle.run_lowering.proofs.frames.Frame.declare_all.Given as goal

abbrev pub invariant-points : goal.invariant-points
invariant-points l = record {
  frame : IsFrame (typing l.typing) l.self;
  kept : (rows : TypedNodes) → rooms_of (map (flow_point_of rows) (drop l.point-index l.points)) (map kept_in l.self.kept.items)
      ≡ rooms_of (map (flow_point_of rows) l.points) (map kept_in l.initial.self.kept.items);
}
