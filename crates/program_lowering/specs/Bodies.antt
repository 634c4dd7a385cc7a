-- What the points of a subprogram are lowered by in the code, as the definitions have it.
use Rattle.std.specs.Prelude.{List, [], map}
use Rattle.flow_paths.specs.declared.point.Point.{Point}
use Rattle.flow_paths.specs.Points.{FlowPoint}
use Rattle.flow_paths.specs.Stands.{flow_point_of}
use Rattle.program_typing.specs.Typings.{typing}
use Rattle.run_codes.specs.Programs.{Around}
use Rattle.run_lowering.specs.Offsets.{kept_in}
use Rattle.program_lowering.specs.declared.body.Body.{Body}

abbrev pub body : Body → Around
body b = record {
  site = record {
    typing = typing b.trees.typing;
    own = map kept_in b.frame.now.kept.items;
    package_objects = map kept_in b.packages.now.kept.items;
    takes = [];
  };
  result = b.result;
  first = b.first;
  count = b.count;
  is_first = b.is_first;
}

abbrev pub points_in : Body → List Point → List FlowPoint
points_in b points = map (flow_point_of b.trees.rows.now) points
