-- The reports of some subprograms over their control paths.
use Rattle.std.specs.Prelude.{List}
use Rattle.spark_base.specs.Lists.{Has}
use Rattle.place_names.specs.Reports.{Report}
use Rattle.typed_tree.specs.declared.object.Object.{Object}
use Rattle.flow_paths.specs.declared.point.LaidSub.{LaidSub}
use Rattle.flow_paths.specs.declared.report.Effects.{Effects}
use Rattle.flow_paths.specs.Paths.{PathReport}
use Rattle.path_reports.specs.CalledPoints.{called_points}

pub record OnPaths (objects : List Object) (effects : Effects) (subs : List LaidSub) (r : Report) : Type 0 where
  pub sub : LaidSub
  pub has : Has subs sub
  pub is : PathReport (called_points objects effects sub.points) r
