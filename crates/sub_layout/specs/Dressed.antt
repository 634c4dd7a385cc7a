-- Points with what their instructions do to places put in, before it is known what the end of a
-- call looks at (docs/FLOW.md, "Points").
use Rattle.std.specs.Prelude.{ℕ, Bool, true, List, [], map, Option}
use Rattle.std.specs.List.{list_any}
use Rattle.typed_tree.specs.Nodes.{TypedNodes}
use Rattle.flow_paths.specs.declared.point.Point.{Point}
use Rattle.flow_paths.specs.Limits.{NameAt, is_deep, point_names}
use Rattle.flow_paths.specs.Points.{FlowPoint}
use Rattle.flow_paths.specs.Stands.{flow_point_of}
use Rattle.numbered_points.specs.Prepared.{Maker}
use Rattle.bare_points.specs.Bare.{bares, dress}
use Rattle.flow_acts.specs.Frames.{frame}
use Rattle.flow_acts.specs.declared.writer.ActWriter.{ActWriter}

-- What the points of a subprogram are made by that gives a value of this type, where it is a
-- function. Whether temporaries have numbers makes no difference to what is put in.
abbrev pub making : ActWriter → Option ℕ → Maker
making w given = record { frame = frame w given []; counted = true }

-- The points that bare ones become.
abbrev pub dressed_in : ActWriter → Option ℕ → List Point → List FlowPoint
dressed_in w given points = map (dress (making w given)) (bares w.rows.now points)

-- The points that code has, as those of the definitions.
abbrev pub points_in : TypedNodes → List Point → List FlowPoint
points_in rows points = map (flow_point_of rows) points

-- Some name of a point is too deep.
abbrev pub is_deep_point : FlowPoint → Bool
is_deep_point p = list_any (λ (n : NameAt). is_deep n.name) (point_names p)

abbrev pub has_deep_point : List FlowPoint → Bool
has_deep_point points = list_any is_deep_point points
