-- States that are carried, counted over the points that code has.
use Rattle.std.proofs.Common.{◌≡◌, refl, sym, ap, ◌∙◌, ◌+◌, ◌*◌, List, [], ◌∷◌, map, length}
use Rattle.std.specs.List.{sum_by}
use Rattle.std.proofs.lemmas.List.Sums.{sum_by-cons}
use Rattle.typed_tree.specs.Nodes.{TypedNodes}
use Rattle.flow_paths.specs.declared.point.Point.{Point}
use Rattle.flow_paths.specs.declared.point.LaidSub.{LaidSub}
use Rattle.flow_paths.specs.Points.{FlowPoint}
use Rattle.flow_paths.specs.Stands.{flow_point_of, flow_sub_of}
use Rattle.point_states.specs.PointTrees.{path_points_of, successors}
use Rattle.laid_program.specs.declared.laid.Laid.{Laid}
use Rattle.laid_program.specs.Programs.{program_of}
use Rattle.path_check.specs.Verdicts as code
use Rattle.path_check.specs.Verdicts.{all_steps}
use Rattle.program_check.specs.Steps.{successors_of, sub_steps, program_steps}

successors_same : (rows : TypedNodes) (points : List Point)
    → successors (path_points_of points) ≡ successors_of (map (flow_point_of rows) points)
successors_same rows [] = refl
successors_same rows (p ∷ rest) =
    ap (λ n. length p.next + n) (successors_same rows rest)
    ∙ sym (sum_by-cons (λ (q : FlowPoint). length q.next) (flow_point_of rows p) (map (flow_point_of rows) rest))

sub_same : (rows : TypedNodes) (sub : LaidSub) → code.sub_steps sub ≡ sub_steps (flow_sub_of rows sub)
sub_same rows sub = ap (λ n. n * (2 * length sub.facts + 2)) (successors_same rows sub.points)

subs_same : (rows : TypedNodes) (subs : List LaidSub) → all_steps subs ≡ sum_by sub_steps (map (flow_sub_of rows) subs)
subs_same rows [] = refl
subs_same rows (sub ∷ subs) =
    (λ i. sub_same rows sub i + subs_same rows subs i) ∙ sym (sum_by-cons sub_steps (flow_sub_of rows sub) (map (flow_sub_of rows) subs))

pub steps_counted : (laid : Laid) → all_steps laid.subs ≡ program_steps (program_of laid)
steps_counted laid = subs_same laid.rows laid.subs
