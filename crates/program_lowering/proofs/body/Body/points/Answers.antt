use Rattle.std.proofs.Common.{◌≡◌, ◌+◌, ◌∷◌, drop, Some, ap, ◌∙◌}
use Rattle.flow_paths.specs.Stands.{flow_point_of}
use Rattle.run_codes.specs.Programs.{append_all, all_points, point}
use Rattle.code_rows.specs.Points.{program_of}
use Rattle.program_lowering.specs.Bodies.{body, points_in}
use Rattle.program_lowering.proofs.Lists.{drop_item, point_on}
use Rattle.program_lowering.proofs.body.Body.points.Goals as goal

pub points-preserved : goal.points-preserved
points-preserved c =
    let rest : drop c.points.point-index c.args.points.now ≡ c.point-item.result ∷ drop (c.points.point-index + 1) c.args.points.now =
    drop_item c.args.points.now c.points.point-index c.point-item.result c.point-item.result c.points-test.true c.point-item.is in (
      c.in_ok-point.ensures.whole,
      c.points.invariant.1
          ∙ (ap (λ all. append_all (Some (program_of c.points.codes).points) (all_points (body c.args.self.now) (points_in c.args.self.now all))) rest
          ∙ point_on (program_of c.points.codes).points (program_of c.point.new.codes).points
          (point (body c.args.self.now) (flow_point_of c.args.self.now.trees.rows.now c.point-item.result))
          (all_points (body c.args.self.now) (points_in c.args.self.now (drop (c.points.point-index + 1) c.args.points.now)))
          c.in_ok-point.ensures.point),
      c.in_ok-point.ensures.subs ∙ c.points.invariant.2,
      c.in_ok-point.ensures.main ∙ c.points.invariant.3,
    )
