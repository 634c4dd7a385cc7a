use Rattle.std.proofs.Common.{◌≡◌, ◌<◌, ◌∙◌, refl, List, length, vec_len, Option, None, arith}
use Rattle.state_trees.specs.FactStates.{FactState}
use Rattle.flow_paths.specs.Printing.{printed_name}
use Rattle.point_states.specs.PointTrees.{tree_at}
use Rattle.point_states.proofs.Carried.{same_default}
use Rattle.path_reports.proofs.Putting.{points_next, kept_next, same_first, same_past}
use Rattle.path_reports.proofs.reports.put_points.Goals as goal

pub points-init : goal.points-init
points-init c = (c.requires.count, refl, λ q h. absurd (omega (arith, h)), refl)

pub points-preserved : goal.points-preserved
points-preserved c =
    let objects = c.args.objects.now in
    let effects = c.args.effects.now in
    let points = c.args.points.now in
    let all : List (Option FactState) = c.args.trees.items in
    let old : List (Option FactState) = c.points.trees.items in
    let within : c.points.p < length points = c.points-test.true in
    let trees : length all ≡ length points = omega (arith, c.args.trees.ok.0, c.requires.count) in
    let sized : vec_len c.points.trees ≡ length points = c.points.invariant.0 in
    let here : c.points.p < length old = omega (arith, c.points.trees.ok.0, sized, within) in
    let is : c.take.result ≡ tree_at all c.points.p =
    c.take.ensures.value ∙ c.index_mut.ensures.value ∙ same_default old c.points.p _ None here
    ∙ same_first old all c.points.p None c.points.invariant.1 in (
      sized,
      same_past old all c.points.p _ c.points.invariant.1,
      kept_next all c.points.p c.take.result None is (omega (arith, within, trees)) c.in_ok-put_where.ensures.kept c.points.invariant.2,
      points_next (printed_name c.args.table.now objects) objects effects points all c.points.p c.index-points-p.result _ c.take.result None
          c.points.set c.put_where.new.set _ within trees c.index-points-p.is is c.in_ok-put_where.ensures.set c.points.invariant.3,
    )
