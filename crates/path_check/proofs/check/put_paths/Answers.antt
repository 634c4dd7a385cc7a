use Rattle.std.proofs.Common.{◌≡◌, ◌+◌, ◌*◌, ◌≤◌, sym, subst, drop, length}
use Rattle.flow_paths.specs.Printing.{printed_name}
use Rattle.point_states.specs.PointTrees.{path_points_of, successors, AreWithin}
use Rattle.path_reports.specs.CalledPoints.{AreListed}
use Rattle.path_check.specs.Verdicts.{sub_steps, all_steps}
use Rattle.path_check.proofs.Premises.{sub_within, sub_listed}
use Rattle.path_check.proofs.Putting.{putting_goes_on, sub_has, same_item, steps_next, steps_left, gains_of}
use Rattle.path_check.proofs.check.put_paths.Goals as goal

pub path_reports-requires-clause-within : goal.path_reports-requires-clause-within
path_reports-requires-clause-within g c =
    let subs = c.args.laid.now.subs in
    let item = same_item c.as_slice-sub-items.result.now subs c.subs.sub-index c.sub-item.result c.sub-item.result c.as_slice-sub-items.ensures
    c.subs-test.true c.sub-item.is in
    let has = sub_has subs c.subs.sub-index c.sub-item.result c.sub-item.result item.0 item.1 in
    subst (λ l. AreWithin (path_points_of l)) (sym c.as_slice-points.ensures) (sub_within c.args.laid.now c.sub-item.result has)

pub path_reports-requires-clause-listed : goal.path_reports-requires-clause-listed
path_reports-requires-clause-listed g c =
    let subs = c.args.laid.now.subs in
    let item = same_item c.as_slice-sub-items.result.now subs c.subs.sub-index c.sub-item.result c.sub-item.result c.as_slice-sub-items.ensures
    c.subs-test.true c.sub-item.is in
    let has = sub_has subs c.subs.sub-index c.sub-item.result c.sub-item.result item.0 item.1 in
    subst (λ l. AreListed l (path_points_of c.as_slice-points.result.now)) (sym c.as_slice.ensures)
    (subst (λ l. AreListed c.sub-item.result.facts (path_points_of l)) (sym c.as_slice-points.ensures) (sub_listed c.args.laid.now c.sub-item.result has))

pub subs-preserved : goal.subs-preserved
subs-preserved g c =
    let laid = c.args.laid.now in
    let sub = c.sub-item.result in
    let item = same_item c.as_slice-sub-items.result.now laid.subs c.subs.sub-index sub sub c.as_slice-sub-items.ensures c.subs-test.true c.sub-item.is in
    let points = c.as_slice-points.ensures in
    let facts = c.as_slice.ensures in
    let cost : successors (path_points_of c.as_slice-points.result.now) * (2 * length c.as_slice.result.now + 2) ≡ sub_steps sub =
    λ i. successors (path_points_of (points i)) * (2 * length (facts i) + 2) in
    let now : c.path_reports.new.steps ≤ c.subs.steps + sub_steps sub = subst (λ n. c.path_reports.new.steps ≤ c.subs.steps + n) cost c.in_ok-path_reports.ensures.cost in
    let left = steps_next laid.subs c.subs.sub-index sub sub item.0 item.1 in (
      putting_goes_on (printed_name laid.table laid.objects) laid.objects c.args.effects.now laid.subs c.subs.sub-index sub sub c.args.set.now
          c.subs.set c.path_reports.new.set item.0 item.1 c.subs.invariant.0
          (gains_of c.infos-table.result.now laid.table c.as_slice-objects.result.now laid.objects c.args.effects.now c.as_slice-points.result.now sub.points
          c.subs.set c.path_reports.new.set c.infos-table.ensures c.as_slice-objects.ensures points c.in_ok-path_reports.ensures.reports),
      steps_left c.path_reports.new.steps c.subs.steps (sub_steps sub) (all_steps (drop (c.subs.sub-index + 1) laid.subs)) _ now
          (subst (λ n. c.subs.steps + n ≤ c.args.steps.now + all_steps laid.subs) left c.subs.invariant.1),
    )
