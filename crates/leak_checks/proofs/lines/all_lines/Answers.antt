use Rattle.std.proofs.Common.{◌+◌, ◌≤◌, subst, drop}
use Rattle.path_check.specs.Verdicts.{sub_steps, all_steps}
use Rattle.path_check.proofs.Premises.{sub_within}
use Rattle.path_check.proofs.Putting.{sub_has, same_item, steps_next, steps_left}
use Rattle.leak_checks.proofs.Telling.{telling_goes_on}
use Rattle.leak_checks.proofs.lines.all_lines.Goals as goal

pub push_sub-requires : goal.push_sub-requires
push_sub-requires g c =
    let laid = c.args.laid.now in
    let sub = c.sub-item.result in
    let item = same_item c.as_slice-sub-items.result.now laid.subs c.subs.sub-index sub sub c.as_slice-sub-items.ensures c.subs-test.true c.sub-item.is in
    sub_within laid sub (sub_has laid.subs c.subs.sub-index sub sub item.0 item.1)

pub subs-preserved : goal.subs-preserved
subs-preserved g c =
    let laid = c.args.laid.now in
    let sub = c.sub-item.result in
    let item = same_item c.as_slice-sub-items.result.now laid.subs c.subs.sub-index sub sub c.as_slice-sub-items.ensures c.subs-test.true c.sub-item.is in
    let left = steps_next laid.subs c.subs.sub-index sub sub item.0 item.1 in (
      telling_goes_on laid c.subs.sub-index sub sub c.subs.lines.items c.push_sub.new.lines.items item.0 item.1 c.subs.invariant.0 c.in_ok-push_sub.ensures.lines,
      steps_left c.push_sub.new.steps c.subs.steps (sub_steps sub) (all_steps (drop (c.subs.sub-index + 1) laid.subs)) _ c.in_ok-push_sub.ensures.cost
          (subst (λ n. c.subs.steps + n ≤ c.args.steps.now + all_steps laid.subs) left c.subs.invariant.1),
    )
