use Rattle.std.proofs.Common.{◌∙◌, subst, sym, List, [], ◌≤◌, length}
use Rattle.spark_base.specs.Lists.{Has}
use Rattle.flow_paths.specs.declared.point.LaidSub.{LaidSub}
use Rattle.flow_paths.specs.Laid.{flow_typing}
use Rattle.laid_program.specs.Programs.{program_of}
use Rattle.alias_rules.specs.Told.{sub_reports}
use Rattle.alias_rules.proofs.Subs.{get_has, adds_all, reports_are}
use Rattle.alias_rules.proofs.whole.alias_reports.Goals as goal

pub report_points-requires-clause-points : goal.report_points-requires-clause-points
report_points-requires-clause-points c p h =
    let subs = c.as_slice-sub-items.result.now in
    let there = get_has subs c.subs.sub-index c.sub-item.result c.subs-test.true in record {
      sub = c.sub-item.result;
      there = subst (λ (l : List LaidSub). Has l c.sub-item.result) c.as_slice-sub-items.ensures (subst (Has subs) (sym c.sub-item.is) there);
      point = subst (λ l. Has l p) c.as_slice.ensures h;
    }

pub returns : goal.returns
returns c =
    let laid = c.args.laid.now in
    let done = subst (λ (l : List LaidSub). length l ≤ c.subs.sub-index) c.as_slice-sub-items.ensures c.subs-test.false in
    adds_all (sub_reports (flow_typing (program_of laid)) c.args.effects.now laid.rows) laid.subs c.subs.sub-index [] c.subs.reports done c.subs.invariant
    ∙ reports_are laid c.args.effects.now
