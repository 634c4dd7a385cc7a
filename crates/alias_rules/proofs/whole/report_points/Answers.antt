use Rattle.std.proofs.Common.{subst, sym, get_or}
use Rattle.alias_rules.specs.Told.{IsPointOf}
use Rattle.alias_rules.proofs.Subs.{get_has}
use Rattle.alias_rules.proofs.whole.report_points.Goals as goal

pub report_point-requires-clause-point : goal.report_point-requires-clause-point
report_point-requires-clause-point c = subst (IsPointOf c.args.laid.now.subs) (sym c.point-item.is)
    (c.requires.points (get_or c.args.points.now c.points.point-index c.point-item.result)
    (get_has c.args.points.now c.points.point-index c.point-item.result c.points-test.true))
