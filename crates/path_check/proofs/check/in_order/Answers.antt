use Rattle.std.proofs.Common.{◌∙◌, ap, map}
use Rattle.report_lists.specs.PrintedReports.{Printed}
use Rattle.path_check.proofs.Putting.{order_next, order_done}
use Rattle.path_check.proofs.check.in_order.Goals as goal

pub ordered-preserved : goal.ordered-preserved
ordered-preserved c =
    order_next c.deref-printed-items.result.now c.ordered.printed-index c.printed-item.result c.printed-item.result c.ordered.reports c.push.new.self
    c.in_ok-without_text.field-0 c.ordered-test.true c.printed-item.is c.in_ok-push.ensures.ok c.in_ok-without_text.ensures c.ordered.invariant

pub returns-clause-reports : goal.returns-clause-reports
returns-clause-reports c =
    order_done c.deref-printed-items.result.now c.ordered.printed-index c.ordered.reports c.ordered-test.false c.ordered.invariant
    ∙ ap (map (λ (p : Printed). p.report)) (c.deref-printed-items.ensures.value ∙ c.in_ok-ordered.ensures.items)
