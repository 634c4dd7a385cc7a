use Rattle.std.proofs.Common.{◌∙◌, ap, map}
use Rattle.flow_paths.specs.Printing.{printed_name}
use Rattle.leak_checks.specs.PrintedLines.{Printed}
use Rattle.leak_checks.proofs.Ordered.{ordered_lines}
use Rattle.leak_checks.proofs.plan.in_order.Goals as goal

pub returns : goal.returns
returns c =
    ordered_lines (printed_name c.args.table.now c.args.objects.now) c.args.lines.now c.in_ok-without_texts.field-0.items c.in_ok-texts.texts.items
    c.sort_unstable.new.self.items c.in_ok-texts.ensures c.sort_unstable.ensures.permutation c.sort_unstable.ensures.sorted
    (c.in_ok-without_texts.ensures ∙ ap (map (λ (p : Printed). p.line)) c.deref.ensures.value)
