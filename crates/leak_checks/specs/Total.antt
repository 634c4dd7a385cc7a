-- The order of lines with texts is a total one, as sorting needs it.
use Rattle.std.specs.Cmp.{IsTotalOrder, nat_cmp_total, bool_cmp_total, on_total, then_total, back_total}
use Rattle.std.specs.Cmp.Lexicographic.{lists_total, nat_list_cmp_total}
use Rattle.spark_base.proofs.Positions.{position_cmp_total}
use Rattle.place_names.proofs.Reports.{selector_cmp_total}
use Rattle.leak_checks.specs.PrintedLines.{Printed, check_cmp, printed_cmp}

check_cmp_total : IsTotalOrder check_cmp
check_cmp_total =
    then_total (on_total (λ (p : Printed). p.line.pos) position_cmp_total)
    (then_total (on_total (λ (p : Printed). p.text) nat_list_cmp_total)
    (then_total (back_total (on_total (λ (p : Printed). p.line.name.root) nat_cmp_total))
    (on_total (λ (p : Printed). p.line.name.sels) (lists_total selector_cmp_total))))

pub printed_cmp_total : IsTotalOrder printed_cmp
printed_cmp_total = then_total check_cmp_total (on_total (λ (p : Printed). p.line.excused) bool_cmp_total)
