-- The order of printed reports is a total one, as a set of them needs it.
use Rattle.std.specs.Cmp.{IsTotalOrder, nat_cmp_total, on_total, then_total, back_total}
use Rattle.std.specs.Cmp.Lexicographic.{lists_total, nat_list_cmp_total}
use Rattle.spark_base.proofs.Positions.{position_cmp_total}
use Rattle.place_names.specs.Reports.{rule_rank, word_rank}
use Rattle.place_names.proofs.Reports.{selector_cmp_total}
use Rattle.report_lists.specs.PrintedReports.{Printed, printed_cmp}

pub printed_cmp_total : IsTotalOrder printed_cmp
printed_cmp_total =
    then_total (on_total (λ (p : Printed). p.report.pos) position_cmp_total)
    (then_total (on_total (λ (p : Printed). rule_rank p.report.rule) nat_cmp_total)
    (then_total (on_total (λ (p : Printed). p.text) nat_list_cmp_total)
    (then_total (on_total (λ (p : Printed). word_rank p.report.word) nat_cmp_total)
    (then_total (back_total (on_total (λ (p : Printed). p.report.name.root) nat_cmp_total))
    (on_total (λ (p : Printed). p.report.name.sels) (lists_total selector_cmp_total))))))
