use Rattle.std.proofs.Common.{◌∙◌}
use Rattle.std.specs.Ordering.{ordering_then, nat_cmp}
use Rattle.std.specs.Cmp.Lexicographic.{slice_cmp}
use Rattle.place_names.proofs.Reports.{rule_cmp-ranks}
use Rattle.report_lists.specs.PrintedReports.{printed_cmp}
use Rattle.report_lists.proofs.Ordered.{word_cmp-ranks}
use Rattle.report_lists.proofs.printed_report.PrintedReportOrd.cmp.Goals as goal

pub returns : goal.returns
returns c =
    let a = c.self.inside in
    let b = c.other.inside in
    let word = c.cmp.ensures ∙ word_cmp-ranks a.state b.state in
    let words = c.then-words.ensures ∙ (λ t. ordering_then (word t) (c.name_cmp-places.ensures t)) in
    let text = c.cmp-2.ensures ∙ (λ t. slice_cmp nat_cmp (c.as_slice.ensures.value t) (c.as_slice-2.ensures.value t)) in
    let texts = c.then-texts.ensures ∙ (λ t. ordering_then (text t) (words t)) in
    let rule = c.cmp-4.ensures ∙ rule_cmp-ranks a.rule b.rule in
    let rules = c.then.ensures ∙ (λ t. ordering_then (rule t) (texts t)) in
    c.then-2.ensures ∙ (λ t. ordering_then (c.cmp-3.ensures t) (rules t))
    ∙ (λ t. printed_cmp (c.self.view_is t) (c.other.view_is t))
