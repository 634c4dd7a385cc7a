-- A program has one list of reports.
use Rattle.std.proofs.Common.{◌≡◌, subst, List}
use Rattle.ada_tree.specs.declared.unit.SourceUnit.{SourceUnit}
use Rattle.place_names.specs.Reports.{Report}
use Rattle.place_names.proofs.Reports.{report_list-unique}
use Rattle.flow_paths.specs.declared.report.Effects.{Effects}
use Rattle.flow_paths.specs.Effects.{AreEffects}
use Rattle.flow_paths.specs.Laid.{FlowProgram}
use Rattle.flow_paths.specs.Reports.{ProgramReport, AreReports}
use Rattle.program_check.specs.Sources.{flow_of, printed_in}
use Rattle.program_check.specs.Answers.{HasReports}
use Rattle.program_check.proofs.OneEffects.{one_effects}

pub one_list : (program : FlowProgram) (a b : Effects) (xs ys : List Report) → AreEffects program a → AreEffects program b → AreReports program a xs
    → AreReports program b ys → xs ≡ ys
one_list program a b xs ys effects effects2 one two =
    report_list-unique (printed_in program) (ProgramReport program a) xs ys one
    (subst (λ (e : Effects). AreReports program e ys) (one_effects program b a effects2 effects) two)

-- so have files
pub one_answer : (trees : List (List SourceUnit)) (xs ys : List Report) → HasReports trees xs → HasReports trees ys → xs ≡ ys
one_answer trees xs ys one two =
    one_list (flow_of trees) one.effects two.effects xs ys one.are_effects two.are_effects one.are_reports two.are_reports
