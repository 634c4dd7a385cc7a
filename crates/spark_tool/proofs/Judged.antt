-- What is answered where the names of all files have a meaning.
use Rattle.std.proofs.Common.{◌≡◌, ◌≢◌, ℕ, Bool, is_some, List, [], ◌∷◌, Ok, Err, Option, None, Some, refl, sym, ap, ◌∙◌, subst}
use Rattle.spark_base.specs.declared.position.Pos.{Pos}
use Rattle.ada_tree.specs.declared.unit.SourceUnit.{SourceUnit}
use Rattle.name_events.specs.Faults.{name_fault}
use Rattle.place_names.specs.Reports.{Report}
use Rattle.type_definitions.specs.declared.refusal.TypeRefusal.{TypeRefusal}
use Rattle.type_definitions.specs.declared.refusal.TypeRefusal.TheVariants as untyped
use Rattle.type_definitions.specs.Refusals as types
use Rattle.type_definitions.specs.Types.{Table}
use Rattle.type_definitions.specs.Whole.{TypeFault, type_fault}
use Rattle.typed_tree.specs.declared.object.Object.{Object}
use Rattle.typing_steps.specs.Programs as files
use Rattle.flow_paths.specs.declared.refusal.LayFault.{LayFault}
use Rattle.flow_paths.specs.declared.refusal.LayFault.TheVariants as limit
use Rattle.flow_paths.specs.Laid.{FlowProgram}
use Rattle.flow_paths.specs.Limits.{lay_fault}
use Rattle.flow_paths.specs.Printing.{printed_name}
use Rattle.lay_out.specs.declared.refusal.LayRefusal.{LayRefusal}
use Rattle.lay_out.specs.declared.refusal.LayRefusal.TheVariants.{NameTooDeep, TooManyPoints, TooManyFacts, Memory}
use Rattle.lay_out.specs.Refusals as limits
use Rattle.path_check.specs.Told.{reports_in}
use Rattle.path_check.specs.declared.verdict.Verdict.{Verdict}
use Rattle.path_check.specs.declared.verdict.Verdict.TheVariants.{Accepted, Rejected}
use Rattle.program_check.specs.declared.refusal.ProgramRefusal.{ProgramRefusal}
use Rattle.program_check.specs.declared.refusal.ProgramRefusal.TheVariants as unchecked
use Rattle.program_check.specs.Answers.{Answers, HasReports}
use Rattle.program_check.specs.Sources.{flow_of, printed_in}
use Rattle.rule_reports.specs.declared.code.Code.{Code}
use Rattle.rule_reports.specs.Lines.{report_lines}
use Rattle.source_trees.specs.Trees.{AreRead}
use Rattle.answered_runs.specs.tool_answers.Product.{Finding, Checks, mistyped, beyond, checked, stops, judged, Rejects, Passes, type_code, limit_code}
use Rattle.answered_runs.specs.tool_answers.Reading.{Texts}
use Rattle.spark_tool.specs.Refusals.{IsRefused, Tells, layout_code, program_code}

-- ---- broken sentences on types

of_fault : (names texts : List (List ℕ)) (trees : List (List SourceUnit)) (found : TypeRefusal) (fault : Option TypeFault) (at : Option (Pos × Code)) (answer : Finding)
    → AreRead texts trees → name_fault trees ≡ None → type_fault (files.program_of trees) ≡ fault → types.names_fault found fault
    → type_code found ≡ at → IsRefused names at answer → Checks names (Texts texts) answer
of_fault names texts trees found None at answer read named is says coded line = absurd says
of_fault names texts trees found (Some broken) None answer read named is says coded line = absurd line
of_fault names texts trees found (Some broken) (Some at) answer read named is says coded line =
    subst (λ (a : Finding). Checks names (Texts texts) a) (sym line)
    (mistyped texts read.cuts trees broken at.0 at.1 read.cut read.parsed named is (subst (λ (r : TypeRefusal). type_code r ≡ Some at) says coded))

says_fault : (names : List (List ℕ)) (found : TypeRefusal) (fault : Option TypeFault) (answer : Finding) → types.Says found fault
    → IsRefused names (type_code found) answer → types.names_fault found fault
says_fault names (untyped.TooLarge pos) fault answer says line = says
says_fault names (untyped.TooManyParts pos) fault answer says line = says
says_fault names (untyped.NoElements pos) fault answer says line = says
says_fault names (untyped.WrongType pos) fault answer says line = says
says_fault names (untyped.NotVariable pos) fault answer says line = says
says_fault names (untyped.WrongProfile pos) fault answer says line = says
says_fault names (untyped.BadChoices pos) fault answer says line = says
says_fault names (untyped.OwningPlace pos) fault answer says line = says
says_fault names (untyped.AnonymousPlace pos) fault answer says line = says
says_fault names (untyped.NotStatic pos) fault answer says line = says
says_fault names (untyped.PackageValue pos) fault answer says line = says
says_fault names untyped.Memory fault answer says line = absurd line

types_answer : (names texts : List (List ℕ)) (trees : List (List SourceUnit)) (found : TypeRefusal) (answer : Finding) → AreRead texts trees
    → name_fault trees ≡ None → types.Says found (type_fault (files.program_of trees)) → IsRefused names (type_code found) answer
    → Checks names (Texts texts) answer
types_answer names texts trees found answer read named says line =
    of_fault names texts trees found (type_fault (files.program_of trees)) (type_code found) answer read named refl
    (says_fault names found (type_fault (files.program_of trees)) answer says line) refl line

-- ---- limits

of_limit : (names texts : List (List ℕ)) (trees : List (List SourceUnit)) (fault : LayFault) (answer : Finding) → AreRead texts trees → name_fault trees ≡ None
    → type_fault (files.program_of trees) ≡ None → lay_fault (flow_of trees) ≡ Some fault
    → answer ≡ stops names (limit_code fault).0 (limit_code fault).1 → Checks names (Texts texts) answer
of_limit names texts trees fault answer read named typed over line =
    subst (λ (a : Finding). Checks names (Texts texts) a) (sym line) (beyond texts read.cuts trees fault read.cut read.parsed named typed over)

limits_answer : (names texts : List (List ℕ)) (trees : List (List SourceUnit)) (found : LayRefusal) (answer : Finding) → AreRead texts trees
    → name_fault trees ≡ None → type_fault (files.program_of trees) ≡ None → limits.Says found (lay_fault (flow_of trees))
    → IsRefused names (layout_code found) answer → Checks names (Texts texts) answer
limits_answer names texts trees (NameTooDeep pos) answer read named typed says line =
    of_limit names texts trees (limit.NameTooDeep pos) answer read named typed says line
limits_answer names texts trees (TooManyPoints pos) answer read named typed says line =
    of_limit names texts trees (limit.TooManyPoints pos) answer read named typed says line
limits_answer names texts trees (TooManyFacts pos) answer read named typed says line =
    of_limit names texts trees (limit.TooManyFacts pos) answer read named typed says line
limits_answer names texts trees Memory answer read named typed says line = absurd line

-- ---- refusals and reports of the program

pub refusal_answers : (names texts : List (List ℕ)) (trees : List (List SourceUnit)) (refusal : ProgramRefusal) (answer : Finding) → AreRead texts trees
    → name_fault trees ≡ None → Answers trees (Err refusal) → IsRefused names (program_code refusal) answer → Checks names (Texts texts) answer
refusal_answers names texts trees (unchecked.Mistyped found) answer read named says line = types_answer names texts trees found answer read named says line
refusal_answers names texts trees (unchecked.Beyond found) answer read named says line =
    limits_answer names texts trees found answer read named says.0 says.1 line
refusal_answers names texts trees unchecked.Memory answer read named says line = absurd line

has_reports : (names texts : List (List ℕ)) (trees : List (List SourceUnit)) (reports : List Report) (answer : Finding) → AreRead texts trees
    → name_fault trees ≡ None → HasReports trees reports → answer ≡ judged names (flow_of trees) reports → Checks names (Texts texts) answer
has_reports names texts trees reports answer read named has line =
    subst (λ (a : Finding). Checks names (Texts texts) a) (sym line)
    (checked texts read.cuts trees has.effects reports read.cut read.parsed named has.typed has.within has.are_effects has.are_reports)

judged_some : (names : List (List ℕ)) (program : FlowProgram) (reports : List Report) → reports ≢ []
    → Rejects (is_some program.main) (report_lines names (printed_in program) reports) ≡ judged names program reports
judged_some names program [] some = absurd (some refl)
judged_some names program (report ∷ more) some = refl

-- names are printed alike by the same types and objects
printed_alike : (main : Bool) (names : List (List ℕ)) (reports : List Report) (table table2 : Table) (objects objects2 : List Object) → table ≡ table2 → objects ≡ objects2
    → Rejects main (report_lines names (printed_name table objects) reports) ≡ Rejects main (report_lines names (printed_name table2 objects2) reports)
printed_alike main names reports table table2 objects objects2 same_table same_objects =
    ap (λ (t : Table). Rejects main (report_lines names (printed_name t objects) reports)) same_table
    ∙ ap (λ (os : List Object). Rejects main (report_lines names (printed_name table2 os) reports)) same_objects

pub verdict_answers : (names texts : List (List ℕ)) (trees : List (List SourceUnit)) (main : Bool) (verdict : Verdict) (answer : Finding) → AreRead texts trees
    → name_fault trees ≡ None → main ≡ is_some (flow_of trees).main → Answers trees (Ok verdict) → Tells names main verdict answer
    → Checks names (Texts texts) answer
verdict_answers names texts trees main (Accepted program) answer read named has is line = has_reports names texts trees [] answer read named is.reports (line ∙ ap Passes is.laid)
verdict_answers names texts trees main (Rejected those reports) answer read named has is line =
    has_reports names texts trees (reports_in reports) answer read named is.reports
    (line ∙ ap (λ (m : Bool). Rejects m (report_lines names (printed_name those.table those.objects) (reports_in reports))) has
    ∙ printed_alike (is_some (flow_of trees).main) names (reports_in reports) those.table _ those.objects _ is.table is.objects
    ∙ judged_some names (flow_of trees) (reports_in reports) is.some)
