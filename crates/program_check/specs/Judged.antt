-- The answer on the program that files mean once it is laid out.
use Rattle.std.specs.Prelude.{◌≡◌, ◌≢◌, List, [], None, Result, Ok, Err}
use Rattle.ada_tree.specs.declared.unit.SourceUnit.{SourceUnit}
use Rattle.place_names.specs.Reports.{Report}
use Rattle.type_definitions.specs.Whole.{type_fault}
use Rattle.typing_steps.specs.Programs as files
use Rattle.flow_paths.specs.declared.report.Effects.{Effects}
use Rattle.flow_paths.specs.Effects.{AreEffects}
use Rattle.flow_paths.specs.Laid.{FlowProgram}
use Rattle.flow_paths.specs.Limits.{lay_fault}
use Rattle.flow_paths.specs.Reports.{AreReports}
use Rattle.laid_program.specs.declared.laid.Laid.{Laid}
use Rattle.laid_program.specs.declared.names.Names.{Names}
use Rattle.laid_program.specs.Programs.{program_of}
use Rattle.path_check.specs.Told.{reports_in}
use Rattle.path_check.specs.declared.accepted.AcceptedProgram.{AcceptedProgram}
use Rattle.path_check.specs.declared.verdict.Verdict.{Verdict}
use Rattle.path_check.specs.declared.verdict.Verdict.TheVariants as verdict
use Rattle.program_check.specs.declared.refusal.ProgramRefusal.{ProgramRefusal}
use Rattle.program_check.specs.Sources.{flow_of}
use Rattle.program_check.specs.Answers.{Answers}

-- The files break no sentence on types, their program is within all limits, and this is its layout.
pub record IsLaidOut (trees : List (List SourceUnit)) (laid : Laid) : Type 0 where
  pub typed : type_fault (files.program_of trees) ≡ None
  pub within : lay_fault (flow_of trees) ≡ None
  pub is : program_of laid ≡ flow_of trees

-- What is refused is refused as the answer is.
abbrev pub LaysOut : List (List SourceUnit) → Result Laid ProgramRefusal → Type 0
LaysOut trees (Ok laid) = IsLaidOut trees laid
LaysOut trees (Err refusal) = Answers trees (Err refusal)

-- The program has these reports.
pub record AreTheReports (program : FlowProgram) (reports : List Report) : Type 0 where
  pub effects : Effects
  pub are_effects : AreEffects program effects
  pub are_reports : AreReports program effects reports

pub record Accepts (program : FlowProgram) (accepted : AcceptedProgram) : Type 0 where
  pub laid : program_of accepted.laid ≡ program
  pub none : AreTheReports program []

pub record Rejects (program : FlowProgram) (names : Names) (reports : List Report) : Type 0 where
  pub table : names.table ≡ program.table
  pub objects : names.objects ≡ program.objects
  pub some : reports ≢ []
  pub are : AreTheReports program reports

-- A program is accepted where it has no reports, and rejected with all of its reports otherwise.
abbrev pub IsJudged : FlowProgram → Verdict → Type 0
IsJudged program (verdict.Accepted accepted) = Accepts program accepted
IsJudged program (verdict.Rejected names reports) = Rejects program names (reports_in reports)
