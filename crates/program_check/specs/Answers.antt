-- The answer on the program that files mean (docs/TOOL.md, "Order of work").
use Rattle.std.specs.Prelude.{◌≡◌, ◌≢◌, ℕ, List, [], None, Result, Ok, Err, map, string_bytes}
use Rattle.ada_tree.specs.declared.unit.SourceUnit.{SourceUnit}
use Rattle.place_names.specs.Reports.{Report}
use Rattle.type_definitions.specs.Refusals as types
use Rattle.type_definitions.specs.Whole.{type_fault}
use Rattle.typing_steps.specs.Programs as files
use Rattle.flow_paths.specs.declared.report.Effects.{Effects}
use Rattle.flow_paths.specs.Effects.{AreEffects}
use Rattle.flow_paths.specs.Limits.{lay_fault}
use Rattle.flow_paths.specs.Reports.{AreReports}
use Rattle.laid_program.specs.Programs.{program_of}
use Rattle.lay_out.specs.Refusals as limits
use Rattle.path_check.specs.Told.{reports_in}
use Rattle.path_check.specs.declared.accepted.AcceptedProgram.{AcceptedProgram}
use Rattle.path_check.specs.declared.verdict.Verdict.{Verdict}
use Rattle.path_check.specs.declared.verdict.Verdict.TheVariants as verdict
use Rattle.laid_program.specs.declared.names.Names.{Names}
use Rattle.program_check.specs.declared.checked.Checked.{Checked}
use Rattle.program_check.specs.declared.refusal.ProgramRefusal.{ProgramRefusal}
use Rattle.program_check.specs.declared.refusal.ProgramRefusal.TheVariants.{Mistyped, Beyond, Memory}
use Rattle.program_check.specs.Sources.{flow_of}

-- The files break no sentence on types, their program is within all limits, and it has these
-- reports.
pub record HasReports (trees : List (List SourceUnit)) (reports : List Report) : Type 0 where
  pub typed : type_fault (files.program_of trees) ≡ None
  pub within : lay_fault (flow_of trees) ≡ None
  pub effects : Effects
  pub are_effects : AreEffects (flow_of trees) effects
  pub are_reports : AreReports (flow_of trees) effects reports

-- What is accepted is the program of the files, and has no reports.
pub record IsAccepted (trees : List (List SourceUnit)) (program : AcceptedProgram) : Type 0 where
  pub laid : program_of program.laid ≡ flow_of trees
  pub reports : HasReports trees []

-- The verdict of what was found.
abbrev pub verdict_of : Result Checked ProgramRefusal → Result Verdict ProgramRefusal
verdict_of (Ok checked) = Ok checked.verdict
verdict_of (Err refusal) = Err refusal

-- What is accepted keeps the names of the files.
abbrev pub KeepsNames : List (List ℕ) → Verdict → Type 0
KeepsNames names (verdict.Accepted program) = map string_bytes program.laid.names.items ≡ names
KeepsNames names (verdict.Rejected those reports) = Unit {0}

-- What is rejected has some reports, and is printed by the names of the program.
pub record IsRejected (trees : List (List SourceUnit)) (names : Names) (found : List Report) : Type 0 where
  pub table : names.table ≡ (flow_of trees).table
  pub objects : names.objects ≡ (flow_of trees).objects
  pub some : found ≢ []
  pub reports : HasReports trees found

-- A refusal names the first broken sentence on types, or else the first limit that the program is
-- beyond. Out of memory says nothing.
abbrev pub Answers : List (List SourceUnit) → Result Verdict ProgramRefusal → Type 0
Answers trees (Ok (verdict.Accepted program)) = IsAccepted trees program
Answers trees (Ok (verdict.Rejected names reports)) = IsRejected trees names (reports_in reports)
Answers trees (Err (Mistyped refusal)) = types.Says refusal (type_fault (files.program_of trees))
Answers trees (Err (Beyond refusal)) =
    (type_fault (files.program_of trees) ≡ None) × limits.Says refusal (lay_fault (flow_of trees))
Answers trees (Err Memory) = Unit {0}
