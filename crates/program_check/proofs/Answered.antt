-- The answer for files whose program is laid out.
use Rattle.std.proofs.Common.{◌≡◌, refl, ap, subst, List, [], ◌∷◌, map, string_bytes, None, Ok}
use Rattle.ada_tree.specs.declared.unit.SourceUnit.{SourceUnit}
use Rattle.place_names.specs.Reports.{Report}
use Rattle.type_definitions.specs.Types.{Table}
use Rattle.type_definitions.specs.Whole.{known_of, type_fault}
use Rattle.typing_steps.specs.Programs as files
use Rattle.typed_tree.specs.Programs.{TypedProgram, typed_program}
use Rattle.typed_programs.specs.declared.parts.ProgramParts.{ProgramParts}
use Rattle.typed_programs.specs.Parts.{HoldsProgram}
use Rattle.type_rules.specs.Typed.{IsTyped}
use Rattle.flow_paths.specs.declared.report.Effects.{Effects}
use Rattle.flow_paths.specs.Effects.{AreEffects}
use Rattle.flow_paths.specs.Laid.{FlowProgram, flow_program}
use Rattle.flow_paths.specs.Limits.{lay_fault}
use Rattle.flow_paths.specs.Reports.{report_of}
use Rattle.laid_program.specs.declared.laid.Laid.{Laid}
use Rattle.laid_program.specs.Programs.{program_of}
use Rattle.path_check.specs.Told.{reports_in}
use Rattle.path_check.specs.Verdicts.{IsVerdict}
use Rattle.path_check.specs.declared.verdict.Verdict.{Verdict}
use Rattle.path_check.specs.declared.verdict.Verdict.TheVariants.{Accepted, Rejected}
use Rattle.program_check.specs.Sources.{flow_of}
use Rattle.program_check.specs.Answers.{HasReports, Answers, KeepsNames}
use Rattle.program_check.specs.Judged.{IsLaidOut, AreTheReports, IsJudged}

-- ---- the layout of what the files mean

-- what is known of the layout of each typed program that the parts stand for is known of that of
-- the files
pub of_files : (trees : List (List SourceUnit)) (table : Table) (parts : ProgramParts) (P : FlowProgram → Type 0) → IsTyped trees table parts
    → ((p : TypedProgram) → HoldsProgram parts p → P (flow_program table p)) → P (flow_of trees)
of_files trees table parts P typed all =
    let program : TypedProgram = typed_program (known_of (files.program_of trees)) (files.program_of trees).units in
    subst (λ (t : Table). P (flow_program t program)) typed.types (all program typed.program)

-- ---- the verdict

none_mapped : {A B : Type 0} (f : A → B) (xs : List A) → map f xs ≡ [] → xs ≡ []
none_mapped f [] e = refl
none_mapped f (x ∷ xs) e = cc

pub judged_of : (laid : Laid) (effects : Effects) (v : Verdict) → AreEffects (program_of laid) effects → IsVerdict laid effects v
    → IsJudged (program_of laid) v
judged_of laid effects (Accepted accepted) are is = record {
  laid = ap program_of is.0;
  none = record { effects = effects; are_effects = are; are_reports = is.1.1 };
}
judged_of laid effects (Rejected names reports) are is = record {
  table = is.0.table;
  objects = is.0.objects;
  some = λ e. is.1.1 (none_mapped report_of reports e);
  are = record { effects = effects; are_effects = are; are_reports = is.1.0 };
}

pub names_kept : (laid : Laid) (effects : Effects) (v : Verdict) → IsVerdict laid effects v → KeepsNames (map string_bytes laid.names.items) v
names_kept laid effects (Accepted accepted) is = ap (λ (l : Laid). map string_bytes l.names.items) is.0
names_kept laid effects (Rejected names reports) is = tt

-- ---- the answer

has_reports : (trees : List (List SourceUnit)) (reports : List Report) → type_fault (files.program_of trees) ≡ None
    → lay_fault (flow_of trees) ≡ None → AreTheReports (flow_of trees) reports → HasReports trees reports
has_reports trees reports typed within are = record {
  typed = typed;
  within = within;
  effects = are.effects;
  are_effects = are.are_effects;
  are_reports = are.are_reports;
}

of_program : (trees : List (List SourceUnit)) (v : Verdict) → type_fault (files.program_of trees) ≡ None → lay_fault (flow_of trees) ≡ None
    → IsJudged (flow_of trees) v → Answers trees (Ok v)
of_program trees (Accepted accepted) typed within judged = record {
  laid = judged.laid;
  reports = has_reports trees [] typed within judged.none;
}
of_program trees (Rejected names reports) typed within judged = record {
  table = judged.table;
  objects = judged.objects;
  some = judged.some;
  reports = has_reports trees (reports_in reports) typed within judged.are;
}

pub answered : (trees : List (List SourceUnit)) (laid : Laid) (v : Verdict) → IsLaidOut trees laid → IsJudged (program_of laid) v
    → Answers trees (Ok v)
answered trees laid v out judged =
    of_program trees v out.typed out.within (subst (λ (program : FlowProgram). IsJudged program v) out.is judged)
