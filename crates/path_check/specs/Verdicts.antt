-- The verdict on a program (docs/RULES.md, "Reports").
use Rattle.std.specs.Prelude.{◌≡◌, ◌≢◌, ℕ, ◌+◌, ◌*◌, List, [], ◌∷◌, length}
use Rattle.flow_paths.specs.declared.report.Effects.{Effects}
use Rattle.flow_paths.specs.declared.point.LaidSub.{LaidSub}
use Rattle.flow_paths.specs.Reports.{AreReports}
use Rattle.point_states.specs.PointTrees.{path_points_of, successors}
use Rattle.laid_program.specs.declared.laid.Laid.{Laid}
use Rattle.laid_program.specs.declared.names.Names.{Names}
use Rattle.laid_program.specs.Programs.{program_of}
use Rattle.path_check.specs.declared.verdict.Verdict.{Verdict}
use Rattle.path_check.specs.declared.verdict.Verdict.TheVariants as verdict
use Rattle.path_check.specs.Told.{reports_in}

-- The names are those of a program.
pub record AreNames (laid : Laid) (those : Names) : Type 0 where
  pub files : those.names ≡ laid.names
  pub table : those.table ≡ laid.table
  pub objects : those.objects ≡ laid.objects

-- A program is accepted where it has no reports, and rejected with all of its reports otherwise.
abbrev pub IsVerdict : Laid → Effects → Verdict → Type 0
IsVerdict laid effects (verdict.Accepted program) =
    (program.laid ≡ laid) × ((program.effects ≡ effects) × AreReports (program_of laid) effects [])
IsVerdict laid effects (verdict.Rejected names reports) =
    AreNames laid names × (AreReports (program_of laid) effects (reports_in reports) × (reports ≢ []))

-- How many states are carried at most: in each subprogram with E successors and F facts, E * (2 F +
-- 2).
abbrev pub sub_steps : LaidSub → ℕ
sub_steps sub = successors (path_points_of sub.points) * (2 * length sub.facts + 2)

abbrev pub all_steps : List LaidSub → ℕ
all_steps [] = 0
all_steps (sub ∷ subs) = sub_steps sub + all_steps subs
