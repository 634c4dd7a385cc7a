-- What is run.
use Rattle.std.specs.Prelude.{◌≡◌, ℕ, Some}
use Rattle.laid_program.specs.declared.laid.Laid.{Laid}
use Rattle.laid_program.specs.Programs as laid_programs
use Rattle.run_codes.specs.Programs.{lowered_program}
use Rattle.code_rows.specs.declared.codes.Codes.{Codes}
use Rattle.code_rows.specs.Points.{program_of, IsWhole}

-- A program in rows is what a program with a main procedure is lowered to.
pub record IsReady (laid : Laid) (codes : Codes) : Type 0 where
  pub whole : IsWhole codes
  pub lowered : lowered_program (laid_programs.program_of laid) ≡ Some (program_of codes)
  pub main : ℕ
  pub has : laid.main ≡ Some main
