-- What the laws on runs ask of the types of a program that is laid out, where its table is fit.
use Rattle.std.proofs.Common.{sym, subst}
use Rattle.std.proofs.Math.Logic.{∥∥₁_elim}
use Rattle.std.proofs.Math.Bool.{Bool-set}
use Rattle.flow_paths.specs.Laid.{FlowProgram}
use Rattle.laid_program.specs.declared.laid.Laid.{Laid}
use Rattle.laid_program.specs.Layouts.{IsLayout}
use Rattle.laid_program.specs.Programs.{program_of}
use Rattle.run_points.specs.Turns.{HasTypes}
use Rattle.settled_types.specs.TableLaws.Bounds.{HasBounds}
use Rattle.settled_types.specs.TableLaws.Ranks.{IsFit}
use Rattle.settled_types.proofs.TableLaws.Gathers.{has_bounds}
use Rattle.settled_types.proofs.TableLaws.Fit.{fit_table, fit_parts, fit_truth}

-- The table is that of the types of some code.
bounds_of : (program : FlowProgram) → IsLayout program → HasBounds program.table
bounds_of program l = subst HasBounds (sym l.types) (has_bounds l.code)

bounds : (program : FlowProgram) → ∥ IsLayout program ∥₁ → HasBounds program.table
bounds program right = record {
  whole = λ t low high is. ∥∥₁_elim right (Bool-set _ _) (λ l. (bounds_of program l).whole t low high is);
  listed = λ t low high literals is. ∥∥₁_elim right (Bool-set _ _) (λ l. (bounds_of program l).listed t low high literals is);
}

pub types_are : (laid : Laid) → IsFit laid.table → HasTypes (program_of laid)
types_are laid fit = record {
  laws = fit_table laid.table fit;
  parts = fit_parts laid.table fit (bounds (program_of laid) laid.right);
  truth = fit_truth laid.table fit;
}
