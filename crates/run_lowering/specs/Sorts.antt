-- Sorts and bounds of the code, as the definitions have them.
use Rattle.machine.specs.Typed as typed
use Rattle.run_codes.specs.Lowered as lowered
use Rattle.run_lowering.specs.declared.sorts.Scalar.{Scalar}
use Rattle.run_lowering.specs.declared.sorts.Sort.{Sort}
use Rattle.run_lowering.specs.declared.sorts.Sort.TheVariants as sort

abbrev pub sort_in : Sort → typed.Sort
sort_in sort.Whole = typed.Whole
sort_in sort.Position = typed.Position
sort_in (sort.Pointer of) = typed.Pointer of

abbrev pub scalar_in : Scalar → lowered.Scalar
scalar_in s = record { sort = sort_in s.sort; low = s.low; high = s.high }
