-- What the enums of the code stand for.
use Rattle.std.specs.Prelude.{ℤ, Result, Ok, Err}
use Rattle.machine.specs.Evaluate as machine
use Rattle.run_codes.specs.Flat as flat
use Rattle.run_codes.specs.Flat.{Got, Given, Stops}
use Rattle.code_rows.specs.declared.stop.Exception.{Exception}
use Rattle.code_rows.specs.declared.stop.Exception.TheVariants as exception
use Rattle.code_rows.specs.declared.stop.Stop.{Stop}
use Rattle.code_rows.specs.declared.stop.Stop.TheVariants as stop

abbrev pub exception_of : Exception → machine.Exception
exception_of exception.ConstraintError = machine.ConstraintError
exception_of exception.ProgramError = machine.ProgramError
exception_of exception.StorageError = machine.StorageError
exception_of exception.DataError = machine.DataError
exception_of exception.EndError = machine.EndError

abbrev pub stop_of : Stop → flat.Stop
stop_of (stop.Raises e) = flat.Raises (exception_of e)
stop_of stop.Memory = flat.Memory

-- What a function that reads answers.
abbrev pub shown : {A : Type 0} → Result A Stop → Got A
shown (Ok a) = Given a
shown (Err s) = Stops (stop_of s)
