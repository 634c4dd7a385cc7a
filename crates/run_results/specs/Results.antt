-- The endings, the counts and the leaks that the results of code stand for.
use Rattle.std.specs.Prelude.{◌≡◌, List, map}
use Rattle.spark_base.specs.declared.outside.SinkFault.{SinkFault}
use Rattle.spark_base.specs.declared.outside.SinkFault.TheVariants as sink
use Rattle.machine.specs.States as machine
use Rattle.run_codes.specs.Points as points
use Rattle.code_rows.specs.Stops.{exception_of}
use Rattle.run_results.specs.declared.ran.Ending.{Ending}
use Rattle.run_results.specs.declared.ran.Ending.TheVariants as ending
use Rattle.run_results.specs.declared.ran.Ran.{Ran}
use Rattle.run_results.specs.declared.ran.ExecFault.{ExecFault}
use Rattle.run_results.specs.declared.ran.ExecFault.TheVariants as fault
use Rattle.run_results.specs.declared.leak.Leak.{Leak}

abbrev pub ending_of : Ending → machine.Ending
ending_of ending.Normal = machine.Normal
ending_of (ending.Raised e p) = machine.Raised (exception_of e) p
ending_of ending.Spent = machine.Spent

abbrev pub leak_of : Leak → machine.Leak
leak_of l = record { number = l.number; pos = l.pos }

abbrev pub leaks_of : List Leak → List machine.Leak
leaks_of leaks = map leak_of leaks

-- A run gives these counts, and ends in this way.
pub record IsRun (r : points.Ran) (ran : Ran) : Type 0 where
  pub ending : r.ending ≡ ending_of ran.ending
  pub steps : r.steps ≡ ran.steps
  pub made : r.made ≡ ran.made
  pub freed : r.freed ≡ ran.freed
  pub leaked : r.leaked ≡ ran.leaked

abbrev pub fault_of : SinkFault → ExecFault
fault_of sink.Failed = fault.WriteFault
fault_of sink.Memory = fault.Memory
