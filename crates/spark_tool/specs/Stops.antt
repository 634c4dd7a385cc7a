-- The statuses of what ends a command before its answer is written (docs/TOOL.md, "Statuses").
use Rattle.std.specs.Prelude.{ℕ}
use Rattle.answered_runs.specs.run_command.declared.fault.RunFault.{RunFault}
use Rattle.answered_runs.specs.run_command.declared.fault.RunFault.TheVariants as fault
use Rattle.spark_tool.specs.declared.stop.Stop.{Stop}
use Rattle.spark_tool.specs.declared.stop.Stop.TheVariants.{Read, Write, Memory}

abbrev pub stop_status : Stop → ℕ
stop_status Read = 7
stop_status Write = 8
stop_status Memory = 9

-- The faults of a run.
abbrev pub stop_of : RunFault → Stop
stop_of fault.Read = Read
stop_of fault.Write = Write
stop_of fault.Memory = Memory
