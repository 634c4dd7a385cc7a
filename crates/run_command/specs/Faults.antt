-- The faults of a run that those of its parts are.
use Rattle.spark_base.specs.declared.outside.SinkFault.{SinkFault}
use Rattle.spark_base.specs.declared.outside.SinkFault.TheVariants as sink
use Rattle.run_results.specs.declared.ran.ExecFault.{ExecFault}
use Rattle.run_results.specs.declared.ran.ExecFault.TheVariants as exec
use Rattle.run_command.specs.declared.fault.RunFault.{RunFault}
use Rattle.run_command.specs.declared.fault.RunFault.TheVariants.{Write, Memory}

abbrev pub of_exec : ExecFault → RunFault
of_exec exec.WriteFault = Write
of_exec exec.Memory = Memory

abbrev pub of_sink : SinkFault → RunFault
of_sink sink.Failed = Write
of_sink sink.Memory = Memory
