-- What the sinks in memory show.
use Rattle.std.specs.Prelude.{ℕ, List}
use Rattle.spark_base.specs.declared.memory.MemSink.{MemSink}
use Rattle.spark_base.specs.declared.memory.PlainSink.{PlainSink}
use Rattle.spark_base.specs.declared.memory.FaultPlan.{FaultPlan}

abbrev pub sink_bytes : MemSink → List ℕ
sink_bytes sink = sink.bytes.items

abbrev pub sink_plan : MemSink → FaultPlan
sink_plan sink = sink.plan

abbrev pub plain_bytes : PlainSink → List ℕ
plain_bytes sink = sink.bytes.items
