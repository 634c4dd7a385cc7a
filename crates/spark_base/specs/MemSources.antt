-- What a source in memory shows.
use Rattle.std.specs.Prelude.{ℕ, List, drop}
use Rattle.spark_base.specs.declared.memory.MemSource.{MemSource}
use Rattle.spark_base.specs.declared.memory.FaultPlan.{FaultPlan}

abbrev pub source_left : MemSource → List ℕ
source_left source = drop source.at source.bytes.items

abbrev pub source_plan : MemSource → FaultPlan
source_plan source = source.plan
