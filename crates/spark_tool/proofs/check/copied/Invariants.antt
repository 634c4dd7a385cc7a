use Rattle.std.proofs.Common.{◌≡◌, map, take, string_bytes}
use Rattle.spark_tool.proofs.check.copied.Given as goal

abbrev pub invariant-names : goal.invariant-names
invariant-names l = map string_bytes l.copies.items ≡ map string_bytes (take l.name-index l.names)
