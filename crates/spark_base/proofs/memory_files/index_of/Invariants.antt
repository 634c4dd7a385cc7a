use Rattle.std.proofs.Common.{◌≡◌, drop}
use Rattle.spark_base.specs.Outside.{file_bytes}
use Rattle.spark_base.specs.NamedFiles.{file_pairs}
use Rattle.spark_base.proofs.memory_files.index_of.Given as goal

-- the files that were passed don't have the name
abbrev pub invariant-files : goal.invariant-files
invariant-files l = file_bytes (file_pairs l.files) l.name ≡ file_bytes (file_pairs (drop l.index l.files)) l.name
