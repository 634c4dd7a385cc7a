-- What a store in memory shows.
use Rattle.std.specs.Prelude.{ℕ, Bool, nat_lt, List, [], drop, map, length, string_bytes, slice_get}
use Rattle.std.specs.Option.{option_map_or}
use Rattle.spark_base.specs.declared.memory.FaultPlan.{FaultPlan}
use Rattle.spark_base.specs.declared.memory_files.MemFiles.{MemFiles}
use Rattle.spark_base.specs.NamedFiles.{file_pairs}

abbrev pub store_words : MemFiles → List (List ℕ)
store_words store = map string_bytes store.words.items

abbrev pub store_files : MemFiles → List (List ℕ × List ℕ)
store_files store = file_pairs store.files.items

-- The index of the open file is that of a file.
abbrev pub store_is_open : MemFiles → Bool
store_is_open store = nat_lt store.open (length store.files.items)

-- What is left of the open file; nothing where none is open.
abbrev pub store_left : MemFiles → List ℕ
store_left store = option_map_or (λ file. drop store.at file.1.items) (slice_get store.files.items store.open) []

abbrev pub store_plan : MemFiles → FaultPlan
store_plan store = store.plan
