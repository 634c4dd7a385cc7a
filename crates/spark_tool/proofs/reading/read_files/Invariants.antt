use Rattle.std.proofs.Common.{◌≡◌, ◌≤◌, All, length, map, drop, IfSome, string_bytes}
use Rattle.spark_base.specs.declared.limits.TheConstants.{SOURCE_BYTES}
use Rattle.answered_runs.specs.tool_answers.Reading.{sources}
use Rattle.spark_tool.proofs.Sources.{with_texts}
use Rattle.spark_tool.proofs.reading.read_files.Given as goal

abbrev pub invariant-files : goal.invariant-files
invariant-files g l = record {
  found : IfSome (g.F.FileStore.stored l.initial.files)
      (λ stored. sources stored 0 SOURCE_BYTES (map string_bytes l.names)
      ≡ with_texts (map (λ text. text.items) l.texts.items) (sources stored l.file l.room (map string_bytes (drop l.name-index l.names))));
  room : l.room ≤ SOURCE_BYTES;
  count : length l.texts.items ≡ l.name-index;
  small : All (λ text. length text.items ≤ SOURCE_BYTES) l.texts.items;
  file : l.file ≡ l.name-index;
  no_fault : g.F.FileStore.faults l.files ≡ g.F.FileStore.faults l.initial.files;
  words : g.F.FileStore.words l.files ≡ g.F.FileStore.words l.initial.files;
  stored : g.F.FileStore.stored l.files ≡ g.F.FileStore.stored l.initial.files;
}
