use Rattle.std.proofs.Common.{◌≡◌, ◌+◌, ◌-◌, true, vec_len}
use Rattle.std.specs.Io.KnownBytes.{Consumes}
use Rattle.spark_tool.proofs.reading.read_open_file.Given as goal

abbrev pub invariant-pieces : goal.invariant-pieces
invariant-pieces g l = record {
  taken : Consumes (g.F.FileStore.left l.initial.files) (g.F.FileStore.left l.files) l.text.items;
  is_open : g.F.FileStore.is_open l.files ≡ true;
  no_fault : g.F.FileStore.faults l.files ≡ g.F.FileStore.faults l.initial.files;
  words : g.F.FileStore.words l.files ≡ g.F.FileStore.words l.initial.files;
  stored : g.F.FileStore.stored l.files ≡ g.F.FileStore.stored l.initial.files;
}

abbrev pub decreases-pieces : goal.decreases-pieces
decreases-pieces g l = l.room + 1 - vec_len l.text
