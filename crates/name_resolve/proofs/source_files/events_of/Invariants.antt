use Rattle.std.proofs.Common.{◌≡◌, false, drop, ◌++◌}
use Rattle.name_events.specs.Outline.{source_events}
use Rattle.name_resolve.specs.Inputs.{trees_of}
use Rattle.name_resolve.proofs.source_files.events_of.Given as goal

abbrev pub invariant-turns : goal.invariant-turns
invariant-turns l = l.list.failed ≡ false → l.list.events ++ source_events (trees_of (drop l.file-index l.files)) ≡ source_events (trees_of l.files)
