use Rattle.std.proofs.Common.{◌≡◌, ◌++◌, replicate}
use Rattle.type_definitions.specs.declared.table.Entry.TheVariants.{Nothing}
use Rattle.type_definitions.specs.Whole.{predefined_entries}
use Rattle.type_gather.proofs.predefined.entries_at_first.Given as goal

abbrev pub invariant-entries : goal.invariant-entries
invariant-entries l = l.entries ≡ predefined_entries ++ replicate l._entry Nothing
