-- Where a run goes on after a point.
use Rattle.std.specs.Prelude.{◌≡◌, ℕ, Option}
use Rattle.type_definitions.specs.Types.{Table}
use Rattle.run_codes.specs.Programs.{Program}
use Rattle.slot_stages.specs.Leads.{LeadsTo}
use Rattle.slot_entries.specs.Entries.{stacked_words}
use Rattle.slot_parts.specs.declared.parts.Parts.{Parts}

-- The run goes on at the next point; where none follows, the main procedure begins.
pub record IsLed {R : Type 0} (table : Table) (program : Program) (k : ℕ) (next : Option ℕ) (old new : Parts R) : Type 0 where
  pub to : LeadsTo table program k next old.memory old.frames new.memory new.frames
  pub words : new.words ≡ stacked_words new.frames
  pub output : new.output.items ≡ old.output.items
  pub leaks : new.leaks.items ≡ old.leaks.items
