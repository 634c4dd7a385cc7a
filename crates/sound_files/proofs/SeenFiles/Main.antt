-- What names denote in accepted files is in scope where they stand, or an object of a package.
use Rattle.std.proofs.Common.{◌≡◌, ℕ, true, List, [], map, None}
use Rattle.machine.specs.spark_base.Lists.{Has}
use Rattle.ada_tree.specs.declared.unit.SourceUnit.{SourceUnit}
use Rattle.name_events.specs.Outline.{source_events}
use Rattle.name_events.specs.Denotes.{known_of as names_known}
use Rattle.name_events.specs.Faults.{name_fault}
use Rattle.machine.specs.resolved_tree.Trees.{Program}
use Rattle.typing_steps.specs.Programs.{program_of}
use Rattle.machine.specs.type_definitions.Whole.{known_of}
use Rattle.machine.specs.typed_tree.Programs.{TypedSub, DeclaredObject, program_objects, site_of, elaboration}
use Rattle.machine.specs.flow_paths.Objects.{is_package_object}
use Rattle.settled_types.specs.FilePositions.Order.{Ascends, event_positions}
use Rattle.settled_types.specs.OrderLaws.ScopeLaws.Code.{Once, body_seen}
use Rattle.settled_types.specs.OrderLaws.Orderly.{typing_in, bodies_of}
use Rattle.sound_files.specs.SeenFiles.Fits.{AllFit}
use Rattle.sound_files.specs.SeenFiles.Reached.{IsObjectIn}
use Rattle.sound_files.proofs.SeenFiles.Files.{files_fit}
use Rattle.sound_files.proofs.SeenFiles.Entries.{known_keeps}
use Rattle.sound_files.proofs.SeenFiles.Typed.{units_seen, values_seen}
use Rattle.sound_files.proofs.SeenFiles.Packages.{scope_public}

-- So it is in files that break no rule of names, whose identifiers stand in the order of the text, and in whose code
-- each declaration of an object has a number of its own.
pub files_seen : (files : List (List SourceUnit)) → Ascends (event_positions (source_events files)) → name_fault files ≡ None
    → Once (map (λ (o : DeclaredObject). o.number) (program_objects (known_of (program_of files)) (program_of files).units))
    → (sub : TypedSub) → Has (bodies_of (program_of files)) sub → body_seen (is_package_object (typing_in (program_of files))) sub ≡ true
files_seen files up none once sub has =
    let p : Program = program_of files in
    let object : ℕ → Type 0 = IsObjectIn (names_known files) in
    let fits : AllFit object [] p.units = files_fit files up none in
    units_seen (is_package_object (typing_in p)) (site_of (known_of p) p.units) object (known_keeps object p fits) 1 p.units []
    (λ d has. scope_public p once d has) fits sub has

-- And so it is in the initial values of package objects.
pub files_values_seen : (files : List (List SourceUnit)) → Ascends (event_positions (source_events files)) → name_fault files ≡ None
    → Once (map (λ (o : DeclaredObject). o.number) (program_objects (known_of (program_of files)) (program_of files).units))
    → body_seen (is_package_object (typing_in (program_of files))) (elaboration (site_of (known_of (program_of files)) (program_of files).units) (program_of files).units) ≡ true
files_values_seen files up none once =
    let p : Program = program_of files in
    let object : ℕ → Type 0 = IsObjectIn (names_known files) in
    let fits : AllFit object [] p.units = files_fit files up none in
    values_seen (is_package_object (typing_in p)) (site_of (known_of p) p.units) object (known_keeps object p fits) p.units
    (λ d has. scope_public p once d has) fits
