-- The events of files, and what the definitions say of them.
use Rattle.std.proofs.Common.{◌≡◌, refl, ap, sym, ◌∙◌, List, [], ◌∷◌, ◌++◌, map, Result, Ok, Err, IfOk}
use Rattle.std.specs.List.{flat_map}
use Rattle.std.proofs.lemmas.List.{append_assoc, append-nil}
use Rattle.ada_tree.specs.declared.unit.SourceUnit.{SourceUnit}
use Rattle.name_events.specs.declared.event.Event.{Event}
use Rattle.name_events.specs.Outline.{source_events, unit_events}
use Rattle.name_events.specs.Declarations.{Entry}
use Rattle.name_events.specs.Denotes.{decl_infos, denotes, info_of, known_of, mentioned}
use Rattle.name_events.specs.Identified.{identified}
use Rattle.name_events.specs.Faults.{name_fault}
use Rattle.name_resolve.specs.Infos.{info}
use Rattle.name_resolve.specs.OfEvents.{fault_of_events, identified_of_events, infos_of_events, numbers_of_events}

source_next : (file : List SourceUnit) (files : List (List SourceUnit)) → source_events (file ∷ files) ≡ flat_map unit_events file ++ source_events files
unfolding source_events
source_next file files = refl

source_none : source_events [] ≡ []
unfolding source_events
source_none = refl

-- The events of one more file.
pub events_next : (old new : List Event) (file : List SourceUnit) (rest at files : List (List SourceUnit))
    → new ≡ old ++ flat_map unit_events file → at ≡ file ∷ rest → old ++ source_events at ≡ source_events files
    → new ++ source_events rest ≡ source_events files
events_next old new file rest at files is more left =
    ap (λ es. es ++ source_events rest) is ∙ append_assoc old (flat_map unit_events file) (source_events rest)
    ∙ ap (λ es. old ++ es) (sym (source_next file rest)) ∙ ap (λ xs. old ++ source_events xs) (sym more) ∙ left

pub events_all : (made : List Event) (at files : List (List SourceUnit)) → at ≡ [] → made ++ source_events at ≡ source_events files → made ≡ source_events files
events_all made at files none left =
    sym (append-nil made) ∙ ap (λ es. made ++ es) (sym source_none) ∙ ap (λ xs. made ++ source_events xs) (sym none) ∙ left

pub if_ok : {A E : Type 0} {P Q : A → Type 0} (r : Result A E) → ((x : A) → P x → Q x) → IfOk r P → IfOk r Q
if_ok (Ok x) f h = f x h
if_ok (Err e) f h = h

pub fault_is : (files : List (List SourceUnit)) → name_fault files ≡ fault_of_events (source_events files)
unfolding name_fault known_of
fault_is files = refl

pub decls_is : (files : List (List SourceUnit)) → decl_infos files ≡ infos_of_events (source_events files)
unfolding decl_infos known_of
decls_is files = refl

pub denotes_is : (files : List (List SourceUnit)) → denotes files ≡ numbers_of_events (source_events files)
unfolding denotes mentioned known_of
denotes_is files = refl

pub identified_is : (files : List (List SourceUnit)) → identified files ≡ identified_of_events (source_events files)
unfolding identified known_of
identified_is files = refl

pub infos_are : (entries : List Entry) → map info (map (λ entry. entry.1) entries) ≡ map info_of entries
infos_are [] = refl
infos_are (entry ∷ entries) = ap (λ is. info_of entry ∷ is) (infos_are entries)
