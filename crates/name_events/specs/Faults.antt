-- The rules N1 to N6 of names, and the first of them that a text breaks (docs/LANGUAGE.md, "Names";
-- Ada 2012, 8.3, 8.4, 3.11.1, 7.2, 10.1.1, 10.1.2).
use Rattle.std.specs.Prelude.{Bool, true, false, not, ◌&&◌, ◌||◌, if◌then◌else◌, nat_eq, List, [], ◌∷◌, length, Option, None, Some, is_some}
use Rattle.std.specs.List.{list_any}
use Rattle.spark_base.specs.declared.position.Pos.{Pos}
use Rattle.name_events.specs.declared.event.Clause.{Clause}
use Rattle.name_events.specs.declared.event.Clause.TheVariants as clause
use Rattle.name_events.specs.declared.event.FoldedIdentifier.{FoldedIdentifier}
use Rattle.name_events.specs.declared.event.FoldedName.{FoldedName}
use Rattle.name_events.specs.declared.event.Event.{Event}
use Rattle.name_events.specs.declared.event.Event.TheVariants as e
use Rattle.name_events.specs.declared.declaration.DeclarationForm.{DeclarationForm}
use Rattle.name_events.specs.declared.declaration.DeclarationForm.TheVariants as form
use Rattle.name_events.specs.declared.declaration.Declaration.{Declaration}
use Rattle.name_events.specs.declared.declaration.NameRule.{NameRule}
use Rattle.name_events.specs.declared.declaration.NameRule.TheVariants.{Unknown, Twice, NotVisible, TooEarly, NoBody, WrongEnd}
use Rattle.name_events.specs.declared.declaration.Meaning.{Meaning}
use Rattle.name_events.specs.declared.declaration.Meaning.TheVariants.{Denotes, Breaks}
use Rattle.name_events.specs.Outline.{source_events}
use Rattle.name_events.specs.Declarations.{Name, Entry, same, has_name, has_number, or_else, declared_in, is_package, is_generic_form, is_type_form, is_procedure_body, is_body_form}
use Rattle.name_events.specs.Known.{Known, here, is_number, source_package}
use Rattle.name_events.specs.Completions.{awaits, completed_by}
use Rattle.name_events.specs.KnownBehind.{known_behind, known_at_first}
use Rattle.name_events.specs.Denotes.{occurrences, whole_meaning, Files, known_of}

-- A broken rule, and where.
abbrev pub Fault : Type 0
Fault = NameRule × Pos

-- ---- occurrences

-- N3: a package, or Ada.Unchecked_Deallocation, is named only in a unit that has a `with` of it. A
-- unit names itself without one.
abbrev pub lacks_with : Known → Declaration → Bool
lacks_with now d =
    (is_package d || is_generic_form d.form) && not (has_number d.number now.withs || is_number now.own_package d.number)

-- N1, N3 and N4 at an occurrence.
abbrev pub occurrence_fault : Known → FoldedIdentifier × Meaning → Option Fault
occurrence_fault now (id, Breaks rule) = Some (rule, id.pos)
occurrence_fault now (id, Denotes d) = if lacks_with now d then Some (NotVisible, id.pos) else None

abbrev pub first_some : {A B : Type 0} → (A → Option B) → List A → Option B
first_some f [] = None
first_some f (x ∷ rest) = or_else (f x) (first_some f rest)

abbrev pub is_unknown : NameRule → Bool
is_unknown Unknown = true
is_unknown _ = false

-- N1 of a clause, at its first token: in a `with` stands a package or Ada.Unchecked_Deallocation,
-- in a `use` a package, in a `use type` a type. An identifier that is hidden or stands later has
-- its own fault instead.
abbrev pub may_stand : Clause → Meaning → Bool
may_stand clause.Elsewhere m = true
may_stand c (Breaks rule) = not (is_unknown rule)
may_stand clause.With (Denotes d) = is_package d || is_generic_form d.form
may_stand clause.Use (Denotes d) = is_package d
may_stand clause.UseType (Denotes d) = is_type_form d.form

abbrev pub mention_fault : Known → Known → Clause → FoldedName → Option Fault
mention_fault whole now c name =
    if may_stand c (whole_meaning whole now name) then first_some (occurrence_fault now) (occurrences whole now name)
    else Some (Unknown, name.first.pos)

-- ---- declarations

abbrev pub is_library_procedure : Entry → Bool
is_library_procedure entry = nat_eq 0 entry.1.region && is_procedure_body entry.1.form

-- N2 of a library unit: a second library procedure, a second unit of one name, or a function.
abbrev pub is_second_unit : Known → DeclarationForm → Name → Bool
is_second_unit now form.FunctionBody w = true
is_second_unit now form.ProcedureBody w = has_name w now.body_names || list_any is_library_procedure now.declared
is_second_unit now _ w = false

-- N2: a second declaration of a name in one region, which completes none.
abbrev pub is_second : Known → DeclarationForm → Name → Bool
is_second now declared_as w =
    not (is_some (completed_by now declared_as w))
    && (is_some (declared_in now.declared (here now) w) || (nat_eq 0 (here now) && is_second_unit now declared_as w))

-- N5: an incomplete type, a private type or a subprogram declaration that nothing completes.
abbrev pub is_incomplete : Known → Known → DeclarationForm → Bool
is_incomplete whole now declared_as = awaits declared_as && not (has_number (length now.declared) whole.completed)

abbrev pub declaration_fault : Known → Known → DeclarationForm → FoldedIdentifier → Option Fault
declaration_fault whole now declared_as id =
    if is_second now declared_as id.name then Some (Twice, id.pos)
    else if is_incomplete whole now declared_as then Some (NoBody, id.pos)
    else None

-- ---- package bodies

abbrev pub names_subprogram : Option Declaration → Bool
names_subprogram None = false
names_subprogram (Some d) = is_body_form d.form

-- N2 of a package body: a second one, or one with the name of a library subprogram.
abbrev pub is_second_body : Known → Name → Bool
is_second_body now w = has_name w now.body_names || names_subprogram (declared_in now.declared 0 w)

-- N4: its specification stands later. N5: it has none.
abbrev pub body_fault : Known → Known → FoldedIdentifier → Option Fault
body_fault whole now id =
    if is_second_body now id.name then Some (Twice, id.pos)
    else if is_some (source_package now.ended id.name) then None
    else if is_some (source_package whole.declared id.name) then Some (TooEarly, id.pos)
    else Some (NoBody, id.pos)

-- ---- components, and names after "end"

-- N2: a second component of a name in one record.
abbrev pub component_fault : Known → FoldedIdentifier → Option Fault
component_fault now id = if has_name id.name now.components then Some (Twice, id.pos) else None

-- N6: the name after "end" isn't the unit's.
abbrev pub closing_fault : FoldedIdentifier → Name → Option Fault
closing_fault id expected = if same id.name expected then None else Some (WrongEnd, id.pos)

-- ---- a text

-- The rule that is broken first at an event: at the first position, and there the one with the
-- lowest code.
unfoldable pub fault : Known → Known → Event → Option Fault
fault whole now (e.Mentions c name) = mention_fault whole now c name
fault whole now (e.Declares declared_as id) = declaration_fault whole now declared_as id
fault whole now (e.PackageBodyOpens id) = body_fault whole now id
fault whole now (e.DeclaresComponent id) = component_fault now id
fault whole now (e.EndsWithName id expected) = closing_fault id expected
fault whole now _ = None

-- The first fault of these events.
unfoldable pub first_fault : Known → Known → List Event → Option Fault
first_fault whole now [] = None
first_fault whole now (event ∷ rest) = or_else (fault whole now event) (first_fault whole (known_behind now event) rest)

-- The first broken rule of these files, in the order of the text.
unfoldable pub name_fault : Files → Option Fault
name_fault files = first_fault (known_of files) known_at_first (source_events files)
