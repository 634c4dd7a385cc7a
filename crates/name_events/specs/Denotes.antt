-- What each occurrence of an identifier denotes, or which rule it breaks (docs/LANGUAGE.md,
-- "Names"; Ada 2012, 8.2 to 8.4 and 4.1.3).
--
-- `now` is what is known before the occurrence, and `whole` what is known after the whole text:
-- what is in `whole` and not in `now` stands later. A declaration that hasn't ended stands later
-- too.
use Rattle.std.specs.Prelude.{ℕ, Bool, true, false, if◌then◌else◌, nat_lt, ◌+◌, ◌-◌, List, [], ◌∷◌, ◌++◌, map, Option, None, Some, is_some}
use Rattle.std.specs.List.{flat_map}
use Rattle.ada_tree.specs.declared.unit.SourceUnit.{SourceUnit}
use Rattle.name_events.specs.declared.event.FoldedIdentifier.{FoldedIdentifier}
use Rattle.name_events.specs.declared.event.FoldedName.{FoldedName}
use Rattle.name_events.specs.declared.event.Event.{Event}
use Rattle.name_events.specs.declared.event.Event.TheVariants as e
use Rattle.name_events.specs.declared.declaration.DeclarationForm.{DeclarationForm}
use Rattle.name_events.specs.declared.declaration.DeclarationForm.TheVariants as form
use Rattle.name_events.specs.declared.declaration.Declaration.{Declaration}
use Rattle.name_events.specs.declared.declaration.NameRule.{NameRule}
use Rattle.name_events.specs.declared.declaration.NameRule.TheVariants.{Unknown, NotVisible, TooEarly}
use Rattle.name_events.specs.declared.declaration.Meaning.{Meaning}
use Rattle.name_events.specs.declared.declaration.Meaning.TheVariants.{Denotes, Breaks}
use Rattle.name_events.specs.declared.declaration.DeclKind.{DeclKind}
use Rattle.name_events.specs.declared.declaration.DeclKind.TheVariants as kind
use Rattle.name_events.specs.declared.declaration.DeclInfo.{DeclInfo}
use Rattle.name_events.specs.Outline.{source_events}
use Rattle.name_events.specs.Declarations.{Name, Entry, declared_in, innermost, is_package}
use Rattle.name_events.specs.Predefined.{predefined_count, predefined_regions}
use Rattle.name_events.specs.Known.{Known, is_number, packages_in_use, visible_members, seen, selected}
use Rattle.name_events.specs.KnownBehind.{known_behind, known_behind_all, known_at_first}

-- ---- an identifier that no package stands before

abbrev pub is_there : {A : Type 0} → List A → Bool
is_there [] = false
is_there (x ∷ rest) = true

-- N3: two packages in use have it in their visible parts.
abbrev pub is_ambiguous : Known → Name → Bool
is_ambiguous now w = is_there (visible_members now (packages_in_use now) w)

-- N4: one stands later in an enclosing region.
abbrev pub stands_later : Known → Known → Name → Bool
stands_later whole now w = is_some (innermost (declared_in whole.declared) now.open_regions w)

-- Why an identifier denotes nothing. N1: no declaration is found, and none stands later in an
-- enclosing region.
abbrev pub why_unseen : Known → Known → Name → NameRule
why_unseen whole now w =
    if is_ambiguous now w then NotVisible else if stands_later whole now w then TooEarly else Unknown

abbrev pub meaning_or : Option Declaration → NameRule → Meaning
meaning_or None rule = Breaks rule
meaning_or (Some d) rule = Denotes d

abbrev pub meaning : Known → Known → Name → Meaning
meaning whole now w = meaning_or (seen now w) (why_unseen whole now w)

-- ---- an identifier after a package and a dot

-- N3: it is declared in the private part or the body of the package, and this is outside of its
-- body.
abbrev pub is_hidden : Known → Declaration → Name → Bool
is_hidden now holder w = is_some (declared_in now.ended holder.own_region w)

-- It stands later in the package. N4 in the package itself; from outside, what stands later is in
-- its body: N3.
abbrev pub stands_later_in : Known → Declaration → Name → Bool
stands_later_in whole holder w = is_some (declared_in whole.declared holder.own_region w)

abbrev pub why_unselected : Known → Known → Declaration → Name → NameRule
why_unselected whole now holder w =
    if is_hidden now holder w then NotVisible
    else if stands_later_in whole holder w then (if is_number now.own_package holder.number then TooEarly else NotVisible)
    else Unknown

abbrev pub selected_meaning : Known → Known → Declaration → Name → Meaning
selected_meaning whole now holder w = meaning_or (selected now holder w) (why_unselected whole now holder w)

-- ---- a name

-- The occurrences among the identifiers of a name, each with its meaning: an identifier after a
-- dot is one where what stands before the dot is a package.
abbrev pub occurrences_from : Known → Known → FoldedIdentifier → Meaning → List FoldedIdentifier → List (FoldedIdentifier × Meaning)
occurrences_from whole now id m [] = (id, m) ∷ []
occurrences_from whole now id (Breaks rule) (next ∷ rest) = (id, Breaks rule) ∷ []
occurrences_from whole now id (Denotes d) (next ∷ rest) =
    (id, Denotes d)
    ∷ (if is_package d then occurrences_from whole now next (selected_meaning whole now d next.name) rest else [])

abbrev pub occurrences : Known → Known → FoldedName → List (FoldedIdentifier × Meaning)
occurrences whole now name = occurrences_from whole now name.first (meaning whole now name.first.name) name.rest

-- What a name denotes as a whole: nothing, where an identifier follows what is no package.
abbrev pub meaning_along : Known → Known → Meaning → List FoldedIdentifier → Meaning
meaning_along whole now (Breaks rule) rest = Breaks rule
meaning_along whole now (Denotes d) [] = Denotes d
meaning_along whole now (Denotes d) (next ∷ rest) =
    if is_package d then meaning_along whole now (selected_meaning whole now d next.name) rest else Breaks Unknown

abbrev pub whole_meaning : Known → Known → FoldedName → Meaning
whole_meaning whole now name = meaning_along whole now (meaning whole now name.first.name) name.rest

-- ---- a text

abbrev pub Files : Type 0
Files = List (List SourceUnit)

unfoldable pub known_of : Files → Known
known_of files = known_behind_all known_at_first (source_events files)

abbrev pub number_denoted : FoldedIdentifier × Meaning → List ℕ
number_denoted (id, Denotes d) = d.number ∷ []
number_denoted (id, Breaks rule) = []

-- For each name that is used, the numbers of the declarations that its occurrences denote.
unfoldable pub mentioned_at : Known → Known → Event → List (List ℕ)
mentioned_at whole now (e.Mentions c name) = flat_map number_denoted (occurrences whole now name) ∷ []
mentioned_at whole now _ = []

unfoldable pub mentioned_from : Known → Known → List Event → List (List ℕ)
mentioned_from whole now [] = []
mentioned_from whole now (event ∷ rest) = mentioned_at whole now event ++ mentioned_from whole (known_behind now event) rest

unfoldable pub mentioned : Files → List (List ℕ)
mentioned files = mentioned_from (known_of files) known_at_first (source_events files)

-- The number of the declaration of each occurrence, in the order of the text.
unfoldable pub denotes : Files → List ℕ
denotes files = flat_map (λ numbers. numbers) (mentioned files)

-- ---- declarations as later stages see them

abbrev pub kind_of : DeclarationForm → DeclKind
kind_of form.Package = kind.Package
kind_of form.Generic = kind.Predefined
kind_of form.IncompleteType = kind.TypeName
kind_of form.PrivateType = kind.TypeName
kind_of form.FullType = kind.TypeName
kind_of form.Subtype = kind.TypeName
kind_of form.Literal = kind.Literal
kind_of form.Object = kind.Object
kind_of form.Formal = kind.Formal
kind_of form.LoopParameter = kind.Parameter
kind_of form.SubprogramDeclaration = kind.Subprogram
kind_of form.ProcedureBody = kind.Subprogram
kind_of form.FunctionBody = kind.Subprogram
kind_of form.Instance = kind.Instance

-- The regions of Ada and of its two packages have no number of their own: they count as the
-- predefined one, and the first region of the source has the number 1.
abbrev pub info_of : Entry → DeclInfo
info_of entry = record {
  pos = entry.1.pos;
  kind = if nat_lt entry.1.number predefined_count then kind.Predefined else kind_of entry.1.form;
  region = (entry.1.region + 1) - predefined_regions;
}

-- All declarations, the predefined ones first, in the order of their identifiers.
unfoldable pub decl_infos : Files → List DeclInfo
decl_infos files = map info_of (known_of files).declared
