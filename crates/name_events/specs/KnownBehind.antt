-- What is known after each thing that a text does with names (docs/LANGUAGE.md, "Names").
use Rattle.std.specs.Prelude.{ℕ, Bool, false, not, ◌+◌, if◌then◌else◌, nat_eq, List, [], ◌∷◌, ◌++◌, map, filter, fold, length, drop, Option, None, Some}
use Rattle.std.specs.Option.{option_map}
use Rattle.name_events.specs.declared.event.Clause.{Clause}
use Rattle.name_events.specs.declared.event.Clause.TheVariants as clause
use Rattle.name_events.specs.declared.event.FoldedIdentifier.{FoldedIdentifier}
use Rattle.name_events.specs.declared.event.FoldedName.{FoldedName}
use Rattle.name_events.specs.declared.event.Event.{Event}
use Rattle.name_events.specs.declared.event.Event.TheVariants as e
use Rattle.name_events.specs.declared.declaration.DeclarationForm.{DeclarationForm}
use Rattle.name_events.specs.declared.declaration.DeclarationForm.TheVariants as form
use Rattle.name_events.specs.declared.declaration.RegionPart.TheVariants as part
use Rattle.name_events.specs.declared.declaration.Declaration.{Declaration}
use Rattle.name_events.specs.declared.declaration.OpenRegion.{OpenRegion}
use Rattle.name_events.specs.Declarations.{Name, Entry, has_name, added_name, added_number, last_of, declared_in, is_package}
use Rattle.name_events.specs.Predefined.{predefined_entries, predefined_regions}
use Rattle.name_events.specs.Known.{Context, Known, here, part_here, region_of, source_package, used_in, seen, selected_along}
use Rattle.name_events.specs.Completions.{completed_by}

-- ---- units

abbrev pub no_context : Context
no_context = record { of_package = 0; withs = []; uses = [] }

abbrev pub context_found : Option Context → Context
context_found None = no_context
context_found (Some c) = c

abbrev pub context_of : List Context → Option Declaration → Context
context_of contexts None = no_context
context_of contexts (Some d) = context_found (last_of (λ c. nat_eq d.number c.of_package) contexts)

-- The package whose body this unit is, where its specification stands earlier.
abbrev pub package_named : Known → Option Name → Option Declaration
package_named now None = None
package_named now (Some w) = source_package now.ended w

-- A unit begins in the predefined region. The body of a package has what the context of its
-- specification gives.
abbrev pub begin_unit : Known → Option Declaration → Known
begin_unit now spec = record now {
  open_regions = (record { region = 0; part = part.Visible }) ∷ [];
  uses = filter (λ u. not (nat_eq 0 u.0)) now.uses ++ map (λ p. (0, p)) (context_of now.contexts spec).uses;
  withs = (context_of now.contexts spec).withs;
  own_package = option_map (λ d. d.number) spec;
  in_own_body = false;
}

-- What a dotted name in a `with` names: a `with` of Ada.X is also one of Ada.
abbrev pub named_in_with : List Entry → Option Declaration → List Name → List ℕ
named_in_with ended None rest = []
named_in_with ended (Some d) [] = d.number ∷ []
named_in_with ended (Some d) (w ∷ rest) =
    d.number ∷ named_in_with ended (if is_package d then declared_in ended d.own_region w else None) rest

abbrev pub selectors_of : FoldedName → List Name
selectors_of name = map (λ id. id.name) name.rest

-- The package that a name in a `use` names.
abbrev pub named_in_use : Clause → Option Declaration → List ℕ
named_in_use clause.Use (Some d) = if is_package d then d.number ∷ [] else []
named_in_use _ _ = []

-- ---- declarations

-- A declaration at this point. A package has the next region as its own.
abbrev pub new_entry : Known → DeclarationForm → FoldedIdentifier → Entry
new_entry now declared_as id = (
  id.name,
  record {
    number = length now.declared;
    pos = id.pos;
    form = declared_as;
    region = here now;
    part = part_here now;
    own_region = now.region_count;
  },
)

abbrev pub declare : Known → Entry → Known
declare now entry = record now {
  declared = now.declared ++ entry ∷ [];
  pending = now.pending ++ entry ∷ [];
}

-- A package begins: its body will have what the context gives.
abbrev pub begin_package : Known → ℕ → Known
begin_package now number = record now {
  own_package = Some number;
  contexts = now.contexts ++ (record { of_package = number; withs = now.withs; uses = used_in now.uses 0 }) ∷ [];
}

-- What is known after an identifier is declared: a completion has no entry of its own.
abbrev pub behind_declaration : Known → DeclarationForm → FoldedIdentifier → Option Declaration → Known
behind_declaration now declared_as id (Some d) = record now { completed = added_number now.completed d.number }
behind_declaration now form.Package id None = declare (begin_package now (length now.declared)) (new_entry now form.Package id)
behind_declaration now declared_as id None = declare now (new_entry now declared_as id)

-- The declarations of a region that haven't ended end here.
abbrev pub end_in : ℕ → Known → Known
end_in region now = record now {
  ended = now.ended ++ filter (λ entry. nat_eq region entry.1.region) now.pending;
  pending = filter (λ entry. not (nat_eq region entry.1.region)) now.pending;
}

-- ---- regions

abbrev pub open_region : Known → Known
open_region now = record now {
  open_regions = (record { region = now.region_count; part = part.Visible }) ∷ now.open_regions;
  region_count = now.region_count + 1;
}

abbrev pub is_first_body : Known → Name → Bool
is_first_body now w = not (has_name w now.body_names)

-- The region of a package goes on in its body. A body without a specification has one of its own.
abbrev pub open_body : Known → FoldedIdentifier → Option Declaration → Known
open_body now id (Some d) = record now {
  open_regions = (record { region = d.own_region; part = part.Body }) ∷ now.open_regions;
  in_own_body = is_first_body now id.name;
  body_names = added_name now.body_names id.name;
}
open_body now id None = record now {
  open_regions = (record { region = now.region_count; part = part.Body }) ∷ now.open_regions;
  region_count = now.region_count + 1;
  body_names = added_name now.body_names id.name;
}

abbrev pub turned_private : List OpenRegion → List OpenRegion
turned_private [] = []
turned_private (inner ∷ rest) = (record { region = inner.region; part = part.Private }) ∷ rest

-- ---- all events

-- What is known after an event.
unfoldable pub known_behind : Known → Event → Known
known_behind now (e.UnitBegins body_of) = begin_unit now (package_named now body_of)
known_behind now (e.UnitHasWith name) = record now {
  withs = now.withs ++ named_in_with now.ended (declared_in now.ended 0 name.first.name) (selectors_of name);
}
known_behind now (e.Mentions c name) = record now {
  using = now.using ++ named_in_use c (selected_along now (seen now name.first.name) (selectors_of name));
}
known_behind now e.UseClauseEnds = record now {
  uses = now.uses ++ map (λ p. (here now, p)) now.using;
  using = [];
}
known_behind now (e.Declares declared_as id) = behind_declaration now declared_as id (completed_by now declared_as id.name)
known_behind now e.DeclarationsEnd = end_in (here now) now
known_behind now e.OuterDeclarationsEnd = end_in (region_of (drop 1 now.open_regions)) now
known_behind now e.RegionOpens = open_region now
known_behind now (e.PackageBodyOpens id) = open_body now id (source_package now.ended id.name)
known_behind now e.PrivatePartBegins = record now { open_regions = turned_private now.open_regions }
known_behind now e.RegionCloses = record now { open_regions = drop 1 now.open_regions }
known_behind now e.RecordBegins = record now { components = [] }
known_behind now (e.DeclaresComponent id) = record now { components = added_name now.components id.name }
known_behind now (e.EndsWithName id expected) = now

-- What is known after these events.
abbrev pub known_behind_all : Known → List Event → Known
known_behind_all now events = fold known_behind now events

-- What is known before the first unit: the predefined declarations.
abbrev pub known_at_first : Known
known_at_first = record {
  declared = predefined_entries;
  pending = [];
  ended = predefined_entries;
  completed = [];
  region_count = predefined_regions;
  open_regions = [];
  uses = [];
  using = [];
  withs = [];
  own_package = None;
  in_own_body = false;
  contexts = [];
  body_names = [];
  components = [];
}
