-- What is known of names at one point of a text (docs/LANGUAGE.md, "Names"; Ada 2012, 8.1 to 8.4
-- and 10.1).
use Rattle.std.specs.Prelude.{ℕ, Bool, false, ◌&&◌, ◌||◌, if◌then◌else◌, nat_eq, nat_le, slice_get, List, [], ◌∷◌, Option, None, Some, option_to_list}
use Rattle.std.specs.List.{flat_map, list_all}
use Rattle.std.specs.Option.{option_map}
use Rattle.name_events.specs.declared.declaration.RegionPart.{RegionPart}
use Rattle.name_events.specs.declared.declaration.RegionPart.TheVariants as part
use Rattle.name_events.specs.declared.declaration.Declaration.{Declaration}
use Rattle.name_events.specs.declared.declaration.OpenRegion.{OpenRegion}
use Rattle.name_events.specs.Declarations.{Name, Entry, first_where, is_named, declared_in, or_else, innermost, is_package, is_visible}
use Rattle.name_events.specs.Predefined.{predefined_count}

-- What the context of the specification of a package gives to its body.
pub record Context : Type 0 where
  -- the number of the package
  pub of_package : ℕ
  -- what the unit has a `with` of, by number
  pub withs : List ℕ
  -- the packages that its context has a `use` of
  pub uses : List ℕ

pub record Known : Type 0 where
  -- the declarations, in the order of their identifiers: the number of each is its index
  pub declared : List Entry
  -- those that haven't ended
  pub pending : List Entry
  -- those that have ended, in the order of their ends
  pub ended : List Entry
  -- the numbers of those that are completed
  pub completed : List ℕ
  -- how many regions have begun
  pub region_count : ℕ
  -- the enclosing regions, the innermost first
  pub open_regions : List OpenRegion
  -- for each `use` of a package the region in which it stands, and the package; those of the
  -- context have the region 0
  pub uses : List (ℕ × ℕ)
  -- the packages that the `use` clause names that hasn't ended
  pub using : List ℕ
  -- what the unit has a `with` of, by number
  pub withs : List ℕ
  -- the package that the unit is the specification or the body of
  pub own_package : Option ℕ
  -- whether this is within the first body of that package
  pub in_own_body : Bool
  -- the contexts of the packages so far
  pub contexts : List Context
  -- the names of the package bodies so far
  pub body_names : List Name
  -- the components so far of the record
  pub components : List Name

-- ---- the point

abbrev pub region_of : List OpenRegion → ℕ
region_of [] = 0
region_of (inner ∷ rest) = inner.region

abbrev pub part_of : List OpenRegion → RegionPart
part_of [] = part.Visible
part_of (inner ∷ rest) = inner.part

-- The innermost enclosing region.
abbrev pub here : Known → ℕ
here now = region_of now.open_regions

-- The part of it that is open.
abbrev pub part_here : Known → RegionPart
part_here now = part_of now.open_regions

abbrev pub is_number : Option ℕ → ℕ → Bool
is_number None n = false
is_number (Some m) n = nat_eq m n

-- ---- packages

-- A package of the source among these declarations, by its name.
abbrev pub source_package : List Entry → Name → Option Declaration
source_package entries w =
    option_map (λ entry. entry.1)
    (first_where (λ entry. is_named 0 w entry && (is_package entry.1 && nat_le predefined_count entry.1.number)) entries)

-- The packages with a `use` in a region.
abbrev pub used_in : List (ℕ × ℕ) → ℕ → List ℕ
used_in [] region = []
used_in (clause ∷ rest) region = if nat_eq region clause.0 then clause.1 ∷ used_in rest region else used_in rest region

-- The packages that a `use` clause in an enclosing region or in the context names.
abbrev pub packages_in_use : Known → List ℕ
packages_in_use now = flat_map (λ inner. used_in now.uses inner.region) now.open_regions

abbrev pub if_visible : Option Declaration → Option Declaration
if_visible None = None
if_visible (Some d) = if is_visible d then Some d else None

-- The declaration of a name in the visible part of a package.
abbrev pub visible_member : Known → Option Entry → Name → Option Declaration
visible_member now None w = None
visible_member now (Some holder) w = if_visible (declared_in now.ended holder.1.own_region w)

-- Those in the visible parts of these packages.
abbrev pub visible_members : Known → List ℕ → Name → List Declaration
visible_members now packages w = flat_map (λ n. option_to_list (visible_member now (slice_get now.declared n) w)) packages

-- The declaration that all of them are.
abbrev pub only_one : List Declaration → Option Declaration
only_one [] = None
only_one (d ∷ rest) = if list_all (λ other. nat_eq other.number d.number) rest then Some d else None

-- ---- what a name denotes

-- The last declaration of a name that ended before, in the innermost enclosing region that has one.
abbrev pub directly_visible : Known → Name → Option Declaration
directly_visible now w = innermost (declared_in now.ended) now.open_regions w

-- That one; else the declaration in the visible part of a package that a `use` clause names.
abbrev pub seen : Known → Name → Option Declaration
seen now w = or_else (directly_visible now w) (only_one (visible_members now (packages_in_use now) w))

-- Within the body of a package its own declarations are named in any part, elsewhere those in the
-- visible part.
abbrev pub if_reached : Known → Declaration → Option Declaration → Option Declaration
if_reached now holder None = None
if_reached now holder (Some d) =
    if is_visible d || (now.in_own_body && is_number now.own_package holder.number) then Some d else None

-- The declaration of a name in a package.
abbrev pub selected : Known → Declaration → Name → Option Declaration
selected now holder w = if_reached now holder (declared_in now.ended holder.own_region w)

-- The declaration that a name with these selectors denotes.
abbrev pub selected_along : Known → Option Declaration → List Name → Option Declaration
selected_along now None rest = None
selected_along now (Some d) [] = Some d
selected_along now (Some d) (w ∷ rest) = if is_package d then selected_along now (selected now d w) rest else None
