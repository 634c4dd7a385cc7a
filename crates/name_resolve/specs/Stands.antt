-- What the tables know, as the lists of the definitions.
use Rattle.std.specs.Prelude.{◌≡◌, true, ℕ, List, [], ◌∷◌, ◌++◌, map, reverse, Option, None, Some, nat_eq}
use Rattle.std.specs.List.{list_any}
use Rattle.std.specs.Map.{lookup}
use Rattle.std.specs.Rc.{rc_value}
use Rattle.std.specs.declared.rc.Rc.{Rc}
use Rattle.name_events.specs.declared.declaration.OpenRegion.{OpenRegion}
use Rattle.name_events.specs.declared.declaration.Declaration.{Declaration}
use Rattle.name_events.specs.Declarations.{Name, Entry, has_number, is_visible, last_of}
use Rattle.name_events.specs.Known.{Known, Context, used_in}
use Rattle.name_events.specs.KnownBehind.{context_found}
use Rattle.name_events.specs.Faults.{is_library_procedure}
use Rattle.name_resolve.specs.declared.entry_index.EntryIndex.{EntryIndex}
use Rattle.name_resolve.specs.declared.declarations.Declarations.{Declarations}
use Rattle.name_resolve.specs.declared.regions.Regions.{Regions}
use Rattle.name_resolve.specs.declared.knowledge.Knowledge.{Knowledge}
use Rattle.name_resolve.specs.declared.used.Used.{Used}
use Rattle.name_resolve.specs.declared.withs.Withs.{Withs}
use Rattle.name_resolve.specs.declared.numbers.Numbers.{Numbers}
use Rattle.name_resolve.specs.declared.contexts.Given.{Given}
use Rattle.name_resolve.specs.declared.contexts.Contexts.{Contexts}
use Rattle.name_resolve.specs.Tables.{Key, symbol_of, entry_at, searched, HasOnly, Answers, FirstAnswers, is_source_package, asks_completion, listed_at, in_use_at, own_region_of}

-- ---- declarations

-- Each region that has a declaration of a symbol in a visible part stands in the symbol's list.
abbrev pub HoldersStand : List (Key × Declaration) → List (List ℕ) → Type 0
HoldersStand table holders = (region s : ℕ) (d : Declaration) → entry_at table region s ≡ Some d → is_visible d ≡ true
    → has_number region (listed_at holders s) ≡ true

-- The tables have the symbols of these words only, and answer as the list does.
pub record IndexStands (words : List Name) (k : EntryIndex) (entries : List Entry) : Type 0 where
  pub last : Answers (searched words k.last) entries
  pub packages : FirstAnswers is_source_package (searched words k.packages) entries
  pub last_only : HasOnly words k.last
  pub packages_only : HasOnly words k.packages

-- The same declarations, with the symbols of their names.
abbrev pub StandFor : List Name → List (ℕ × Declaration) → List Entry → Type 0
StandFor words [] [] = Unit {0}
StandFor words (d ∷ ds) (entry ∷ entries) = (symbol_of words entry.0 ≡ Some d.0) × (d.1 ≡ entry.1) × StandFor words ds entries
StandFor words _ _ = ⊥

pub record EntriesStand (k : Declarations) (entries waiting over : List Entry) (completions : List ℕ) : Type 0 where
  pub declared : IndexStands k.words k.declared entries
  pub awaiting : FirstAnswers asks_completion (searched k.words k.awaiting) entries
  pub awaiting_only : HasOnly k.words k.awaiting
  pub all : k.all.items ≡ map (λ entry. entry.1) entries
  pub procedure : k.has_procedure ≡ list_any is_library_procedure entries
  pub pending : StandFor k.words k.pending.items waiting
  pub ended : IndexStands k.words k.ended over
  pub holders : HoldersStand k.ended.last k.holders
  pub completed : k.completed.keys ≡ completions

abbrev pub DeclarationsStand : Declarations → Known → Type 0
DeclarationsStand k now = EntriesStand k now.declared now.pending now.ended now.completed

-- ---- what a unit is given

abbrev pub given_withs : {Z : Type 0} → Option (Rc Given Z) → List ℕ
given_withs None = []
given_withs (Some given) = (rc_value given).withs.list.items

abbrev pub given_found : {Z : Type 0} → Option (Rc Given Z) → List ℕ
given_found None = []
given_found (Some given) = (rc_value given).withs.found.keys

abbrev pub given_uses : {Z : Type 0} → Option (Rc Given Z) → List ℕ
given_uses None = []
given_uses (Some given) = (rc_value given).uses.items

abbrev pub given_regions : {Z : Type 0} → Option (Rc Given Z) → List ℕ
given_regions None = []
given_regions (Some given) = (rc_value given).regions.keys

-- ---- regions

-- The numbers that are found are those of the regions of these packages, which are declared.
pub record AreRegionsOf (all : List Declaration) (packages found : List ℕ) : Type 0 where
  pub regions : List ℕ
  pub listed : map (own_region_of all) packages ≡ map Some regions
  pub has : (region : ℕ) → has_number region found ≡ has_number region regions

abbrev pub UsedStands : Used → List Declaration → List (ℕ × ℕ) → Type 0
UsedStands k all clauses = (region : ℕ) → AreRegionsOf all (used_in clauses region) (in_use_at (given_regions k.given) k.own region)

pub record RegionsAre (k : Regions) (regions : ℕ) (enclosing : List OpenRegion) (clauses : List (ℕ × ℕ)) (packages : List ℕ) : Type 0 where
  pub count : k.count ≡ regions
  pub around : reverse k.around.items ≡ enclosing
  pub uses : (region : ℕ) → in_use_at (given_uses k.given) k.uses region ≡ used_in clauses region
  pub named : k.named.items ≡ packages

abbrev pub RegionsStand : Regions → Known → Type 0
RegionsStand k now = RegionsAre k now.region_count now.open_regions now.uses now.using

-- ---- units

pub record NumbersStand (k : Numbers) (numbers : List ℕ) : Type 0 where
  pub listed : k.list.items ≡ numbers
  pub has : (n : ℕ) → has_number n k.found.keys ≡ has_number n numbers

-- What the unit is given stands before its own.
pub record WithsStand (k : Withs) (withs : List ℕ) : Type 0 where
  pub own_withs : List ℕ
  pub listed : given_withs k.given ++ own_withs ≡ withs
  pub own : NumbersStand k.own own_withs
  pub given : (n : ℕ) → has_number n (given_found k.given) ≡ has_number n (given_withs k.given)

pub record GivenStands {Z : Type 0} (all : List Declaration) (k : Option (Rc Given Z)) (context : Context) : Type 0 where
  pub listed : given_withs k ≡ context.withs
  pub has : (n : ℕ) → has_number n (given_found k) ≡ has_number n context.withs
  pub uses : given_uses k ≡ context.uses
  pub regions : AreRegionsOf all context.uses (given_regions k)

-- The context of the package of this number.
abbrev pub context_numbered : List Context → ℕ → Context
context_numbered contexts n = context_found (last_of (λ c. nat_eq n c.of_package) contexts)

pub record ContextsStand (all : List Declaration) (k : Contexts) (contexts : List Context) : Type 0 where
  pub given : (n : ℕ) → GivenStands all (lookup (nat_eq n) k.given.entries) (context_numbered contexts n)

-- ---- all

abbrev pub all_of : Known → List Declaration
all_of now = map (λ entry. entry.1) now.declared

pub record Stands (k : Knowledge) (now : Known) : Type 0 where
  pub declarations : DeclarationsStand k.declarations now
  pub regions : RegionsStand k.regions now
  pub withs : WithsStand k.withs now.withs
  pub contexts : ContextsStand (all_of now) k.contexts now.contexts
  pub used : UsedStands k.used (all_of now) now.uses
  pub own_package : k.own_package ≡ now.own_package
  pub in_own_body : k.in_own_body ≡ now.in_own_body
  pub body_names : k.body_names.keys ≡ now.body_names
  pub components : k.components.keys ≡ now.components

-- For all that the two may stand for.
abbrev pub EachKnown : Knowledge → Knowledge → (Known → Known → Type 0) → Type 0
EachKnown whole k P = (behind now : Known) → Stands whole behind → Stands k now → P behind now
