-- The identifiers of parsed files have ascending positions, so no two have one.
use Rattle.std.proofs.Common.{◌≡◌, inl, ℕ, Bool, true, false, ◌&&◌, List, [], ◌∷◌, ◌++◌, map, if◌then◌else◌, nat_eq, refl, sym, subst, arith, true≢false}
use Rattle.std.specs.List.{flat_map}
use Rattle.std.proofs.lemmas.List.{map-append}
use Rattle.machine.specs.spark_base.declared.position.Pos.{Pos}
use Rattle.machine.specs.spark_base.Positions.{Precedes}
use Rattle.spark_base.proofs.Positions.{Precedes-irrefl}
use Rattle.ada_lexer.specs.Tokens.{Cut}
use Rattle.ada_tree.specs.declared.unit.SourceUnit.{SourceUnit}
use Rattle.name_events.specs.declared.event.Event.{Event}
use Rattle.name_events.specs.declared.event.Event.TheVariants as e
use Rattle.name_events.specs.declared.event.FoldedIdentifier.{FoldedIdentifier}
use Rattle.name_events.specs.declared.declaration.Declaration.{Declaration}
use Rattle.name_events.specs.declared.declaration.Identified.{Identified}
use Rattle.name_events.specs.declared.declaration.Meaning.{Meaning}
use Rattle.name_events.specs.declared.declaration.Meaning.TheVariants.{Denotes, Breaks}
use Rattle.name_events.specs.Declarations.{is_package}
use Rattle.name_events.specs.Outline.{source_events}
use Rattle.name_events.specs.Known.{Known, source_package}
use Rattle.name_events.specs.KnownBehind.{known_behind, known_at_first}
use Rattle.name_events.specs.Denotes.{known_of, meaning, selected_meaning, occurrences_from}
use Rattle.name_events.specs.Identified.{identified, identified_at, identified_from, identified_use, identified_body, same_position}
use Rattle.std.proofs.Common.{Option, Some, None}
use Rattle.settled_types.specs.FilePositions.Order.{Ascends, IsLeftOf, event_position, event_positions}
use Rattle.settled_types.specs.FilePositions.Texts.{AreParsed}
use Rattle.settled_types.proofs.FilePositions.Rows.{left_both}
use Rattle.settled_types.proofs.FilePositions.Ascending.{left_ascends, events_ascend}

abbrev places : List Identified → List Pos
places items = map (λ item. item.pos) items

uses_left : (whole now : Known) (id : FoldedIdentifier) (m : Meaning) (rest : List FoldedIdentifier)
    → IsLeftOf (places (flat_map identified_use (occurrences_from whole now id m rest))) (id.pos ∷ map (λ id. id.pos) rest)
uses_left whole now id (Denotes d) [] = inl (refl, tt)
uses_left whole now id (Breaks rule) [] = tt
uses_left whole now id (Breaks rule) (next ∷ rest) = tt
uses_left whole now id (Denotes d) (next ∷ rest) =
    inl (refl, by (is_package d) (uses_left whole now next (selected_meaning whole now d next.name) rest))
  where
    by : (b : Bool)
        → IsLeftOf (places (flat_map identified_use (occurrences_from whole now next (selected_meaning whole now d next.name) rest)))
        (next.pos ∷ map (λ id. id.pos) rest)
        → IsLeftOf (places (flat_map identified_use (if b then occurrences_from whole now next (selected_meaning whole now d next.name) rest else [])))
        (next.pos ∷ map (λ id. id.pos) rest)
    by true later = later
    by false later = tt

body_left : (id : FoldedIdentifier) (o : Option Declaration) → IsLeftOf (places (identified_body id o)) (id.pos ∷ [])
body_left id None = tt
body_left id (Some d) = inl (refl, tt)

at_left : (whole now : Known) (event : Event) → IsLeftOf (places (identified_at whole now event)) (event_position event)
unfolding identified_at
at_left whole now (e.Mentions c name) = uses_left whole now name.first (meaning whole now name.first.name) name.rest
at_left whole now (e.Declares form id) = inl (refl, tt)
at_left whole now (e.PackageBodyOpens id) = body_left id (source_package now.ended id.name)
at_left whole now _ = tt

from_left : (whole now : Known) (events : List Event) → IsLeftOf (places (identified_from whole now events)) (event_positions events)
unfolding identified_from
from_left whole now [] = tt
from_left whole now (event ∷ rest) =
    let xs : List Identified = identified_at whole now event in
    let ys : List Identified = identified_from whole (known_behind now event) rest in
    subst (λ ps. IsLeftOf ps (event_position event ++ event_positions rest)) (sym (map-append (λ (item : Identified). item.pos) xs ys))
    (left_both (places xs) (places ys) (event_position event) (event_positions rest) (at_left whole now event)
    (from_left whole (known_behind now event) rest))

-- The identifiers of parsed files stand in the order of the text.
pub identified_ascend : (texts : List (List Cut)) (files : List (List SourceUnit)) → AreParsed 0 texts files
    → Ascends (map (λ item. item.pos) (identified files))
unfolding identified
identified_ascend texts files are =
    left_ascends (places (identified files)) (event_positions (source_events files)) (from_left (known_of files) known_at_first (source_events files))
    (events_ascend texts files are)

-- ---- two positions

same : (a b : Pos) → same_position a b ≡ true → a ≡ b
same a b is =
    let files = both (nat_eq a.file b.file) (nat_eq a.line b.line && nat_eq a.column b.column) is in
    let lines = both (nat_eq a.line b.line) (nat_eq a.column b.column) files.1 in
    let file = equal a.file b.file files.0 in
    let line = equal a.line b.line lines.0 in
    let column = equal a.column b.column lines.1 in
    λ i. record { file = file i; line = line i; column = column i }
  where
    both : (x y : Bool) → x && y ≡ true → (x ≡ true) × (y ≡ true)
    both true y is = (refl, is)
    both false y is = absurd (true≢false (sym is))

    equal : (x y : ℕ) → nat_eq x y ≡ true → x ≡ y
    equal x y is = grind (arith, is)

pub apart : (a b : Pos) → Precedes a b → same_position a b ≡ false
apart a b before = by (same_position a b) refl
  where
    by : (x : Bool) → same_position a b ≡ x → same_position a b ≡ false
    by false is = is
    by true is = absurd (Precedes-irrefl b (subst (λ from. Precedes from b) (same a b is) before))
