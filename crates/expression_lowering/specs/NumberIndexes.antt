-- What a map of numbers by position answers, and where none is needed.
use Rattle.std.specs.Prelude.{◌≡◌, ◌<◌, ◌≤◌, ℕ, List, length, ◌&&◌, nat_eq, Bool, Option, MatchOption, slice_index_or}
use Rattle.std.specs.Map.{lookup}
use Rattle.indexmap.specs.IndexMap.{IndexMap}
use Rattle.spark_base.specs.declared.position.Pos.{Pos}
use Rattle.spark_base.specs.Positions.{Precedes}
use Rattle.name_events.specs.declared.declaration.Identified.{Identified}
use Rattle.name_events.specs.Identified.{number_at}

abbrev pub Key : Type 0
Key = ℕ × (ℕ × ℕ)

abbrev pub key_of : Pos → Key
key_of pos = (pos.file, (pos.line, pos.column))

abbrev pub same_key : Key → Key → Bool
same_key a b = nat_eq a.0 b.0 && (nat_eq a.1.0 b.1.0 && nat_eq a.1.1 b.1.1)

-- The entries answer for each position what the list has there.
abbrev pub Finds : List (Key × ℕ) → List Identified → Type 0
Finds entries numbers = (pos : Pos) → lookup (same_key (key_of pos)) entries ≡ number_at numbers pos

-- Each identifier stands before all later ones of the list.
abbrev pub InTextOrder : List Identified → Type 0
InTextOrder numbers = (i j : ℕ) (d : Identified) → i < j → j < length numbers
    → Precedes (slice_index_or numbers i d).pos (slice_index_or numbers j d).pos

-- All identifiers before the place stand before the position.
abbrev pub EndsBefore : List Identified → ℕ → Pos → Type 0
EndsBefore numbers from pos = (k : ℕ) (d : Identified) → k < from → Precedes (slice_index_or numbers k d).pos pos

-- All identifiers from the place on follow the position.
abbrev pub BeginsBehind : List Identified → ℕ → Pos → Type 0
BeginsBehind numbers to pos = (k : ℕ) (d : Identified) → to ≤ k → k < length numbers
    → Precedes pos (slice_index_or numbers k d).pos

-- There is a map that answers for the list, or the list is in order.
abbrev pub FoundBy : {S : Type 0} → Option (IndexMap Key ℕ S) → List Identified → Type 0
FoundBy by_pos numbers = MatchOption by_pos (InTextOrder numbers) (λ map. Finds map.entries numbers)
