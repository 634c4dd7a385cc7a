-- Access parts with few selectors.
use Rattle.std.specs.Prelude.{◌≡◌, ℕ, false}
use Rattle.std.specs.List.{list_any}
use Rattle.type_definitions.specs.Types.{parts}
use Rattle.flow_paths.specs.Objects.{Typing, object_at}
use Rattle.deep_names.specs.Found.{is_past}

-- No access part of an object has too many selectors.
abbrev pub IsShallow : Typing → Type 0
IsShallow s = (x : ℕ) → list_any (is_past 0) (parts s.table (object_at s x).of) ≡ false
