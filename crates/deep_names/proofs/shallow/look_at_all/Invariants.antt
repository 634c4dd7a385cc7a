use Rattle.std.proofs.Common.{◌≡◌, ℕ, ◌<◌, false}
use Rattle.std.specs.List.{list_any}
use Rattle.type_definitions.specs.Types.{parts}
use Rattle.flow_paths.specs.Objects.{object_at}
use Rattle.program_typing.specs.Typings.{typing}
use Rattle.deep_names.specs.Found.{is_past}
use Rattle.deep_names.proofs.shallow.look_at_all.Given as goal

abbrev pub invariant-objects : goal.invariant-objects
invariant-objects l =
    (x : ℕ) → x < l.object-index → list_any (is_past 0) (parts (typing l.known).table (object_at (typing l.known) x).of) ≡ false
