use Rattle.std.proofs.Common.{◌≡◌, map, length}
use Rattle.token_reading.specs.Spelled.{told}
use Rattle.token_reading.specs.Kinds.{of_kind}
use Rattle.token_reading.specs.Reading.{code, is_in}
use Rattle.token_reading.proofs.kind.is_of_kinds.Given as goal

abbrev pub invariant-kinds : goal.invariant-kinds
invariant-kinds l = is_in (map of_kind l.left) (code (told l.token)) ≡ is_in (map of_kind l.kinds) (code (told l.token))

abbrev pub decreases-kinds : goal.decreases-kinds
decreases-kinds l = length l.left
