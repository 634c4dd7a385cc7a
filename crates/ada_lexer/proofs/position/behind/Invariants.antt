use Rattle.std.proofs.Common.{◌≡◌, ◌≤◌, ◌+◌, take}
use Rattle.std.specs.List.{fold}
use Rattle.ada_lexer.specs.Positions.{next_position}
use Rattle.ada_lexer.proofs.position.behind.Given as goal

abbrev pub invariant-bytes : goal.invariant-bytes
invariant-bytes l =
    (l.pos ≡ fold next_position l.fn.pos (take l.b-index l.bytes))
    × (l.pos.line ≤ l.fn.pos.line + l.b-index)
    × (l.pos.column ≤ l.fn.pos.column + l.b-index)
