use Rattle.std.proofs.Common.{◌≡◌, ◌++◌, drop, false}
use Rattle.typed_tree.specs.Expressions.{characters_behind}
use Rattle.typed_expressions.proofs.strings.unquoted.Given as goal

abbrev pub invariant-bytes : goal.invariant-bytes
invariant-bytes l =
    l.made.items ++ characters_behind l.quoted (drop l.byte-index l.bytes) ≡ characters_behind false l.bytes
