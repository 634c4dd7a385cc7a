use Rattle.std.proofs.Common.{◌≡◌, ◌++◌, drop}
use Rattle.type_definitions.specs.Types.{parts}
use Rattle.type_words.specs.Parts.{all_offsets}
use Rattle.type_words.proofs.offsets.push_access_offsets.Given as goal

abbrev pub invariant-parts : goal.invariant-parts
invariant-parts l =
    l.offsets.items ++ all_offsets l.table l.t (drop l.part-index (parts l.table l.t)) ≡ l.initial.offsets.items ++ all_offsets l.table l.t (parts l.table l.t)
