use Rattle.std.proofs.Common.{◌≡◌, ◌++◌, drop, map, flat_map}
use Rattle.resolved_tree.specs.Nodes.{code_at}
use Rattle.type_definitions.specs.Whole.{made}
use Rattle.expression_rules.specs.Around.{context}
use Rattle.declaration_rules.proofs.program.all_made.Given as goal

abbrev pub invariant-units : goal.invariant-units
invariant-units l =
    l.types ++ flat_map (made (context l.checker)) (map (code_at l.checker.rows.now) (drop l.unit-index l.units))
    ≡ flat_map (made (context l.checker)) (map (code_at l.checker.rows.now) l.units)
