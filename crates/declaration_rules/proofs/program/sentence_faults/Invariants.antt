use Rattle.std.proofs.Common.{◌≡◌, drop, map, flat_map}
use Rattle.resolved_tree.specs.Nodes.{code_at}
use Rattle.type_definitions.specs.Faults.{noted}
use Rattle.type_definitions.specs.Whole.{unit_faults}
use Rattle.expression_rules.specs.Around.{context}
use Rattle.declaration_rules.proofs.program.sentence_faults.Given as goal

abbrev pub invariant-units : goal.invariant-units
invariant-units l =
    noted l.found (flat_map (unit_faults (context l.checker)) (map (code_at l.checker.rows.now) (drop l.unit-index l.units)))
    ≡ noted l.initial.found (flat_map (unit_faults (context l.checker)) (map (code_at l.checker.rows.now) l.units))
