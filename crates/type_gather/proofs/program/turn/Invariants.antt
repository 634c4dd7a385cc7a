use Rattle.std.proofs.Common.{◌≡◌, drop, map}
use Rattle.resolved_tree.specs.Nodes.{code_at}
use Rattle.type_definitions.specs.Whole.{gather_units, outside}
use Rattle.type_gather.specs.Gathering.{context}
use Rattle.type_gather.proofs.program.turn.Given as goal

abbrev pub invariant-units : goal.invariant-units
invariant-units l =
    gather_units (map (code_at l.rows) (drop l.unit-index l.units)) (context l.gathering)
    ≡ gather_units (map (code_at l.rows) l.units) (outside l.fn.known)
