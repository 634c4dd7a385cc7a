use Rattle.std.proofs.Common.{◌≡◌, drop, map}
use Rattle.resolved_tree.specs.Nodes.{code_at}
use Rattle.typed_tree.specs.Programs.{main_of}
use Rattle.typed_expressions.specs.Sites.{site}
use Rattle.typed_statements.proofs.program.main_sub.Given as goal

abbrev pub invariant-units : goal.invariant-units
invariant-units l =
    main_of (site l.writer) (map (code_at l.writer.reader.rows.now) (drop l.unit-index l.units))
    ≡ main_of (site l.writer) (map (code_at l.writer.reader.rows.now) l.units)
