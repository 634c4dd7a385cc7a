-- One argument of a list.
use Rattle.std.specs.Prelude.{ℕ, List, ◌++◌}
use Rattle.resolved_tree.specs.Trees.{Tree}
use Rattle.type_definitions.specs.declared.judgement.Fault.{Fault}
use Rattle.type_definitions.specs.declared.judgement.Role.{Role}
use Rattle.type_definitions.specs.Names.{Context}
use Rattle.type_definitions.specs.Expressions.{Given, around_role, inside, is_loose, role_type}

-- The faults around an argument, and those within it.
abbrev pub argument : Context → Role → ℕ → Given → Tree → List Fault
argument c role i w e = around_role c role i w e ++ inside c (is_loose c role i w) (role_type c role i w) e
