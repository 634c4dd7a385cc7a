-- What the faults of a case are.
use Rattle.std.proofs.Common.{◌≡◌, refl, ◌++◌}
use Rattle.spark_base.specs.declared.position.Pos.{Pos}
use Rattle.resolved_tree.specs.Trees.{Tree, Code, Case}
use Rattle.type_definitions.specs.Names.{Context}
use Rattle.type_definitions.specs.Expressions.{own_type}
use Rattle.type_definitions.specs.Statements.{coverage, type_or_integer}
use Rattle.type_definitions.specs.Declarations.{alternatives_faults, choices_of, code_faults, selector_faults}

pub case_is : (c : Context) (p : Pos) (x : Tree) (whens : Code) → code_faults c (Case p x whens)
    ≡ selector_faults c x ++ (coverage c p x (choices_of whens) ++ alternatives_faults c (type_or_integer (own_type c x)) whens)
unfolding code_faults
case_is c p x whens = refl
