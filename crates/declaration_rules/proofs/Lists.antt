-- Lists of code.
use Rattle.std.proofs.Common.{◌≡◌, refl, ◌∷◌}
use Rattle.resolved_tree.specs.Trees.{Code, code_items, More}
use Rattle.type_definitions.specs.Statements.{is_one_choice}
use Rattle.type_definitions.specs.Declarations.{has_none}

pub one_item : (a rest : Code) → is_one_choice (a ∷ code_items rest) ≡ has_none rest
one_item a (More b rest) = refl
one_item a _ = refl
