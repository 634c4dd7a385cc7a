-- A fact that an act doesn't touch forbids nothing at it.
use Rattle.std.proofs.Common.{ap, ◌∙◌, Option, None, if◌then◌else◌}
use Rattle.place_names.specs.declared.act.Act.{Act}
use Rattle.place_names.specs.Rules.{Forbidden}
use Rattle.state_trees.proofs.Tested.{AllowsUntouched, same_either_way}
use Rattle.state_trees.proofs.Untouched.{untouched_allowed}
use Rattle.move_rules.specs.MoveRules.{is_for_moves, moves_forbid}

pub moves_untouched : (a : Act) → AllowsUntouched a (moves_forbid a)
moves_untouched a f e =
    ap (λ (o : Option Forbidden). if is_for_moves a then o else None) (untouched_allowed a f e) ∙ same_either_way (is_for_moves a) None
