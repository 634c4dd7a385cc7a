use Rattle.std.proofs.Common.{◌≡◌, drop}
use Rattle.type_settled.specs.Orders.{all_ready}
use Rattle.type_settled.specs.Ranks.{is_lower}
use Rattle.type_settled.proofs.ranks.all_lower.Given as goal

abbrev pub invariant-components : goal.invariant-components
invariant-components l =
    all_ready (is_lower l.ranks l.limit) (drop l.component-index l.components) ≡ all_ready (is_lower l.ranks l.limit) l.components
