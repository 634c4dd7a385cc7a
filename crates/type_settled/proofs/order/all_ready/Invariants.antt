use Rattle.std.proofs.Common.{◌≡◌, drop}
use Rattle.type_settled.specs.Orders.{is_done, all_ready}
use Rattle.type_settled.proofs.order.all_ready.Given as goal

abbrev pub invariant-components : goal.invariant-components
invariant-components l =
    all_ready (is_done l.done) (drop l.component-index l.components) ≡ all_ready (is_done l.done) l.components
