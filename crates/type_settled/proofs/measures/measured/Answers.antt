use Rattle.std.proofs.Common.{refl}
use Rattle.type_settled.specs.Measures.{marked}
use Rattle.type_settled.proofs.Unsound.{whole_known}
use Rattle.type_settled.proofs.measures.measured.Goals as goal

pub returns-then-is_enough : goal.returns-then-is_enough
returns-then-is_enough c =
    let order = c.in_ok-order.order in
    whole_known (marked c.args.unsound.now) c.args.table.now order (record { values = order.values; done = order.done }) c.in_ok-order.ensures
    refl refl
    (c.in_ok-is_enough.ensures c.if-is_enough.true)
