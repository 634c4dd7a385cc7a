use Rattle.std.proofs.Common.{ap, arith, get_or, length, true, sym, ◌∙◌}
use Rattle.type_settled.specs.Measures.{marked}
use Rattle.type_settled.proofs.Reached.{some_found}
use Rattle.type_settled.proofs.Unsound.{none_left}
use Rattle.type_settled.proofs.measures.is_rest_unsound.Goals as goal

pub returns-then-is_whole : goal.returns-then-is_whole
returns-then-is_whole c is t undone unmarked =
    absurd (none_left c.args.order.now.done.items (c.is_whole.ensures c.if-is_whole.true) t undone)

pub returns : goal.returns
returns c all t undone unmarked =
    let found = rw c.in-Some.is at c.in_ok-made.ensures in
    let table = c.args.table.now in
    let done = ap (λ ds. get_or ds t true) c.deref.ensures.value ∙ undone in
    sym (some_found (length table) (marked c.args.unsound.now) table t) ∙ sym (found t (length table) (omega arith))
    ∙ ap (λ ms. marked ms t) (sym c.deref-2.ensures.value) ∙ c.are_marked.ensures all t done unmarked
