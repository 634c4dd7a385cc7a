use Rattle.type_sorts.proofs.Sorted.{whole_sorted}
use Rattle.type_sorts.proofs.looked.are_sorted.Goals as goal

pub returns : goal.returns
returns c = λ sorted.
    whole_sorted c.args.table.now c.types.looked.done.items c.types.looked.depth c.types.invariant (c.is_whole.ensures sorted)
