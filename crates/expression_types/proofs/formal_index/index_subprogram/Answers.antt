use Rattle.std.proofs.Common.{subst, IfSome}
use Rattle.expression_types.specs.Occurrences.{Indexes, formal_names}
use Rattle.expression_types.proofs.FormalNames.{formals_replaced}
use Rattle.expression_types.proofs.formal_index.index_subprogram.Goals as goal

pub returns : goal.returns
returns c declared is finds =
    let own = c.index_of_many-index.result in
    let right = subst (λ fs. IfSome own (λ index. Indexes index (formal_names fs))) is c.index_of_many-index.ensures in
    formals_replaced declared c.args.indexes.now.items c.put_index.new.indexes.items c.args.f own c.put_index.ensures right finds
