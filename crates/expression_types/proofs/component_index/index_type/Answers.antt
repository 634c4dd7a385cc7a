use Rattle.std.proofs.Common.{◌∙◌, subst, IfSome}
use Rattle.expression_types.specs.Occurrences.{Indexes, component_names}
use Rattle.expression_types.proofs.ComponentNames.{index_replaced}
use Rattle.expression_types.proofs.component_index.index_type.Goals as goal

pub returns : goal.returns
returns c before after same is finds =
    let own = c.index_of_many-index.result in
    let right = subst (λ cs. IfSome own (λ index. Indexes index (component_names cs))) (c.components_of.ensures ∙ is) c.index_of_many-index.ensures in
    index_replaced before after c.args.indexes.now.items c.put_index.new.indexes.items c.args.t own c.put_index.ensures same right finds
