use Rattle.std.proofs.Common.{◌≡◌, false, ◌∙◌, subst, map, IfOk, arith}
use Rattle.std.proofs.lemmas.Grind.{common_steps}
use Rattle.resolved_tree.specs.Nodes.{tree_at}
use Rattle.type_definitions.specs.Expressions.{given_names, all_by_position}
use Rattle.expression_types.specs.Here.{here}
use Rattle.typed_tree.specs.Nodes.{typed_at, Holds}
use Rattle.typed_tree.specs.Expressions.{role_names}
use Rattle.typed_expressions.proofs.ArgumentOrder.{named_in_order, named_list}
use Rattle.typed_expressions.proofs.writer.Writer.in_order.Goals as goal

pub list-requires-2 : goal.list-requires-2
list-requires-2 c =
    (named_in_order c.args.to.now c.push.new.self c.in_ok-other.other (given_names (tree_at c.args.self.now.reader.rows.now c.args.args))
    c.args.values.now c.deref.result.now (role_names (here c.args.self.now.reader) c.args.role) c.push.ensures.grew c.requires.values
    c.in_ok-other.ensures.tree (c.deref.ensures.value ∙ c.in_ok-parts.ensures)).0

pub returns-clause-tree : goal.returns-clause-tree
returns-clause-tree c =
    let args = tree_at c.args.self.now.reader.rows.now c.args.args in
    let context = here c.args.self.now.reader in
    let holds = named_in_order c.args.to.now c.push.new.self c.in_ok-other.other (given_names args)
    c.args.values.now c.deref.result.now (role_names context c.args.role) c.push.ensures.grew c.requires.values
    c.in_ok-other.ensures.tree (c.deref.ensures.value ∙ c.in_ok-parts.ensures) in
    let is : all_by_position (given_names args) ≡ false = grind (arith, common_steps, c.if-by_position.false, c.by_position.ensures) in
    subst (λ u. IfOk c.list-2.result (λ n. Holds c.list-2.new.self n u))
    (named_list context c.args.role args (map (typed_at c.args.to.now) c.args.values.now)
    (map (typed_at c.push.new.self) c.deref.result.now) is holds.1) c.list-2.ensures.tree
