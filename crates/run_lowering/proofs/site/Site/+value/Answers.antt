use Rattle.std.proofs.Common.{◌≡◌, ◌∷◌, ◌++◌, [], Some, ap, ◌∙◌, length, subst, arith}
use Rattle.std.proofs.lemmas.Grind.{common_steps}
use Rattle.type_definitions.specs.Types.{shape_of}
use Rattle.typed_tree.specs.Nodes.{typed_of}
use Rattle.machine.specs.Typed.{field_count, tree_count}
use Rattle.machine.specs.Evaluate.{AsValue, part_type}
use Rattle.run_codes.specs.Lowered.{value}
use Rattle.code_rows.specs.Values.{fill_at}
use Rattle.code_rows.proofs.Filled.{fills_on}
use Rattle.run_lowering.specs.Sites.{site, tree}
use Rattle.run_lowering.specs.Aggregates.{Gathers}
use Rattle.run_lowering.proofs.Aggregates.{aggregate_is, first_is, gathers_next, if_some}
use Rattle.run_lowering.proofs.site.Site.+value.Goals as goal

pub aggregate-returns-clause-value : goal.aggregate-returns-clause-value
aggregate-returns-clause-value t c =
    let w = c.args.self.now in
    let count : tree_count (tree w c.args.list) ≡ field_count (shape_of w.typing.table.now c.args.of) = grind (arith, common_steps) in
    let is = aggregate_is (site w) c.args.k c.args.want c.args.of (tree w c.args.list)
    (c.is_aggregate_of.ensures.composite c.if-not-is_aggregate_of.false) (c.is_aggregate_of.ensures.one c.if-not-is_aggregate_of.false) count in
    if_some c.in_order.result (λ v so. is ∙ (c.in_ok-taken.ensures.parts ∙ so)) c.in_order.ensures.value

pub first_value-returns-in-NoMore-node-clause-value : goal.first_value-returns-in-NoMore-node-clause-value
first_value-returns-in-NoMore-node-clause-value t c =
    let w = c.args.self.now in
    let is = first_is (site w) c.args.k c.args.of (tree w c.in-More.first) (tree w c.args.list) (tree w c.in-More.rest)
    (c.node.ensures.tree ∙ ap (typed_of (tree w)) c.in-More.is) (c.node-in-More.ensures.tree ∙ ap (typed_of (tree w)) c.in-NoMore-node.is) in
    if_some c.value.result (λ v so. is ∙ so) c.value.ensures.value

pub part_values-parts-preserved : goal.part_values-parts-preserved
part_values-parts-preserved t c =
    let w = c.args.self.now in
    let below = rw c.in-More.is at c.node.ensures.below in
    let so = subst (λ r. Gathers (site w) c.parts.nodes c.parts.fills c.args.k c.args.of (tree w c.args.list) c.parts.values.items c.parts.taken r)
    (c.node.ensures.tree ∙ ap (typed_of (tree w)) c.in-More.is) c.parts.invariant.gathers in
    let long : c.len.result ≡ length c.parts.values.items = grind (arith, common_steps) in
    let part = c.part_type-part.ensures ∙ ap (part_type (shape_of w.typing.table.now c.args.of)) long in
    let value_is = subst (λ p. value (site w) c.parts.taken AsValue p (tree w c.in-More.first)
    ≡ Some (fill_at c.value.new.nodes c.value.new.fills c.in_ok-value-in-More.value.fill)) part c.in_ok-value-in-More.ensures.value in
    let pushed : c.parts.values.items ++ c.in_ok-value-in-More.value.fill ∷ [] ≡ c.push.new.self.items = grind (arith, common_steps) in
    record {
      gathers = subst (λ vs. Gathers (site w) c.value.new.nodes c.value.new.fills c.args.k c.args.of (tree w c.args.list) vs
          c.in_ok-value-in-More.value.taken (tree w c.in-More.rest)) pushed
          (gathers_next (site w) c.parts.nodes c.parts.fills c.value.new.nodes c.value.new.fills c.args.k c.args.of (tree w c.args.list)
          c.parts.values.items c.parts.taken c.in_ok-value-in-More.value.taken c.in_ok-value-in-More.value.fill (tree w c.in-More.first)
          (tree w c.in-More.rest) so c.in_ok-value-in-More.ensures.grew c.in_ok-value-in-More.ensures.there value_is
          c.in_ok-value-in-More.ensures.taken);
      grew = fills_on c.args.nodes.now c.args.fills.now c.parts.nodes c.parts.fills c.value.new.nodes c.value.new.fills c.parts.invariant.grew
          c.in_ok-value-in-More.ensures.grew;
      all = c.in_ok-value-in-More.ensures.all;
      below = grind (arith, below, c.parts.invariant.below);
    }
