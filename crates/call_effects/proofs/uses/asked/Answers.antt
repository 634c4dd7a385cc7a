use Rattle.std.proofs.Common.{◌≡◌, ◌∙◌, ap, sym, subst, ℕ, ◌+◌, ◌<◌, Bool, false, List, get_or, length, arith}
use Rattle.std.proofs.lemmas.Grind.{common_steps}
use Rattle.flow_paths.specs.Effects.{asks_for_end}
use Rattle.typed_tree.specs.Nodes.{typed_at}
use Rattle.call_effects.specs.Uses.{node_asks}
use Rattle.call_effects.proofs.Asked.{asked_node, asked_more, asked_all}
use Rattle.call_effects.proofs.uses.asked.Goals as goal

pub nodes-preserved : goal.nodes-preserved
nodes-preserved c =
    let is = c.node_asks-asks.ensures ∙ ap (λ (xs : List Bool). node_asks (λ k. get_or xs k false) c.node.result.now) c.as_slice.ensures.value in
    let asks = asked_node c.args.rows.now c.nodes.asked.items c.nodes.i c.node.result.now c.node_asks-asks.result c.nodes.invariant.1
    c.node.ensures.below c.node.ensures.tree is in
    let more = asked_more c.args.rows.now c.nodes.asked.items c.nodes.i c.node_asks-asks.result c.nodes.invariant.0 c.nodes.invariant.1 asks in (
      grind (arith, common_steps, c.in_ok-push.ensures.items, c.nodes.invariant.0),
      subst (λ xs. (k : ℕ) → k < c.nodes.i + 1 → get_or xs k false ≡ asks_for_end (typed_at c.args.rows.now k)) (sym c.in_ok-push.ensures.items) more,
    )

pub returns : goal.returns
returns c =
    let i : c.nodes.i ≡ length c.args.rows.now.0 = (let e = c.len-i-end.ensures in let m = c.nodes-test.false in let a = c.nodes.auto.i-end in omega arith) in
    asked_all c.args.rows.now c.nodes.asked.items (c.nodes.invariant.0 ∙ i)
    (subst (λ n. (k : ℕ) → k < n → get_or c.nodes.asked.items k false ≡ asks_for_end (typed_at c.args.rows.now k)) i c.nodes.invariant.1)
