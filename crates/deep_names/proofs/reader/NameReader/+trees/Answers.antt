use Rattle.std.proofs.Common.{◌≤◌, ◌<◌, ◌∙◌, ap, length, drop, arith}
use Rattle.typed_tree.specs.Nodes.{typed_of}
use Rattle.flow_paths.specs.Objects.{passings, sub_at}
use Rattle.deep_names.specs.Trees.{actuals_deep}
use Rattle.deep_names.specs.Turns.{site, tree, value_at}
use Rattle.deep_names.proofs.Reading.{second_below}
use Rattle.deep_names.proofs.OtherNodes.{actuals_other}
use Rattle.deep_names.proofs.Turns.{both_step}
use Rattle.deep_names.proofs.Actuals.{call_step, call_end, no_way, without_ways}
use Rattle.deep_names.proofs.reader.NameReader.+trees.Goals as goal

pub call-returns-in_default : goal.call-returns-in_default
call-returns-in_default t c =
    let w = c.args.self.now in
    let none =
    ap (actuals_deep (site w) (drop c.formals.i (passings (site w) (sub_at (site w) c.args.sub)))) c.node.ensures.tree
    ∙ actuals_other (site w) (drop c.formals.i (passings (site w) (sub_at (site w) c.args.sub))) (tree w) c.node.result.now c.in_default.not-More in
    call_end (site w) c.formals.found c.earlier.result _ c.tree.result _ (tree w c.formals.at)
    c.earlier.ensures c.tree.ensures none c.formals.invariant.1

pub call-formals-preserved : goal.call-formals-preserved
call-formals-preserved t c =
    let w = c.args.self.now in
    let below = rw c.in-More.is at c.node.ensures.below in
    let within : c.formals.i < length (sub_at (site w) c.args.sub).formals = omega (arith, c.formals-test.true, ap length c.formals-i-end.ensures) in (
      omega (arith, c.formals.invariant.0, second_below c.formals.at _ _ below),
      call_step (site w) (sub_at (site w) c.args.sub) c.formals.i c.formals.found c.actual.result c.earlier-found.result _ _
          (tree w c.in-More.first) (tree w c.in-More.rest) (tree w c.formals.at)
          within c.passing_at-way.ensures (c.node.ensures.tree ∙ ap (typed_of (tree w)) c.in-More.is)
          c.actual.ensures c.earlier-found.ensures c.formals.invariant.1,
    )

pub call-returns : goal.call-returns
call-returns t c =
    let w = c.args.self.now in
    let past : length (sub_at (site w) c.args.sub).formals ≤ c.formals.i = omega (arith, c.formals-test.false, ap length c.formals-i-end.ensures) in
    call_end (site w) c.formals.found c.earlier-2.result _ c.tree-2.result _ (tree w c.formals.at)
    c.earlier-2.ensures c.tree-2.ensures
    (without_ways (site w) _ (tree w c.formals.at) (no_way (site w) (sub_at (site w) c.args.sub) c.formals.i past))
    c.formals.invariant.1

pub tree-parts-preserved : goal.tree-parts-preserved
tree-parts-preserved t c =
    let w = c.args.self.now in (
      omega (arith, c.in-Both.ensures.below.1, c.parts.invariant.0),
      both_step c.parts.found (value_at w c.in-Both.head) (value_at w c.in-Both.rest) (value_at w c.parts.at) (value_at w c.args.e) c.tree.result
          c.both-found.result c.both-found.ensures c.tree.ensures c.in-Both.ensures.depths c.parts.invariant.1,
    )
