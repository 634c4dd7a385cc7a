use Rattle.std.proofs.Common.{ap, ◌∙◌, sym, subst, ◌++◌, ◌∷◌, [], map, take}
use Rattle.std.proofs.lemmas.List.{take_all}
use Rattle.resolved_tree.specs.Nodes.{HoldsAllCode}
use Rattle.resolved_tree.proofs.Grown.{grew_on}
use Rattle.resolved_tree.proofs.Lists.{holds_code_step}
use Rattle.tree_lowering.specs.Lowered.{lowered_unit}
use Rattle.tree_lowering.proofs.Steps.{units_step}
use Rattle.tree_lowering.proofs.units.file.Goals as goal

pub turns-preserved : goal.turns-preserved
turns-preserved c =
    let numbers = c.args.numbers.now in
    let trees = c.args.trees.now in
    let i = c.turns.tree-index in (
      grew_on _ _ _ c.turns.invariant.0 c.in_ok-made.ensures.grew,
      λ codes h.
          let front = codes ++ map (lowered_unit numbers) (take i trees) in
          holds_code_step c.turns.rows c.unit.new.rows c.turns.units.items c.push.new.self.items c.in_ok-made.made front _
          (lowered_unit numbers c.tree-item.result) c.in_ok-made.ensures.grew (c.turns.invariant.1 codes h) c.in_ok-made.ensures.code
          c.in_ok-push.ensures.items
          (units_step numbers codes trees i c.tree-item.result c.turns-test.true ∙ ap (λ t. front ++ lowered_unit numbers t ∷ []) (sym c.tree-item.is)),
    )

pub returns-clause-units : goal.returns-clause-units
returns-clause-units c codes h =
    subst (λ trees. HoldsAllCode c.turns.rows c.turns.units.items (codes ++ map (lowered_unit c.args.numbers.now) trees))
    (take_all c.turns.tree-index c.args.trees.now c.turns-test.false) (c.turns.invariant.1 codes h)
