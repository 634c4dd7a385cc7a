use Rattle.std.proofs.Common.{ap, ◌∙◌, sym, subst, ◌++◌, map, take}
use Rattle.resolved_tree.specs.Nodes.{HoldsAllCode}
use Rattle.resolved_tree.proofs.Grown.{grew_on}
use Rattle.tree_lowering.specs.Lowered.{lowered_files, lowered_unit}
use Rattle.tree_lowering.proofs.Steps.{files_step}
use Rattle.tree_lowering.proofs.units.lower.Goals as goal

pub files-preserved : goal.files-preserved
files-preserved c =
    let numbers = c.args.numbers.now in
    let files = c.args.files.now in
    let i = c.files.trees-index in
    let front = lowered_files numbers (map (λ trees. trees.units) (take i files)) in (
      grew_on _ _ _ c.files.invariant.0 c.in_ok-file.ensures.grew,
      subst (λ codes. HoldsAllCode c.file.new.rows c.file.new.units.items codes)
          (ap (λ units. front ++ map (lowered_unit numbers) units) (c.as_slice.ensures ∙ ap (λ trees. trees.units) c.trees-item.is)
          ∙ sym (files_step numbers files i c.trees-item.result c.files-test.true))
          (c.in_ok-file.ensures.units front c.files.invariant.1),
    )
