use Rattle.std.proofs.Common.{◌≡◌, ap, ◌∙◌, List}
use Rattle.std.proofs.Math.Logic.{∥∥₁_elim}
use Rattle.std.specs.Coded.{Coded-set}
use Rattle.ada_tree.specs.declared.trees.Trees.{Trees}
use Rattle.name_events.specs.Identified.{identified}
use Rattle.name_resolve.specs.Inputs.{trees_of}
use Rattle.typing_steps.proofs.Faults.{lowered_is, identified_code}
use Rattle.typing_steps.proofs.check.lowered.Goals as goal

pub returns : goal.returns
returns c =
    let files = trees_of c.args.resolved.now.files.items in
    let items : c.args.resolved.now.identified.items ≡ identified files = ∥∥₁_elim c.args.resolved.now.identified_are (Coded-set identified_code _ _) (λ is. is) in
    lowered_is files (trees_of c.deref-2.result.now) c.lower.new.rows c.in_ok-units.units.items c.in_ok-numbers.numbers c.in_ok-units.ensures.units
    (ap (λ (f : List Trees). trees_of f) c.deref-2.ensures.value)
    (c.in_ok-numbers.ensures ∙ (c.deref.ensures.value ∙ items))
