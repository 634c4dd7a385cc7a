use Rattle.std.proofs.Common.{◌≡◌, ◌<◌, ◌∙◌, refl, sym, List, length, Option, Some, None, arith}
use Rattle.state_trees.specs.FactStates.{FactState}
use Rattle.point_states.specs.PointTrees.{tree_at}
use Rattle.point_states.proofs.Carried.{same_default, joined_brought}
use Rattle.point_states.proofs.worklist.bring.Goals as goal

pub returns-in_ok-changed-in-Some : goal.returns-in_ok-changed-in-Some
returns-in_ok-changed-in-Some c =
    let old : List (Option FactState) = c.args.trees.now.items in
    let within : c.args.q < length old = omega (arith, c.args.trees.now.ok.0, c.requires.within) in
    let was : Some c.in-Some.tree ≡ tree_at old c.args.q =
    sym c.in-Some.is ∙ c.take.ensures.value ∙ c.index_mut.ensures.value ∙ same_default old c.args.q _ None within in
    let changed = c.in_ok-changed-in-Some.ensures.changed in
    joined_brought c.args.q c.args.state c.in-Some.tree c.join.new.self old _ c.take.new.self c.in_ok-changed-in-Some.changed c.requires.kept
    c.requires.over was c.in_ok-changed-in-Some.ensures.ok refl changed.0 changed.1
