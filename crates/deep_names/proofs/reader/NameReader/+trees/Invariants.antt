use Rattle.std.proofs.Common.{◌≡◌, ◌≤◌, ◌+◌, ◌*◌, drop}
use Rattle.flow_paths.specs.Objects.{passings, sub_at}
use Rattle.deep_names.specs.Found.{earlier_of}
use Rattle.deep_names.specs.Trees.{depths_in, actuals_deep, call_deep}
use Rattle.deep_names.specs.Turns.{both_of, site, tree, value_at}
use Rattle.deep_names.proofs.reader.NameReader.+trees.Given as goal

abbrev pub decreases-tree : goal.decreases-tree
decreases-tree l = 2 * l.e

abbrev pub decreases-place : goal.decreases-place
decreases-place l = 2 * l.e + 1

abbrev pub decreases-actual : goal.decreases-actual
decreases-actual l = 2 * l.e + 2

abbrev pub decreases-call : goal.decreases-call
decreases-call l = 2 * l.actuals + 1

abbrev pub invariant-tree-parts : goal.invariant-tree-parts
invariant-tree-parts l =
    (l.at ≤ l.e) × (both_of l.found (value_at l.self l.at) ≡ value_at l.self l.e)

abbrev pub decreases-tree-parts : goal.decreases-tree-parts
decreases-tree-parts l = l.at

abbrev pub invariant-call-formals : goal.invariant-call-formals
invariant-call-formals l =
    (l.at ≤ l.actuals)
    × (earlier_of l.found (earlier_of (depths_in (site l.self) (tree l.self l.at)).before
    (actuals_deep (site l.self) (drop l.i (passings (site l.self) (sub_at (site l.self) l.sub))) (tree l.self l.at)))
    ≡ call_deep (site l.self) l.sub (tree l.self l.actuals))
