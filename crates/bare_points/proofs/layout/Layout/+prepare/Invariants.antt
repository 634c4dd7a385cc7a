use Rattle.std.proofs.Common.{◌≡◌, ◌<◌, ◌≤◌, ◌+◌, ◌*◌, ◌++◌, max, length}
use Rattle.numbered_points.specs.Extents.{filled_in, prep_size}
use Rattle.bare_points.specs.BarePrepared.{bare_prepared}
use Rattle.bare_points.specs.Layouts.{laying, made_in, tree_in}
use Rattle.bare_points.proofs.layout.Layout.+prepare.Given as goal

-- A call goes down by eight for each step into a node, and within one from `prepare` to `operand`,
-- and from there to a form.
abbrev pub decreases-prepare : goal.decreases-prepare
decreases-prepare l = 8 * l.e + 2

abbrev pub decreases-operand : goal.decreases-operand
decreases-operand l = 8 * l.e + 1

abbrev pub decreases-call : goal.decreases-call
decreases-call l = 8 * l.actuals + 3

abbrev pub decreases-evaluated : goal.decreases-evaluated
decreases-evaluated l = 8 * l.operand + 3

abbrev pub decreases-both : goal.decreases-both
decreases-both l = 8 * max l.first l.second + 3

abbrev pub decreases-short_with_call : goal.decreases-short_with_call
decreases-short_with_call l = 8 * max l.left l.right + 4

abbrev pub decreases-short : goal.decreases-short
decreases-short l = 8 * max l.left l.right + 5

abbrev pub invariant-prepare-parts : goal.invariant-prepare-parts
invariant-prepare-parts l =
    (l.i < length l.self.sizes.rows.now.0)
    × (l.i ≤ l.e)
    × (length l.made + prep_size (tree_in l.self l.i) ≡ length l.initial.made + prep_size (tree_in l.self l.e))
    × (l.t + filled_in (tree_in l.self l.i) ≡ l.initial.t + filled_in (tree_in l.self l.e))
    × (made_in l.self l.made ++ bare_prepared (laying l.self) (tree_in l.self l.i) (length l.made) l.t l.k
    ≡ made_in l.self l.initial.made ++ bare_prepared (laying l.self) (tree_in l.self l.e) (length l.initial.made) l.initial.t l.k)

abbrev pub decreases-prepare-parts : goal.decreases-prepare-parts
decreases-prepare-parts l = l.i
