use Rattle.std.proofs.Common.{◌≡◌, ◌<◌, ◌++◌, length, map}
use Rattle.flow_paths.specs.Layout.{choices_of}
use Rattle.bare_points.specs.Layouts.{code_in}
use Rattle.bare_points.proofs.layout.Layout.choices.Given as goal

abbrev pub invariant-alternatives : goal.invariant-alternatives
invariant-alternatives l =
    (l.i < length l.self.sizes.rows.now.1)
    × (map (code_in l.self) l.found ++ choices_of (code_in l.self l.i) ≡ choices_of (code_in l.self l.list))

abbrev pub decreases-alternatives : goal.decreases-alternatives
decreases-alternatives l = l.i
