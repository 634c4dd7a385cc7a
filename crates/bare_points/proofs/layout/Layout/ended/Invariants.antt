use Rattle.std.proofs.Common.{◌≡◌, ◌+◌, ◌++◌, drop, length}
use Rattle.bare_points.specs.BareLaid.{bare_ended}
use Rattle.bare_points.specs.Layouts.{made_in}
use Rattle.bare_points.proofs.layout.Layout.ended.Given as goal

abbrev pub invariant-objects : goal.invariant-objects
invariant-objects l =
    (l.left + l.x-index ≡ length l.objects)
    × (length l.made ≡ length l.initial.made + l.x-index)
    × (made_in l.self l.made ++ bare_ended l.pos (drop l.x-index l.objects) (length l.made) l.k
    ≡ made_in l.self l.initial.made ++ bare_ended l.pos l.objects (length l.initial.made) l.k)
