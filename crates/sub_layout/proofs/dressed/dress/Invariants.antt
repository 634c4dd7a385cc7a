use Rattle.std.proofs.Common.{◌≡◌, ◌++◌, false}
use Rattle.sub_layout.specs.Dressed.{dressed_in, has_deep_point, points_in}
use Rattle.sub_layout.proofs.dressed.dress.Given as goal

abbrev pub invariant-points : goal.invariant-points
invariant-points l =
    (points_in l.writer.rows.now l.made ++ dressed_in l.writer l.given l.point-iterator.rest.items
    ≡ dressed_in l.writer l.given l.initial.point-iterator.rest.items)
    × (has_deep_point (points_in l.writer.rows.now l.made) ≡ false)
