use Rattle.std.proofs.Common.{◌∙◌}
use Rattle.bare_points.specs.Layouts.{laying}
use Rattle.bare_points.proofs.BareLengths.{package_few, package_many}
use Rattle.bare_points.proofs.layout.Layout.package_points.Goals as goal

pub returns-then-branch-gt-POINTS-clause-few : goal.returns-then-branch-gt-POINTS-clause-few
returns-then-branch-gt-POINTS-clause-few c =
    package_many (laying c.args.self.now) _ c.as_slice.result.now c.span-span.result c.in_ok-ways.ways _
    (c.as_slice.ensures.value ∙ c.in_ok-objects.ensures) c.in_ok-ways.ensures c.span-span.ensures c.in_ok-whole_size.ensures
    c.if-branch-gt-POINTS.true

pub returns-clause-few : goal.returns-clause-few
returns-clause-few c =
    package_few (laying c.args.self.now) _ c.as_slice.result.now c.span-span.result c.in_ok-ways.ways _
    (c.as_slice.ensures.value ∙ c.in_ok-objects.ensures) c.in_ok-ways.ensures c.span-span.ensures c.in_ok-whole_size.ensures
    c.if-branch-gt-POINTS.false
