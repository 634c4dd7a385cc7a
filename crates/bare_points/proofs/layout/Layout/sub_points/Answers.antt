use Rattle.std.proofs.Common.{◌∙◌}
use Rattle.bare_points.specs.Layouts.{laying}
use Rattle.bare_points.proofs.BareLengths.{sub_few, sub_many}
use Rattle.bare_points.proofs.layout.Layout.sub_points.Goals as goal

pub returns-then-branch-gt-POINTS-clause-few : goal.returns-then-branch-gt-POINTS-clause-few
returns-then-branch-gt-POINTS-clause-few c =
    sub_many (laying c.args.self.now) _ _ _ _ c.as_slice-own.result.now c.span-span.result c.in_ok-ways.ways c.in_ok-size.size _ _
    (c.as_slice-own.ensures.value ∙ c.in_ok-objects.ensures) c.in_ok-ways.ensures c.span-span.ensures c.in_ok-size.ensures
    c.in_ok-end_size.ensures c.in_ok-sum.ensures c.if-branch-gt-POINTS.true

pub returns-clause-few : goal.returns-clause-few
returns-clause-few c =
    sub_few (laying c.args.self.now) _ _ _ _ c.as_slice-own.result.now c.span-span.result c.in_ok-ways.ways c.in_ok-size.size _ _
    (c.as_slice-own.ensures.value ∙ c.in_ok-objects.ensures) c.in_ok-ways.ensures c.span-span.ensures c.in_ok-size.ensures
    c.in_ok-end_size.ensures c.in_ok-sum.ensures c.if-branch-gt-POINTS.false
