use Rattle.std.proofs.Common.{false, refl}
use Rattle.call_effects.specs.Uses.{laid_uses}
use Rattle.call_effects.proofs.Filed.{filed_nowhere, filed_more, filed_all}
use Rattle.call_effects.proofs.uses.file_points.Goals as goal

pub points-init : goal.points-init
points-init c = filed_nowhere c.args.p (λ g. false) c.args.users.now.items (λ g. refl)

pub points-preserved : goal.points-preserved
points-preserved c = filed_more c.args.p (laid_uses c.args.writes c.args.rows.now) c.args.points.now c.points.point-index c.point-item.result c.point-item.result
    (λ g. laid_uses c.args.writes c.args.rows.now g c.point-item.result) c.args.users.now.items c.points.users.items c.file_point.new.users.items
    c.points-test.true c.point-item.is (λ g. refl) c.points.invariant c.in_ok-file_point.ensures

pub returns : goal.returns
returns c = filed_all c.args.p (laid_uses c.args.writes c.args.rows.now) c.args.points.now c.points.point-index c.args.users.now.items c.points.users.items
    c.points-test.false c.points.invariant
