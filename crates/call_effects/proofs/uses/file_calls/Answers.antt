use Rattle.std.proofs.Common.{false, refl, sym}
use Rattle.call_effects.specs.Uses.{is_root, laid_calls}
use Rattle.call_effects.proofs.Filed.{filed_nowhere, filed_more, filed_all}
use Rattle.call_effects.proofs.uses.file_calls.Goals as goal

pub points-init : goal.points-init
points-init c = filed_nowhere c.args.p (λ q. false) c.args.callers.now.items (λ q. refl)

pub points-preserved : goal.points-preserved
points-preserved c = filed_more c.args.p laid_calls c.args.points.now c.points.point-index c.point-item.result c.point-item.result
    (λ q. is_root q c.called.result) c.args.callers.now.items c.points.callers.items c.file_root.new.rows.items
    c.points-test.true c.point-item.is (λ q. sym (c.called.ensures q)) c.points.invariant c.in_ok-file_root.ensures

pub returns : goal.returns
returns c = filed_all c.args.p laid_calls c.args.points.now c.points.point-index c.args.callers.now.items c.points.callers.items
    c.points-test.false c.points.invariant
