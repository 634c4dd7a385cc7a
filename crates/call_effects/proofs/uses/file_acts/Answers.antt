use Rattle.std.proofs.Common.{false, sym, refl}
use Rattle.call_effects.specs.Uses.{act_uses, is_root}
use Rattle.call_effects.proofs.Filed.{filed_nowhere, filed_more, filed_all}
use Rattle.call_effects.proofs.uses.file_acts.Goals as goal

pub acts-init : goal.acts-init
acts-init c = filed_nowhere c.args.p (λ g. false) c.args.rows.now.items (λ g. refl)

pub acts-preserved : goal.acts-preserved
acts-preserved c = filed_more c.args.p (λ g a. act_uses c.args.writes g a.act) c.args.acts.now c.acts.placed-index c.placed-item.result
    c.placed-item.result (λ g. is_root g c.used_root.result) c.args.rows.now.items c.acts.rows.items c.file_root.new.rows.items
    c.acts-test.true c.placed-item.is (λ g. sym (c.used_root.ensures g)) c.acts.invariant c.in_ok-file_root.ensures

pub returns : goal.returns
returns c = filed_all c.args.p (λ g a. act_uses c.args.writes g a.act) c.args.acts.now c.acts.placed-index c.args.rows.now.items c.acts.rows.items
    c.acts-test.false c.acts.invariant
