use Rattle.lay_out.specs.declared.sub_writer.SubWriter.{SubWriter}
use Rattle.lay_out.specs.Subs.{flow_subs, site, subs_in}
use Rattle.lay_out.proofs.Turns.{goes_on}
use Rattle.lay_out.proofs.sub_writer.SubWriter.add_all.Goals as goal

pub subs-preserved : goal.subs-preserved
subs-preserved c =
    let w : SubWriter = c.args.self.now in
    goes_on (site w) (flow_subs w c.args.made.now) c.args.made.now.types.items (subs_in w c.args.subs.now) w.acts.rows.now c.args.subs.now
    c.subs.sub-index c.sub-item.result (flow_subs w c.subs.made) (flow_subs w c.add.new.made) c.subs.made.types.items
    c.add.new.made.types.items c.subs-test.true c.sub-item.is c.subs.invariant c.in_ok-add.ensures.subs c.in_ok-add.ensures.types
    c.in_ok-add.ensures.judges
