use Rattle.std.proofs.Common.{refl, get_or}
use Rattle.traversal_funcs.proofs.Came.{spread_step}
use Rattle.traversal_funcs.proofs.roots.spread.Goals as goal

pub holders-preserved : goal.holders-preserved
holders-preserved c =
    spread_step c.args.holders.now c.holders.holder-index (get_or c.args.holders.now c.holders.holder-index 0) 0
    c.args.found.now.keys c.args.work.now.items c.holders.found.keys c.holders.work.items c.come.new.found.keys c.come.new.work.items
    c.holders-test.true refl c.holders.invariant c.in_ok-come.ensures
