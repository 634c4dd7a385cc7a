use Rattle.call_effects.proofs.Filed.{empty_none, empty_more}
use Rattle.call_effects.proofs.rows.empty_rows.Goals as goal

pub rows-init : goal.rows-init
rows-init c = empty_none c.new-rows.result.items c.new-rows.ensures.items

pub rows-preserved : goal.rows-preserved
rows-preserved c = empty_more c.rows._row c.rows.rows.items c.push.new.self.items c.new.result c.in_ok-push.ensures.items c.new.ensures c.rows.invariant
