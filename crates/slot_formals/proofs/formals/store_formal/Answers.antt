use Rattle.std.proofs.Common.{subst, sym}
use Rattle.std.specs.Prelude.{OnOk}
use Rattle.run_codes.specs.Points.{FromSpot}
use Rattle.slot_memory.specs.Memory.{Changes}
use Rattle.slot_memory.specs.Spots.{spot_of}
use Rattle.slot_calls.specs.Calls.{passed_of}
use Rattle.slot_formals.specs.Formals.{placed_one}
use Rattle.slot_formals.proofs.formals.store_formal.Goals as goal

pub returns-in-Value-clause-placed : goal.returns-in-Value-clause-placed
returns-in-Value-clause-placed g c =
    subst (λ p. Changes g.R.Store.Means c.args.memory.now (placed_one c.args.table.now c.args.at (passed_of c.args.hand.now p)) c.store_value.new.memory) (sym c.in-Value.is)
    c.store_value.ensures.stored

pub returns-in-From-clause-placed : goal.returns-in-From-clause-placed
returns-in-From-clause-placed g c =
    subst (λ p. OnOk c.store_held.result (Changes g.R.Store.Means c.args.memory.now (placed_one c.args.table.now c.args.at (passed_of c.args.hand.now p)) c.store_held.new.memory)) (sym c.in-From.is)
    (subst (λ q. OnOk c.store_held.result (Changes g.R.Store.Means c.args.memory.now (placed_one c.args.table.now c.args.at (FromSpot (spot_of q) c.in-From.of)) c.store_held.new.memory)) c.same.ensures
    c.store_held.ensures.placed)
