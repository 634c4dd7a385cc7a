use Rattle.std.proofs.Common.{◌-◌, length, take, drop, subst, []}
use Rattle.run_codes.specs.Flat.{InStack}
use Rattle.handled_runs.specs.Changes.{stored}
use Rattle.slot_memory.specs.Memory.{Changes}
use Rattle.slot_memory.specs.Spots.{spot_of}
use Rattle.slot_formals.proofs.Placing.{rest_whole, held_placed}
use Rattle.slot_formals.proofs.formals.store_held.Goals as goal

pub returns-clause-placed : goal.returns-clause-placed
returns-clause-placed g c =
    held_placed g.R.Store.Means c.args.memory.now c.args.table.now c.args.at (spot_of c.args.spot) c.args.of c.in_ok-push_held.field-0 c.args.hand.now c.push_held.new.self c.len-from.result
    c.len-from.ensures c.in_ok-push_held.ensures c.store_words.new.self
    (subst (λ l. Changes g.R.Store.Means c.args.memory.now (λ s. stored s (InStack c.args.at) [] l) c.store_words.new.self) (rest_whole c.len-from.result c.push_held.new.self)
    (subst (λ l. Changes g.R.Store.Means c.args.memory.now (λ s. stored s (InStack c.args.at) [] (take (length l - c.len-from.result) (drop c.len-from.result l))) c.store_words.new.self) c.words.ensures
    c.store_words.ensures.stored))
