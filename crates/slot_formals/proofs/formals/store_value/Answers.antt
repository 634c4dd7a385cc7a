use Rattle.std.proofs.Common.{subst, []}
use Rattle.run_codes.specs.Flat.{InStack}
use Rattle.handled_runs.specs.Changes.{stored}
use Rattle.slot_memory.specs.Memory.{Changes}
use Rattle.slot_formals.proofs.formals.store_value.Goals as goal

pub returns-clause-stored : goal.returns-clause-stored
returns-clause-stored g c =
    subst (λ l. Changes g.R.Store.Means c.args.memory.now (λ s. stored s (InStack c.args.at) [] l) c.store_words.new.self) c.value_words.ensures c.store_words.ensures.stored
