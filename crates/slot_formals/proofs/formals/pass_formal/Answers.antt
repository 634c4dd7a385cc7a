use Rattle.std.proofs.Common.{◌≡◌, ◌+◌, subst, rules}
use Rattle.slot_memory.specs.Memory.{Changes}
use Rattle.slot_calls.specs.Calls.{passed_of}
use Rattle.slot_formals.specs.Formals.{placed_one}
use Rattle.slot_formals.proofs.Leading.{all_ok}
use Rattle.slot_formals.proofs.formals.pass_formal.Goals as goal

pub returns-clause-placed : goal.returns-clause-placed
returns-clause-placed g c =
    let at : c.in-Some.index ≡ c.args.base + c.args.at = search rules in
    all_ok c.next_offset.result (Changes g.R.Store.Means c.args.memory.now (placed_one c.args.table.now (c.args.base + c.args.at) (passed_of c.args.hand.now c.args.pass.now)) c.store_formal.new.memory)
    (subst (λ n. Changes g.R.Store.Means c.args.memory.now (placed_one c.args.table.now n (passed_of c.args.hand.now c.args.pass.now)) c.store_formal.new.memory) at
    c.in_ok-store_formal.ensures.placed)
