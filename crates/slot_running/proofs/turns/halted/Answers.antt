use Rattle.slot_turns.proofs.Ended.{not_memory}
use Rattle.slot_running.proofs.turns.halted.Goals as goal

pub give_up-requires : goal.give_up-requires
give_up-requires g c = c.requires (not_memory c.args.halt.stop c.args.pos c.in_ok-over.over.ending c.in_ok-over.ensures.ending)
