use Rattle.std.proofs.lemmas.Int.{to_z-of_z}
use mir.Syntax.{w64}
use Rattle.slot_points.proofs.Looping.{loop_value, loop_next, loop_done}
use Rattle.slot_points.proofs.loops.put_loop.Goals as goal

pub put_words-requires : goal.put_words-requires
put_words-requires g c =
    rw (to_z-of_z w64 c.args.value c.ranges.value)
    (loop_value g.R.Store.Means c.args.memory.now c.args.at c.args.counter c.args.value c.args.words.now c.requires)

pub put_words-requires-2 : goal.put_words-requires-2
put_words-requires-2 g c =
    let put = rw (to_z-of_z w64 c.args.value c.ranges.value) at c.put_words.ensures.put in
    loop_next g.R.Store.Means c.args.memory.now c.args.at c.args.counter c.args.value c.args.words.now c.put_words.new.memory c.requires put

pub returns-clause-put : goal.returns-clause-put
returns-clause-put g c =
    let put = rw (to_z-of_z w64 c.args.value c.ranges.value) at c.put_words.ensures.put in
    loop_done g.R.Store.Means c.args.memory.now c.args.at c.args.counter c.args.value c.args.words.now c.put_words.new.memory c.put_words-2.new.memory put c.put_words-2.ensures.put
