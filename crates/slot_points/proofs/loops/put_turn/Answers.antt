use Rattle.std.proofs.Common.{rules}
use Rattle.std.proofs.lemmas.Int.{to_z-of_z}
use mir.Syntax.{w32, w64}
use mir.Val.{SFits}
use Rattle.slot_points.proofs.Looping.{turn_some, turn_none, some_done, none_done}
use Rattle.slot_points.proofs.loops.put_turn.Goals as goal

pub put_loop-requires : goal.put_loop-requires
put_loop-requires g c =
    let fits : SFits w64 c.in-Some.value = search rules in
    rw (to_z-of_z w64 c.in-Some.value fits, to_z-of_z w64 c.args.low c.ranges.low, to_z-of_z w64 c.args.high c.ranges.high)
    (turn_some g.R.Store.Means c.args.memory.now c.args.memory.now c.args.at c.args.counter c.args.without c.args.low c.args.high c.args.value c.in-Some.value c.in-Some.is c.requires)

pub returns-in-Some-clause-put : goal.returns-in-Some-clause-put
returns-in-Some-clause-put g c =
    let fits : SFits w64 c.in-Some.value = search rules in
    let put = rw (to_z-of_z w64 c.in-Some.value fits, to_z-of_z w64 c.args.low c.ranges.low, to_z-of_z w64 c.args.high c.ranges.high) at c.put_loop.ensures.put in
    some_done g.R.Store.Means c.args.memory.now c.put_loop.new.memory c.args.at c.args.counter c.args.without c.args.low c.args.high c.args.value c.in-Some.value c.in-Some.is put

pub put_loop-requires-in-None : goal.put_loop-requires-in-None
put_loop-requires-in-None g c =
    let long : SFits w64 c.args.without = search rules in
    rw (to_z-of_z w32 c.args.without c.ranges.without, to_z-of_z w64 c.args.without long)
    (turn_none g.R.Store.Means c.args.memory.now c.args.memory.now c.args.at c.args.counter c.args.without c.args.low c.args.high c.args.value c.in-None.is c.requires)

pub returns-in-None-clause-put : goal.returns-in-None-clause-put
returns-in-None-clause-put g c =
    let long : SFits w64 c.args.without = search rules in
    let put = rw (to_z-of_z w32 c.args.without c.ranges.without, to_z-of_z w64 c.args.without long) at c.put_loop-in-None.ensures.put in
    none_done g.R.Store.Means c.args.memory.now c.put_loop-in-None.new.memory c.args.at c.args.counter c.args.without c.args.low c.args.high c.args.value c.in-None.is put
