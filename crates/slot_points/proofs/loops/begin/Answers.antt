use Rattle.std.proofs.Common.{rules, refl, ◌≡◌, true, false}
use Rattle.std.proofs.lemmas.Int.{to_z-of_z}
use mir.Syntax.{w64}
use Rattle.slot_points.specs.Steps.{is_refused}
use Rattle.slot_points.proofs.Looping.{begin_refused, begin_known, begin_done}
use Rattle.slot_points.proofs.loops.begin.Goals as goal

pub returns-then-is_refused-clause-put : goal.returns-then-is_refused-clause-put
returns-then-is_refused-clause-put g c =
    let h : is_refused c.args.bounds.0 c.args.bounds.1 c.args.low c.args.high ≡ true = search rules in
    begin_refused g.R.Store.Means c.args.memory.now c.args.at c.args.counter c.args.bounds.0 c.args.bounds.1 c.args.low c.args.high _ h refl

pub put_loop-requires : goal.put_loop-requires
put_loop-requires g c =
    let h : is_refused c.args.bounds.0 c.args.bounds.1 c.args.low c.args.high ≡ false = search rules in
    rw (to_z-of_z w64 c.args.low c.ranges.low, to_z-of_z w64 c.args.high c.ranges.high)
    (begin_known g.R.Store.Means c.args.memory.now c.args.at c.args.counter c.args.bounds.0 c.args.bounds.1 c.args.low c.args.high c.requires h)

pub returns-clause-put : goal.returns-clause-put
returns-clause-put g c =
    let h : is_refused c.args.bounds.0 c.args.bounds.1 c.args.low c.args.high ≡ false = search rules in
    let put = rw (to_z-of_z w64 c.args.low c.ranges.low, to_z-of_z w64 c.args.high c.ranges.high) at c.put_loop.ensures.put in
    begin_done g.R.Store.Means c.args.memory.now c.args.at c.args.counter c.args.bounds.0 c.args.bounds.1 c.args.low c.args.high c.put_loop.new.memory h put
