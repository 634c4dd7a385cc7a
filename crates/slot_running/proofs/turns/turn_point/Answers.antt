use Rattle.slot_running.proofs.Points.{known_at, on_turn, end_known, end_turn, halt_gives, halt_turn}
use Rattle.slot_running.proofs.turns.turn_point.Goals as goal

pub freed_with-freed-requires : goal.freed_with-freed-requires
freed_with-freed-requires g c =
    known_at g.R.Store.Means c.args.codes.now c.args.table.now c.args.point.now c.args.k c.args.parts.now c.args.parts.now c.requires

pub ended-requires : goal.ended-requires
ended-requires g c =
    end_known g.R.Store.Means c.args.codes.now c.args.table.now c.args.point.now c.args.k c.args.parts.now c.step_point.new.parts c.requires (rw c.in-Ok-false.field-0-test at c.in-Ok-false.ensures)

pub returns-in-Ok-true : goal.returns-in-Ok-true
returns-in-Ok-true g c =
    on_turn g.R.Store.Means c.args.codes.now c.args.table.now c.args.point.now c.args.k c.args.parts.now c.step_point.new.parts c.requires (rw c.in-Ok-true.field-0-test at c.in-Ok-true.ensures)

pub returns-in-Ok-false : goal.returns-in-Ok-false
returns-in-Ok-false g c =
    end_turn g.R.Store.Means c.args.codes.now c.args.table.now c.args.point.now c.args.k c.args.parts.now c.step_point.new.parts c.requires c.ended.result
    (rw c.in-Ok-false.field-0-test at c.in-Ok-false.ensures) c.ended.ensures.ending c.ended.ensures.made c.ended.ensures.freed

pub halted-requires : goal.halted-requires
halted-requires g c =
    halt_gives g.R.Store.Means c.args.codes.now c.args.table.now c.args.point.now c.args.k c.args.parts.now c.step_point.new.parts c.requires c.in-Err.halt
    c.made-made.result c.in-Err.ensures c.made-made.ensures

pub returns-in_ok-halted-in-Err : goal.returns-in_ok-halted-in-Err
returns-in_ok-halted-in-Err g c =
    halt_turn g.R.Store.Means c.args.codes.now c.args.table.now c.args.point.now c.args.k c.args.parts.now c.step_point.new.parts c.requires c.in-Err.halt
    c.made-made.result c.freed_with-freed.result c.in_ok-halted-in-Err.field-0 c.halted.new.parts c.in-Err.ensures c.made-made.ensures c.freed_with-freed.ensures c.in_ok-halted-in-Err.ensures
