use Rattle.std.proofs.Common.{rules, ◌+◌, ◌<◌, length, Fits, w64, arith}
use Rattle.run_values.specs.declared.value.Kind.TheVariants as sort
use Rattle.slot_memory.specs.Memory.{slots}
use Rattle.slot_memory.proofs.Seen.{one_holds, holds_offset}
use Rattle.slot_hand.proofs.Pointers.{one_within}
use Rattle.slot_hand.proofs.spots.access_at.Goals as goal

pub overflow_add-index : goal.overflow_add-index
overflow_add-index g c =
    let known = rw c.in-Stack.is at c.requires in
    let within : c.in-Stack.index + c.args.offset < length c.args.memory.now.stack =
    one_within (slots c.args.memory.now known.0) (c.in-Stack.index + c.args.offset) known.1.1 in
    let fits : Fits w64 c.top-top.result = search rules in
    omega (arith, within, c.top-top.ensures, fits)

pub overflow_add-at : goal.overflow_add-at
overflow_add-at g c =
    let known = rw c.in-Cell.is at c.requires in
    omega (
      arith,
      holds_offset g.R.Store.Means c.args.memory.now known.0 c.in-Cell.cell (c.in-Cell.at + c.args.offset) sort.Access known.1.0
          (one_holds c.args.memory.now known.0 c.in-Cell.cell (c.in-Cell.at + c.args.offset) sort.Access known.1.1),
    )
