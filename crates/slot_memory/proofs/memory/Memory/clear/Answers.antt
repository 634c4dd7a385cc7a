use Rattle.std.proofs.Common.{◌+◌, subst, arith}
use Rattle.run_values.specs.declared.value.Kind.TheVariants as sort
use Rattle.run_codes.specs.Flat.{InCell}
use Rattle.slot_memory.specs.Memory.{Kept}
use Rattle.slot_memory.specs.Moves.{Clears, moved_spots}
use Rattle.slot_memory.proofs.Seen.{holds_offset, null_shows}
use Rattle.slot_memory.proofs.memory.Memory.clear.Goals as goal

pub overflow_add-at : goal.overflow_add-at
overflow_add-at g c =
    let known = rw c.in-Cell.is at c.requires in
    omega (arith, holds_offset g.R.Store.Means c.args.self.now known.0 c.in-Cell.cell (c.in-Cell.at + c.args.offset) sort.Access known.1.0 known.1.1)

pub returns-in-Cell-clause-cleared : goal.returns-in-Cell-clause-cleared
returns-in-Cell-clause-cleared g c =
    let n : Kept g.row.R.Denot = record {
      stack = c.self.inside.stack.items;
      base = c.self.inside.base;
      waits = c.self.inside.waits.items;
      taken = c.self.inside.taken;
      heap = c.put.new.self;
      moves = moved_spots c.self.inside.moves.items;
      input = c.self.inside.input.now;
      read = c.self.inside.read;
    } in
    let P : Kept g.row.R.Denot → Type 0 = λ m. Clears g.R.Store.Means m (InCell c.in-Cell.cell (c.in-Cell.at + c.args.offset)) n in
    rw c.in-Cell.is
    (subst P c.self.view_is
    (null_shows g.R.Store.Means _ c.put.new.self c.in-Cell.cell (c.in-Cell.at + c.args.offset) c.put.ensures.unchanged c.put.ensures.written))
