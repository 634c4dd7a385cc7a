use Rattle.std.proofs.Common.{◌<◌, subst, arith}
use Rattle.run_codes.specs.Flat.{InCell, most_offsets}
use Rattle.handled_runs.specs.Changes.{stored}
use Rattle.slot_memory.specs.Memory.{Kept, Changes, slots}
use Rattle.slot_memory.specs.Moves.{moved_spots}
use Rattle.slot_memory.proofs.Seen.{stores_fit, offsets_in, cell_shows}
use Rattle.slot_memory.proofs.memory.Memory.store_in_cell.Goals as goal

pub store_words-requires-clause-offsets : goal.store_words-requires-clause-offsets
store_words-requires-clause-offsets g c =
    let known = c.requires in
    let r = stores_fit (slots c.args.self.now known.0) c.args.cell c.args.at c.args.kinds.now c.args.words.now known.1.1 in
    let fits : c.args.at < most_offsets = omega (arith, c.ranges.at) in
    offsets_in g.R.Store.Means c.args.self.now known.0 c.args.cell c.args.at c.args.kinds.now fits known.1.0 r.1

pub returns-clause-stored : goal.returns-clause-stored
returns-clause-stored g c =
    let n : Kept g.row.R.Denot = record {
      stack = c.self.inside.stack.items;
      base = c.self.inside.base;
      waits = c.self.inside.waits.items;
      taken = c.self.inside.taken;
      heap = c.store_words.new.self;
      moves = moved_spots c.self.inside.moves.items;
      input = c.self.inside.input.now;
      read = c.self.inside.read;
    } in
    let P : Kept g.row.R.Denot → Type 0 = λ m. Changes g.R.Store.Means m (λ s. stored s (InCell c.args.cell c.args.at) c.args.kinds.now c.args.words.now) n in
    subst P c.self.view_is
    (cell_shows g.R.Store.Means _ c.store_words.new.self c.args.cell c.args.at c.args.kinds.now c.args.words.now c.store_words.ensures.unchanged c.store_words.ensures.stored)
