use Rattle.std.proofs.Common.{refl, subst}
use Rattle.slot_memory.specs.Memory.{Kept, Always}
use Rattle.slot_memory.specs.Moves.{moved_spots}
use Rattle.slot_memory.specs.Answers.{Frees}
use Rattle.slot_memory.proofs.Shown.{frees}
use Rattle.slot_memory.proofs.memory.Memory.free.Goals as goal

pub returns-clause-freed : goal.returns-clause-freed
returns-clause-freed g c =
    let n : Kept g.row.R.Denot = record {
      stack = c.self.inside.stack.items;
      base = c.self.inside.base;
      waits = c.self.inside.waits.items;
      taken = c.self.inside.taken;
      heap = c.free.new.self;
      moves = moved_spots c.self.inside.moves.items;
      input = c.self.inside.input.now;
      read = c.self.inside.read;
    } in
    let P : Kept g.row.R.Denot → Type 0 = λ m. Always g.R.Store.Means m (λ s. Frees g.R.Store.Means s c.args.cell n) in
    subst P c.self.view_is (frees g.R.Store.Means _ n c.args.cell c.free.ensures.freed refl)
