use Rattle.std.proofs.Common.{◌≡◌, ◌+◌, ◌<◌, ◌≤◌, length, refl, ap, subst, arith, rules}
use Rattle.std.proofs.lemmas.Int.{to_z-of_z}
use mir.Syntax.{w64}
use mir.Val.{SFits}
use Rattle.machine.specs.Evaluate.{heap_words}
use Rattle.run_codes.specs.Flat.{most_cells}
use Rattle.slot_heap.specs.Words.{slot_values}
use Rattle.slot_heap.proofs.Words.{values_long}
use Rattle.slot_memory.specs.Memory.{Kept, Always}
use Rattle.slot_memory.specs.Moves.{moved_spots}
use Rattle.slot_memory.specs.Answers.{IsMade}
use Rattle.slot_memory.proofs.Shown.{makes}
use Rattle.slot_memory.proofs.memory.Memory.allocate.Goals as goal

pub returns-clause-made : goal.returns-clause-made
returns-clause-made g c =
    let fits : SFits w64 c.word_of.result = search rules in
    let vs = slot_values c.args.kinds.now c.args.words.now in
    let long : length vs ≡ length c.args.words.now = values_long c.args.kinds.now c.args.words.now c.requires.fit in
    let n : Kept g.row.R.Denot = record {
      stack = c.self.inside.stack.items;
      base = c.self.inside.base;
      waits = c.self.inside.waits.items;
      taken = c.self.inside.taken;
      heap = c.allocate.new.self;
      moves = moved_spots c.self.inside.moves.items;
      input = c.self.inside.input.now;
      read = c.self.inside.read;
    } in
    let few : c.self.inside.heap.made < most_cells = omega (arith, c.if-made-ge-MOST_CELLS.false, c.made.ensures) in
    let some : 0 < length c.args.words.now = grind (arith, c.is_empty.ensures, c.if-is_empty.false) in
    let room : c.self.inside.heap.live + length vs ≤ heap_words =
    omega (arith, some, long, c.if-count-saturating_sub.false, c.live.ensures, c.saturating_sub.ensures) in
    let P : Kept g.row.R.Denot → Type 0 = λ m. Always g.R.Store.Means m (λ s. IsMade g.R.Store.Means s vs c.word_of.result n) in
    rw (to_z-of_z w64 c.word_of.result fits)
    (subst P c.self.view_is (makes g.R.Store.Means _ n c.in_ok-handle.handle vs c.word_of.result c.in_ok-handle.ensures.made refl c.word_of.ensures few room))

pub returns-then-count-saturating_sub-clause-made : goal.returns-then-count-saturating_sub-clause-made
returns-then-count-saturating_sub-clause-made g c = λ s stands other.
    let vs = slot_values c.args.kinds.now c.args.words.now in
    let long : length vs ≡ length c.args.words.now = values_long c.args.kinds.now c.args.words.now c.requires.fit in
    let live : c.self.inside.heap.live ≡ c.args.self.now.heap.live = ap (λ (m : Kept g.row.R.Denot). m.heap.live) c.self.view_is in
    record {
      raises = refl;
      full = omega (arith, c.if-count-saturating_sub.true, c.live.ensures, c.saturating_sub.ensures, live, long);
      shows = (stands, refl);
    }
