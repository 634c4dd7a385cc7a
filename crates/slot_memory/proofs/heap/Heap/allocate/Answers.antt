use Rattle.std.proofs.Common.{◌≡◌, ◌+◌, ℕ, suc, length, set, sym, subst, arith, ap, ◌∙◌}
use Rattle.slot_heap.specs.Heaps.{Heap, allocated}
use Rattle.slot_heap.specs.Words.{slot_values}
use Rattle.slot_heap.proofs.Words.{values_long}
use Rattle.slot_memory.specs.Cells.{Cells}
use Rattle.slot_memory.proofs.Keeps.{padded, made_as}
use Rattle.slot_memory.proofs.heap.Heap.allocate.Goals as goal

pub returns-clause-made : goal.returns-clause-made
returns-clause-made g c =
    let old : Cells g.row.R.Denot = c.args.self.now in
    let h : ℕ = c.in_ok-handle.handle in
    let i : ℕ = c.number-index.result in
    let vs = slot_values c.args.kinds.now c.args.words.now in
    let long : ℕ = length c.args.words.now in
    let count : length vs ≡ long = values_long c.args.kinds.now c.args.words.now c.requires.fit in
    let n : Cells g.row.R.Denot = record {
      store = c.self-2.inside.store.now;
      lent = c.self-2.inside.store.ghost_name;
      lengths = set c.self-2.inside.lengths.items i long;
      numbers = set c.self-2.inside.numbers.items i (c.self-2.inside.made + 1);
      made = c.self-2.inside.made + 1;
      freed = c.self-2.inside.freed;
      live = c.self-2.inside.live + long;
    } in
    let before = c.self.view_is in
    let after = c.self-2.view_is ∙ c.reach.ensures.unchanged in
    let same : i ≡ h = c.number-index.ensures.value in
    let made : c.self-2.inside.made + 1 ≡ suc old.made = omega (arith, ap (λ (k : Cells g.row.R.Denot). k.made) after, ap (λ (k : Cells g.row.R.Denot). k.made) before) in
    let store : c.allocate.new.self ≡ c.self-2.inside.store.now = sym (ap (λ (k : Cells g.row.R.Denot). k.store) after) in
    let lengths : c.self-2.inside.lengths.items ≡ padded old.lengths i =
    ap (λ (k : Cells g.row.R.Denot). k.lengths) c.self-2.view_is ∙ c.in_ok-reach.ensures.lengths ∙ ap (λ (k : Cells g.row.R.Denot). padded k.lengths i) before in
    let numbers : c.self-2.inside.numbers.items ≡ padded old.numbers i =
    ap (λ (k : Cells g.row.R.Denot). k.numbers) c.self-2.view_is ∙ c.in_ok-reach.ensures.numbers ∙ ap (λ (k : Cells g.row.R.Denot). padded k.numbers i) before in
    let means : (m : Heap) → g.R.Store.Means old.store m → g.R.Store.Means c.self.inside.store.now m =
    λ m is. (let P : Cells g.row.R.Denot → Type 0 = λ k. g.R.Store.Means k.store m in subst P (sym before) is) in
    made_as g.R.Store.Means old n h vs
    (omega (arith, c.number-index.ensures.small, same))
    (omega (arith, c.requires.words, count))
    c.requires.cells
    (λ m is. c.in_ok-handle.ensures.new m (means m is))
    (λ m is. (let P : g.row.R.Denot → Type 0 = λ k. g.R.Store.Means k (allocated m h vs) in subst P store (c.in_ok-handle.ensures.allocated m (means m is))))
    (ap (λ l. set l i long) lengths ∙ ap (λ j. set (padded old.lengths j) j long) same ∙ ap (λ k. set (padded old.lengths h) h k) (sym count))
    (ap (λ l. set l i (c.self-2.inside.made + 1)) numbers ∙ ap (λ k. set (padded old.numbers i) i k) made ∙ ap (λ j. set (padded old.numbers j) j (suc old.made)) same)
    made
    (omega (arith, ap (λ (k : Cells g.row.R.Denot). k.freed) after, ap (λ (k : Cells g.row.R.Denot). k.freed) before))
    (omega (arith, ap (λ (k : Cells g.row.R.Denot). k.live) after, ap (λ (k : Cells g.row.R.Denot). k.live) before, count))
