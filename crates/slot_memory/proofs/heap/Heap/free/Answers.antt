use Rattle.std.proofs.Common.{◌+◌, ◌<◌, length, sym, subst, refl, arith, ap}
use Rattle.run_codes.specs.Flat.{most_cells}
use Rattle.slot_heap.specs.Heaps.{IsLive}
use Rattle.slot_memory.specs.Cells.{Cells, KnowsCells, IsFreed}
use Rattle.slot_memory.proofs.Keeps.{freed_of, freed_within, freed_few, freed_as}
use Rattle.slot_memory.proofs.heap.Heap.free.Goals as goal

pub index-words-requires : goal.index-words-requires
index-words-requires g c =
    let within : c.args.cell < length c.args.self.now.lengths = freed_within g.R.Store.Means c.args.self.now c.args.cell c.requires in
    omega (arith, within, c.number.ensures.value, ap (λ (h : Cells g.row.R.Denot). length h.lengths) c.self.view_is)

pub free-requires : goal.free-requires
free-requires g c =
    let P : Cells g.row.R.Denot → Type 0 = λ h. KnowsCells g.R.Store.Means h (λ m. IsLive m c.args.cell) in
    freed_of g.R.Store.Means _ c.args.cell c.number.result c.index-words.result.now c.number.ensures.value c.index-words.ensures (subst P (sym c.self.view_is) c.requires)

pub overflow_add-self : goal.overflow_add-self
overflow_add-self g c =
    let few : c.args.self.now.freed < most_cells = freed_few g.R.Store.Means c.args.self.now c.args.cell c.requires in
    omega (arith, few, ap (λ (h : Cells g.row.R.Denot). h.freed) c.self.view_is)

pub returns-clause-freed : goal.returns-clause-freed
returns-clause-freed g c =
    let n : Cells g.row.R.Denot = record {
      store = c.free.new.self;
      lent = c.self.inside.store.ghost_name;
      lengths = c.self.inside.lengths.items;
      numbers = c.self.inside.numbers.items;
      made = c.self.inside.made;
      freed = c.self.inside.freed + 1;
      live = c.saturating_sub-self-inside.result;
    } in
    let P : Cells g.row.R.Denot → Type 0 = λ h. IsFreed g.R.Store.Means h c.args.cell n in
    subst P c.self.view_is
    (freed_as g.R.Store.Means _ n c.args.cell c.number.result c.index-words.result.now c.number.ensures.value c.index-words.ensures c.free.ensures refl refl refl (omega arith)
    (omega (arith, c.saturating_sub-self-inside.ensures, c.from.ensures)))
